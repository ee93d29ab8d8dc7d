-- Answers to words, counted by kind (RULES 7.5).
use Rattle.std.specs.Prelude.{Bool, false, List, [], ◌∷◌, ℕ, ◌+◌, ◌-◌, ◌^◌, min, eqb}
use Rattle.parity.specs.Count.{bit}
use Rattle.session.specs.declared.Outcome.{Outcome}
use Rattle.session.specs.declared.Outcome.TheVariants.{Taken, Again, Refused}
use Rattle.capture.specs.declared.Answer.{Answer}
use Rattle.capture.specs.declared.Answer.TheVariants.{Nothing, Word, Head}
use Rattle.capture.specs.declared.Counts.{Counts}

-- before the first answer
abbrev pub none : Counts
none = record { taken = 0; again = 0; refused = 0 }

-- one more; a number that is full stays so
abbrev pub more : ℕ → ℕ
more k = min (k + 1) (2 ^ 32 - 1)

abbrev pub counted_by : Counts → Outcome → Counts
counted_by c (Taken p k) = record { taken = more c.taken; again = c.again; refused = c.refused }
counted_by c (Again p k) = record { taken = c.taken; again = more c.again; refused = c.refused }
counted_by c (Refused e) = record { taken = c.taken; again = c.again; refused = more c.refused }

-- the refused line of a fault in the first three lines is the answer to no word
abbrev pub counted : Counts → Answer → Counts
counted c Nothing = c
counted c (Word r) = counted_by c r
counted c (Head e) = c

unfoldable pub counted_in : Counts → List Answer → Counts
counted_in c [] = c
counted_in c (a ∷ answers) = counted_in (counted c a) answers

-- ---- the same without a limit

abbrev pub kind_of : Outcome → ℕ
kind_of (Taken p k) = 0
kind_of (Again p k) = 1
kind_of (Refused e) = 2

-- the answer to a word, of this kind
abbrev pub is_kind : ℕ → Answer → Bool
is_kind kind Nothing = false
is_kind kind (Word r) = eqb (kind_of r) kind
is_kind kind (Head e) = false

-- how many answers pass a test
unfoldable pub among : (Answer → Bool) → List Answer → ℕ
among test [] = 0
among test (a ∷ answers) = bit (test a) + among test answers

-- how many words were answered in each way
unfoldable pub amounts : List Answer → Counts
amounts answers = record { taken = among (is_kind 0) answers; again = among (is_kind 1) answers; refused = among (is_kind 2) answers }
