-- The program over its whole input (RULES 7), byte by byte: the bytes since the last newline are held.
use Rattle.std.specs.Prelude.{Bool, true, false, cond, List, [], ◌∷◌, ◌++◌, ℕ, ◌-◌, ◌^◌, eqb, length, take}
use Rattle.gtb.specs.declared.Refusal.{Refusal}
use Rattle.lines.specs.Text.{newline, names_outcome}
use Rattle.session.specs.declared.Outcome.TheVariants.{Refused}
use Rattle.capture.specs.declared.Phase.{Phase}
use Rattle.capture.specs.declared.Phase.TheVariants.{ShapeNames, ShapeValues, WordNames, Words, Ended}
use Rattle.capture.specs.declared.Tally.{Tally}
use Rattle.capture.specs.declared.Answer.{Answer}
use Rattle.capture.specs.declared.Answer.TheVariants.{Nothing, Word, Head}
use Rattle.capture.specs.Output.{answer_text, answers_text, calls_text}
use Rattle.capture.specs.Judge.{judged_of, is_words, start}

-- a fault ends the program
abbrev pub is_ended : Phase → Bool
is_ended ShapeNames = false
is_ended ShapeValues = false
is_ended WordNames = false
is_ended Words = false
is_ended (Ended f) = true

-- what some bytes of input lead to: the tally, the bytes of the line that they end in, and the answers on the way
pub record Fed : Type 0 where
  pub tally : Tally
  pub held : List ℕ
  pub answers : List Answer

-- the same after some answers
abbrev pub after : List Answer → Fed → Fed
after answers r = record { tally = r.tally; held = r.held; answers = answers ++ r.answers }

-- a newline ends a line, which is judged
unfoldable pub feed : Tally → List ℕ → List ℕ → Fed
feed t held [] = record { tally = t; held = held; answers = [] }
feed t held (b ∷ bytes) =
    elim (eqb b newline) [
      | true ↦ after ((judged_of t held).answer ∷ []) (feed (judged_of t held).tally [] bytes)
      | false ↦ feed t (held ++ (b ∷ [])) bytes
    ]

-- a last line without its newline is refused with 10, as is a missing one of the first three; `whole` says that no line was begun
abbrev pub last_in : Phase → Bool → Answer
last_in ShapeNames whole = Head Refusal.Syntax
last_in ShapeValues whole = Head Refusal.Syntax
last_in WordNames whole = Head Refusal.Syntax
last_in Words whole = cond whole Nothing (Word (Refused Refusal.Syntax))
last_in (Ended f) whole = Nothing

abbrev pub last_of : Tally → List ℕ → Answer
last_of t held = last_in t.phase (eqb (length held) 0)

-- the second table comes once word lines are read
abbrev pub table_in : Phase → List ℕ → List ℕ
table_in p calls = cond (is_words p) (calls_text calls) []

-- the output at the end of the input
unfoldable pub closing : Tally → List ℕ → List ℕ
closing t held = answer_text (last_of t held) ++ table_in t.phase t.session.calls

-- what is left to write
abbrev pub remaining : Fed → List ℕ
remaining r = answers_text r.answers ++ closing r.tally r.held

abbrev pub written : Fed → List ℕ
written r = names_outcome ++ remaining r

-- at most so many bytes are read; what follows counts as absent
abbrev pub read_limit : ℕ
read_limit = 2 ^ 32 - 1

-- what an input leads to
abbrev pub fed_by : List ℕ → Fed
fed_by input = feed start [] (take read_limit input)

-- what the program writes for an input
unfoldable pub output_of : List ℕ → List ℕ
output_of input = written (fed_by input)

-- the answers to an input, that at its end with them
abbrev pub answers_of : List ℕ → List Answer
answers_of input = (fed_by input).answers ++ (last_of (fed_by input).tally (fed_by input).held ∷ [])
