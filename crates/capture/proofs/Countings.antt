-- What is counted are the answers of each kind, as long as no number is full.
use mathlib.Core.Path.{◌≡◌, refl, ◌∙◌}
use mathlib.Core.Bool.{Bool, true, false}
use mathlib.Core.List.{List, [], ◌∷◌, ◌++◌}
use Prim.Native.Nat.{ℕ, ◌+◌, ◌^◌, ◌≤◌, ◌<◌}
use native.Mathlib.Omega.{arith}
use borrow.Author.Tests.{ne_eqb}
use lib.Dec.{eqb}
use lib.ListN.{length, take, length-take}
use Rattle.parity.specs.Count.{bit}
use Rattle.session.specs.declared.Outcome.TheVariants.{Taken, Again, Refused}
use Rattle.capture.specs.declared.Answer.{Answer}
use Rattle.capture.specs.declared.Answer.TheVariants.{Nothing, Word, Head}
use Rattle.capture.specs.declared.Counts.{Counts}
use Rattle.capture.specs.Counting.{none, counted, counted_in, is_kind, among, amounts}
use Rattle.capture.specs.declared.Phase.{Phase}
use Rattle.capture.specs.declared.Phase.TheVariants.{ShapeNames, ShapeValues, WordNames, Words, Ended}
use Rattle.capture.specs.Judge.{start}
use Rattle.capture.specs.Feed.{last_in, last_of, read_limit, fed_by, answers_of}
use Rattle.capture.proofs.Feeds.{feed_few}

pub counted_append : (c : Counts) (a b : List Answer) → counted_in c (a ++ b) ≡ counted_in (counted_in c a) b
unfolding counted_in
counted_append c [] b = refl
counted_append c (x ∷ a) b = counted_append (counted c x) a b

-- these counts and the answers of each kind
abbrev with : Counts → List Answer → Counts
with c answers = record { taken = c.taken + among (is_kind 0) answers; again = c.again + among (is_kind 1) answers; refused = c.refused + among (is_kind 2) answers }

-- no count gets beyond its limit with so many words more
abbrev Room : Counts → ℕ → Type 0
Room c words = c.taken + c.again + c.refused + words < 2 ^ 32

counts_are : {t a r t' a' r' : ℕ} → t ≡ t' → a ≡ a' → r ≡ r' → ◌≡◌ {A = Counts} (record { taken = t; again = a; refused = r }) (record { taken = t'; again = a'; refused = r' })
counts_are et ea er = λ i. record { taken = et i; again = ea i; refused = er i }

-- a word, in whichever way it is answered
abbrev is_word : Answer → Bool
is_word Nothing = false
is_word (Word r) = true
is_word (Head e) = false

module _ (c : Counts) (answers : List Answer) (n : ℕ) where
  one : (a : Answer) → Room c (bit (is_word a) + n) → Room (counted c a) n × (with (counted c a) answers ≡ with c (a ∷ answers))
  unfolding among bit
  one Nothing room = (omega arith, counts_are (omega arith) (omega arith) (omega arith))
  one (Word (Taken p k)) room = (omega arith, counts_are (omega arith) (omega arith) (omega arith))
  one (Word (Again p k)) room = (omega arith, counts_are (omega arith) (omega arith) (omega arith))
  one (Word (Refused f)) room = (omega arith, counts_are (omega arith) (omega arith) (omega arith))
  one (Head e) room = (omega arith, counts_are (omega arith) (omega arith) (omega arith))

counted_with : (c : Counts) (answers : List Answer) → Room c (among is_word answers) → counted_in c answers ≡ with c answers
unfolding counted_in among
counted_with c [] room = counts_are (omega arith) (omega arith) (omega arith)
counted_with c (a ∷ answers) room =
    let h = one c answers (among is_word answers) a room in
    counted_with (counted c a) answers h.0 ∙ h.1

-- so they are the numbers of answers, if there are fewer than 2^32 words
pub counted_amounts : (answers : List Answer) → among is_word answers < 2 ^ 32 → counted_in none answers ≡ amounts answers
unfolding amounts
counted_amounts answers l = counted_with none answers (omega arith) ∙ counts_are (omega arith) (omega arith) (omega arith)

-- ---- no more words than bytes
words_few : (answers : List Answer) → among is_word answers ≤ length answers
unfolding among bit
words_few [] = omega arith
words_few (Nothing ∷ answers) = omega (arith, words_few answers)
words_few (Word r ∷ answers) = omega (arith, words_few answers)
words_few (Head e ∷ answers) = omega (arith, words_few answers)

words_last : (answers : List Answer) (a : Answer) → among is_word (answers ++ (a ∷ [])) ≡ among is_word answers + bit (is_word a)
unfolding among
words_last [] a = omega arith
words_last (x ∷ answers) a = omega (arith, words_last answers a)

last_word : (p : Phase) (held : List ℕ) → bit (is_word (last_in p (eqb (length held) 0))) ≤ length held
unfolding bit
last_word ShapeNames held = omega arith
last_word ShapeValues held = omega arith
last_word WordNames held = omega arith
last_word Words [] = omega arith
last_word Words (b ∷ held) = rw (ne_eqb (length (b ∷ held)) 0 (λ e. omega arith)) (omega arith)
last_word (Ended f) held = omega arith

-- the answers to an input, counted, are the numbers of answers of each kind
pub counts_exact : (input : List ℕ) → counted_in none (answers_of input) ≡ amounts (answers_of input)
counts_exact input =
    let r = fed_by input in
    counted_amounts (answers_of input)
    (omega (
      arith,
      words_last r.answers (last_of r.tally r.held),
      words_few r.answers,
      last_word r.tally.phase r.held,
      feed_few (take read_limit input) start [],
      length-take read_limit input,
    ))
