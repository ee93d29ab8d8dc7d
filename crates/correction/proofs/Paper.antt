-- A way of reading, by its number, does what the paper asks.
use mathlib.Core.Path.{◌≡◌, refl, sym, ap, ◌∙◌}
use mathlib.Core.Bool.{true}
use mathlib.Core.List.{List}
use Prim.Native.Nat.{ℕ, ◌+◌, ◌^◌}
use lib.Dec.{eqb}
use lib.ListN.{length}
use borrow.Author.Tests.{eqb-true}
use Rattle.parity.proofs.Tests.{clash}
use Rattle.paper.specs.Paper as paper
use Rattle.gtb.specs.declared.Shape.{Shape}
use Rattle.gtb.specs.declared.Refusal.{Refusal}
use Rattle.gtb.specs.Shape.{of, Lawful, word_length}
use Rattle.gtb.specs.Square.{line_of, at, narrow, syndrome, Word}
use Rattle.gtb.specs.Answer.{refusal_number, answer_number}
use Rattle.gtb.proofs.Words.{narrow_word}
use Rattle.gtb.proofs.Judging.{Decides, decides_eqb, test, last}
use Rattle.gtb.proofs.Conditions.{shape_tests, decides_width}
use Rattle.gtb.proofs.Stored.{line_same, value_same}
use Rattle.distance.specs.Distance.{differences}
use Rattle.distance.proofs.Within.{changed_same}
use Rattle.std.specs.Prelude.{Result, Err}
use Rattle.correction.specs.Answer.{decoded_word}
use Rattle.correction.specs.Reading.{Reader, Meaning, Reads, restored_by, accepted_by, read_of}

module _ (s : Shape) where
  -- the value of the check of direction t on digit j
  pub on_check_lem : (w : List ℕ) (t j : ℕ) → syndrome s (at w) t (line_of s t j) ≡ paper.value (of s) w t (paper.line (of s) t j)
  on_check_lem w t j = ap (syndrome s (at w) t) (line_same s t j) ∙ value_same s w t _

  -- only way 2 needs more than two directions
  pub every_shape : {way : ℕ} → (way ≡ 2 → ⊥) → Decides true (paper.TooFew (of s) way)
  every_shape other = record { holds = λ h. absurd (clash refl h); fails = λ h two. other two.0 }

pub record Named (way : ℕ) (reader : Reader) (Means : Meaning) (s : Shape) : Type 0 where
  pub number : refusal_number reader.refusal ≡ paper.unread way
  pub suits : Lawful s → Decides (reader.suits s) (paper.TooFew (of s) way)
  pub read : {w v : List ℕ} {k : ℕ} → Means s w v k → paper.Read (of s) way w v
  pub means : {w v : List ℕ} → Word s w → paper.Read (of s) way w v → (k : ℕ) × Means s w v k
  pub changed : {w v : List ℕ} {k : ℕ} → Means s w v k → differences s v w ≡ k

module _ {way : ℕ} {reader : Reader} {Means : Meaning} {s : Shape} (named : Named way reader Means s) {w w' : List ℕ} {r : Result ℕ Refusal} (x : Reads reader Means s w w' r) where
  turn : (e : Refusal) → r ≡ Err e → (answer_number r ≡ 2 ^ 31 + refusal_number e) × (w' ≡ w)
  turn e h = (ap answer_number h, x.word ∙ ap (decoded_word w (restored_by reader s w)) h)

  pub reading : paper.Reading (of s) way w w' (answer_number r)
  unfolding read_of
  reading =
      shape_tests s Err _ (turn Refusal.Shape) (turn Refusal.Slope) (λ law.
      test (reader.suits s) _ _ (named.suits law) (turn Refusal.Directions) (λ _.
      test (eqb (length w) (word_length s)) _ _ (decides_eqb _ _) (turn Refusal.Length) (λ size.
      test (narrow s.b w) _ _ (decides_width s w) (turn Refusal.Width) (λ slim.
      last (accepted_by reader s w) _ _
      (λ h. let (number, left) = turn reader.refusal h in
      ((λ v y. let (k, m) = named.means (narrow_word s w (eqb-true _ _ size) slim) y in x.none h v k m), (number ∙ ap (λ (k : ℕ). 2 ^ 31 + k) named.number, left)))
      (λ h. let m = x.accepted _ h in
      ((λ none. none w' (named.read m)), (named.read m, ap answer_number h ∙ sym (named.changed m) ∙ changed_same s w w')))))))
      x.answer

  -- both clauses of a reader's entry
  pub asked : Reads reader Means s w w' r × paper.Reading (of s) way w w' (answer_number r)
  asked = (x, reading)
