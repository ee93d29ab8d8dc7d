-- Reading the nearest stored word does what the paper asks.
use mathlib.Core.Path.{◌≡◌, sym, ap, ◌∙◌}
use mathlib.Core.List.{List}
use Prim.Native.Nat.{ℕ, ◌+◌, ◌^◌}
use lib.Dec.{eqb}
use lib.ListN.{length}
use borrow.Author.Tests.{eqb-true}
use Rattle.paper.specs.Paper as paper
use Rattle.gtb.specs.declared.Shape.{Shape}
use Rattle.gtb.specs.declared.Refusal.{Refusal}
use Rattle.gtb.specs.Shape.{of, word_length}
use Rattle.gtb.specs.Square.{narrow}
use Rattle.gtb.specs.Answer.{refusal_number, answer_number}
use Rattle.gtb.proofs.Words.{narrow_word}
use Rattle.gtb.proofs.Judging.{decides_eqb, test, last}
use Rattle.gtb.proofs.Conditions.{shape_tests, decides_width}
use Rattle.distance.proofs.Within.{changed_same, near_within, within_near}
use Rattle.std.specs.Prelude.{Result, Err}
use Rattle.correction.specs.Answer.{decoded_word}
use Rattle.correction.specs.Reading.{restored_by, accepted_by, read_of}
use Rattle.nearest.specs.Nearest.{nearest, Restoring}

module _ {s : Shape} {w w' : List ℕ} {r : Result ℕ Refusal} (x : Restoring s w w' r) where
  turn : (e : Refusal) → r ≡ Err e → (answer_number r ≡ 2 ^ 31 + refusal_number e) × (w' ≡ w)
  turn e h = (ap answer_number h, x.word ∙ ap (decoded_word w (restored_by nearest s w)) h)

  pub nearest_reading : paper.Nearest (of s) w w' (answer_number r)
  unfolding read_of
  nearest_reading =
      shape_tests s Err _ (turn Refusal.Shape) (turn Refusal.Slope) (λ _.
      test (eqb (length w) (word_length s)) _ _ (decides_eqb _ _) (turn Refusal.Length) (λ size.
      test (narrow s.b w) _ _ (decides_width s w) (turn Refusal.Width) (λ slim.
      last (accepted_by nearest s w) _ _
      (λ h. ((λ v y. let (k, m) = within_near s (narrow_word s w (eqb-true _ _ size) slim) y in x.none h v k m), turn Refusal.Far h))
      (λ h. let m = x.accepted _ h in
      ((λ none. none w' (near_within s m)), (near_within s m, ap answer_number h ∙ sym m.changed ∙ changed_same s w w'))))))
      x.answer

  pub nearest_asked : Restoring s w w' r × paper.Nearest (of s) w w' (answer_number r)
  nearest_asked = (x, nearest_reading)
