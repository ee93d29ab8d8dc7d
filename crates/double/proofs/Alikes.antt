-- Reading two wrong symbols looks at the first n - 1 slopes alone.
use mathlib.Core.Path.{◌≡◌, refl, ap, ap₂, ◌∙◌}
use mathlib.Core.Bool.{Bool, not, ◌&&◌}
use mathlib.Core.List.{List}
use Prim.Native.Nat.{ℕ}
use lib.Dec.{eqb}
use Rattle.parity.proofs.First.{first_cong}
use Rattle.parity.proofs.Tests.{any_cong}
use Rattle.gtb.specs.declared.Shape.{Shape}
use Rattle.gtb.specs.Shape.{word_length}
use Rattle.gtb.specs.Square.{line_of, syndrome, silent_test}
use Rattle.gtb.specs.Alike.{reslope, Alike}
use Rattle.gtb.proofs.Alikes.{silent_alike}
use Rattle.correction.specs.Error.{on_check, off}
use Rattle.correction.proofs.Slopes.{AlikeReader, check_alike}
use Rattle.double.specs.Double.{single, two_at, two}

module _ (s : Shape) (slopes : List ℕ) (alike : Alike s slopes) where
  -- a row has no slope
  row_alike : (f : ℕ → ℕ) (j : ℕ) → on_check (reslope s slopes) f j 0 ≡ on_check s f j 0
  unfolding syndrome line_of
  row_alike f j = refl

  single_alike : (f : ℕ → ℕ) → single (reslope s slopes) f ≡ single s f
  unfolding single
  single_alike f =
      any_cong (word_length s) _ _
      (λ i l. silent_alike s slopes alike (off f i (on_check (reslope s slopes) f i 0)) ∙ ap (λ (x : ℕ). silent_test s (off f i x)) (row_alike f i))

  change_alike : (f : ℕ → ℕ) (j : ℕ) → two_at (reslope s slopes) f j ≡ two_at s f j
  unfolding two_at
  change_alike f j =
      first_cong s.n _ _ _ _
      (λ t l.
      ap₂ (λ (x : ℕ) (b : Bool). not (eqb x 0) && b) (check_alike s slopes alike f j t l)
      (single_alike (off f j (on_check (reslope s slopes) f j t)) ∙ ap (λ (x : ℕ). single s (off f j x)) (check_alike s slopes alike f j t l)))
      (check_alike s slopes alike f j)

pub two_alike : AlikeReader two
two_alike = record {
  found = λ s slopes alike f j. ap (λ (x : ℕ). not (eqb x 0)) (change_alike s slopes alike f j);
  change = change_alike;
  bound = λ s slopes. refl;
  suits = λ s slopes. refl;
}
