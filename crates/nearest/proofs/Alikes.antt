-- Reading the nearest codeword looks at the first n - 1 slopes alone.
use mathlib.Core.Path.{◌≡◌, refl, ap, ap₂, ◌∙◌}
use mathlib.Core.Bool.{Bool, not, ◌&&◌, ◌||◌}
use mathlib.Core.List.{List}
use Prim.Native.Nat.{ℕ, zero, suc, ◌-◌}
use lib.Dec.{eqb}
use Rattle.parity.proofs.First.{first_cong}
use Rattle.parity.proofs.Lowest.{lowest_cong}
use Rattle.parity.proofs.Tests.{any_cong}
use Rattle.gtb.specs.declared.Shape.{Shape}
use Rattle.gtb.specs.Shape.{word_length}
use Rattle.gtb.specs.Alike.{reslope, Alike}
use Rattle.gtb.proofs.Alikes.{silent_alike}
use Rattle.correction.specs.Error.{on_check, off}
use Rattle.correction.proofs.Slopes.{AlikeReader, check_alike}
use Rattle.nearest.specs.Nearest.{reaches, steps, nearest_at, nearest}

module _ (s : Shape) (slopes : List ℕ) (alike : Alike s slopes) where
  reaches_alike : (k : ℕ) (f : ℕ → ℕ) → reaches (reslope s slopes) k f ≡ reaches s k f
  unfolding reaches
  reaches_alike zero f = silent_alike s slopes alike f
  reaches_alike (suc k) f =
      ap₂ (λ (x y : Bool). x || y) (reaches_alike k f)
      (any_cong (word_length s) _ _
      (λ j lj.
      any_cong s.n _ _
      (λ t lt.
      reaches_alike k (off f j (on_check (reslope s slopes) f j t)) ∙ ap (λ (x : ℕ). reaches s k (off f j x)) (check_alike s slopes alike f j t lt))))

  steps_alike : (f : ℕ → ℕ) → steps (reslope s slopes) f ≡ steps s f
  unfolding steps
  steps_alike f = lowest_cong s.n _ _ (λ k l. ap not (reaches_alike k f))

  change_alike : (f : ℕ → ℕ) (j : ℕ) → nearest_at (reslope s slopes) f j ≡ nearest_at s f j
  unfolding nearest_at
  change_alike f j =
      first_cong s.n _ _ _ _
      (λ t lt.
      ap₂ (λ (x : ℕ) (b : Bool). not (eqb x 0) && b) (check_alike s slopes alike f j t lt)
      (reaches_alike (steps (reslope s slopes) f - 1) (off f j (on_check (reslope s slopes) f j t))
      ∙ ap₂ (λ (k x : ℕ). reaches s (k - 1) (off f j x)) (steps_alike f) (check_alike s slopes alike f j t lt)))
      (check_alike s slopes alike f j)

pub nearest_alike : AlikeReader nearest
nearest_alike = record {
  found = λ s slopes alike f j. ap (λ (x : ℕ). not (eqb x 0)) (change_alike s slopes alike f j);
  change = change_alike;
  bound = λ s slopes. refl;
  suits = λ s slopes. refl;
}
