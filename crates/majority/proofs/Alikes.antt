-- Reading by vote looks at the first n - 1 slopes alone.
use mathlib.Core.Path.{◌≡◌, refl, ap}
use mathlib.Core.Bool.{not}
use mathlib.Core.List.{List}
use Prim.Native.Nat.{ℕ}
use lib.Dec.{eqb}
use Rattle.gtb.specs.declared.Shape.{Shape}
use Rattle.gtb.specs.Alike.{reslope, Alike}
use Rattle.correction.specs.Error.{on_check}
use Rattle.correction.proofs.Slopes.{AlikeReader, check_alike}
use Rattle.majority.specs.Majority.{voted_at, vote}
use Rattle.majority.proofs.Votes.{majority_cong}

change_alike : (s : Shape) (slopes : List ℕ) → Alike s slopes → (f : ℕ → ℕ) (j : ℕ) → voted_at (reslope s slopes) f j ≡ voted_at s f j
unfolding voted_at
change_alike s slopes alike f j = majority_cong s.n (on_check (reslope s slopes) f j) (on_check s f j) (check_alike s slopes alike f j)

pub vote_alike : AlikeReader vote
vote_alike = record {
  found = λ s slopes alike f j. ap (λ (x : ℕ). not (eqb x 0)) (change_alike s slopes alike f j);
  change = change_alike;
  bound = λ s slopes. refl;
  suits = λ s slopes. refl;
}
