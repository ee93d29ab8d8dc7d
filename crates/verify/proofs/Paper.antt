-- The checker of proposals does what the paper asks.
use mathlib.Core.Path.{◌≡◌, ap}
use mathlib.Core.Bool.{Bool, true, false, ◌&&◌}
use mathlib.Core.List.{List}
use mathlib.Core.Logic.{◌⊎◌, inl, inr}
use Prim.Native.Nat.{ℕ}
use lib.Dec.{eqb}
use lib.ListN.{length}
use Rattle.paper.specs.Paper as paper
use Rattle.gtb.specs.declared.Shape.{Shape}
use Rattle.gtb.specs.Shape.{of, word_length}
use Rattle.gtb.specs.Square.{narrow}
use Rattle.gtb.proofs.Judging.{decides_eqb, decides_both, test}
use Rattle.gtb.proofs.Conditions.{shape_tests, decides_width}
use Rattle.decoder.proofs.Paper.{explains_explained, explained_explains}
use Rattle.std.specs.Prelude.{Result, Ok, Err}
use Rattle.gtb.specs.declared.Refusal.{Refusal}
use Rattle.verify.specs.Verify.{restores, verdict_of, verdict_number, Checking}

pub checking : (s : Shape) {w v : List ℕ} {r : Result Bool Refusal} → Checking s w v r → paper.Checking (of s) w v (verdict_number r)
unfolding verdict_of
checking s {w} {v} {r} x =
    shape_tests s Err _ (ap verdict_number) (ap verdict_number) (λ _.
    test (eqb (length w) (word_length s) && eqb (length v) (word_length s)) _ _ (decides_both _ _ (decides_eqb _ _) (decides_eqb _ _)) (ap verdict_number) (λ _.
    test (narrow s.b w && narrow s.b v) _ _ (decides_both _ _ (decides_width s w) (decides_width s v)) (ap verdict_number) (λ _. decide (restores s w v))))
    x.answer
  where
    decide : (t : Bool) → r ≡ Ok t
        → (paper.Explained (of s) w v × (verdict_number r ≡ 1)) ⊎ ((¬ paper.Explained (of s) w v) × (verdict_number r ≡ 0))
    decide true h = let (k, e) = x.yes h in inl (explains_explained s e, ap verdict_number h)
    decide false h = inr ((λ e. x.no h _ (explained_explains s e)), ap verdict_number h)

pub checking_asked : {s : Shape} {w v : List ℕ} {r : Result Bool Refusal} → Checking s w v r → Checking s w v r × paper.Checking (of s) w v (verdict_number r)
checking_asked {s} x = (x, checking s x)
