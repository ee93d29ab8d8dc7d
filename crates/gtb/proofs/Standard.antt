-- The slopes 0, 1, 2, ..: lines by direction and row alone, and never a refusal by test 18.
use mathlib.Core.Path.{◌≡◌, refl, ap, ◌∙◌, sym}
use mathlib.Core.Bool.{true, false}
use mathlib.Core.Logic.{⊎_elim}
use Prim.Native.Nat.{ℕ, zero, suc, ◌+◌, ◌-◌, ◌*◌, ◌/◌, ◌%◌, ◌≤◌, ◌<◌}
use native.Mathlib.Omega.{arith}
use lib.Dec.{eqb}
use lib.ListN.{get_or}
use borrow.Author.Tests.{eqb-true, not-false}
use Rattle.parity.specs.Count.{all}
use Rattle.parity.proofs.Tests.{either, clash, and_both, all_elim, all_intro}
use Rattle.gtb.specs.declared.Refusal.{Refusal}
use Rattle.gtb.specs.Shape.{standard_slopes, standard, regular, sloped, lawful, shape_refusal, slope_of}
use Rattle.gtb.specs.Square.{line_of}
use Rattle.gtb.proofs.Bounds.{regular_directions, regular_order}
use Rattle.gtb.proofs.Answers.{other_refusal, Foreign}
use Rattle.gtb.proofs.Slopes.{differs, slope_fits}

-- slope t of the list is t
own : (t : ℕ) → t < 7 → get_or standard_slopes t 0 ≡ t
unfolding all
own t l = eqb-true (get_or standard_slopes t 0) t (all_elim 7 (λ t. eqb (get_or standard_slopes t 0) t) refl t l)

-- the line of a position: (column + (t - 1) × row) modulo q
pub standard_line : (q n b t j : ℕ) → 1 ≤ t → t < 8 → line_of (standard q n b) t j ≡ (j % q + (t - 1) * (j / q)) % q
unfolding line_of slope_of
standard_line q n b zero j one l = absurd (omega arith)
standard_line q n b (suc t) j one l = ap (λ (x : ℕ). (j % q + x * (j / q)) % q) (own (suc t - 1) (omega arith))

pub standard_row : (q n b j : ℕ) → line_of (standard q n b) 0 j ≡ j / q
unfolding line_of
standard_row q n b j = refl

-- no two of the first seven are equal
new : (t : ℕ) → t < 7 → all t (differs standard_slopes t) ≡ true
unfolding all
new t l =
    all_intro t (differs standard_slopes t)
    (λ u lu.
    ⊎_elim (λ (d : differs standard_slopes t u ≡ true). d)
    (λ (d : differs standard_slopes t u ≡ false). absurd (omega (arith, same u d, lu, own u (omega arith), own t l)))
    (either (differs standard_slopes t u)))
  where
    same : (u : ℕ) → differs standard_slopes t u ≡ false → get_or standard_slopes u 0 ≡ get_or standard_slopes t 0
    same u d = eqb-true (get_or standard_slopes u 0) (get_or standard_slopes t 0) (not-false (eqb (get_or standard_slopes u 0) (get_or standard_slopes t 0)) d)

-- they pass test 18 where test 1 is passed
standard_sloped : (q n b : ℕ) → regular (standard q n b) ≡ true → sloped (standard q n b) ≡ true
unfolding sloped
standard_sloped q n b h =
    let few = regular_directions (standard q n b) h in
    let below : n ≤ q = regular_order (standard q n b) h in
    all_intro (n - 1) _ (λ t l. sym (slope_fits standard_slopes t (omega (arith, own t (omega arith))) (new t (omega arith))))

-- a standard shape is turned down by 1 or not at all
pub standard_refusal : (q n b : ℕ) → lawful (standard q n b) ≡ false → shape_refusal (standard q n b) ≡ Refusal.Shape
unfolding lawful shape_refusal
standard_refusal q n b h =
    ⊎_elim (λ (good : regular (standard q n b) ≡ true). absurd (clash (and_both good (standard_sloped q n b good)) h))
    (λ (bad : regular (standard q n b) ≡ false). rw bad)
    (either (regular (standard q n b)))

-- so 18 never comes of one
pub slope_foreign : (q n b : ℕ) → Foreign (standard q n b) Refusal.Slope
slope_foreign q n b = record {
  shape = λ no h. other_refusal Refusal.Shape Refusal.Slope refl (sym (standard_refusal q n b no) ∙ h);
  length = other_refusal _ _ refl;
  width = other_refusal _ _ refl;
  damage = other_refusal _ _ refl;
  page = other_refusal _ _ refl;
  count = other_refusal _ _ refl;
  function = other_refusal _ _ refl;
  tail = other_refusal _ _ refl;
}
