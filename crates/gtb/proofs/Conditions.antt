-- Tests 1, 18 and 3 are the paper's.
use mathlib.Core.Path.{◌≡◌, sym}
use mathlib.Core.Bool.{Bool, true, false, not, ◌&&◌}
use mathlib.Core.List.{List}
use mathlib.Core.Logic.{◌⊎◌, inl, inr, ⊎_elim}
use Prim.Native.Nat.{ℕ, ◌-◌, ◌^◌, ◌<◌, ◌≤◌}
use native.Mathlib.Nat.{eq-or-lt_of_le}
use native.Mathlib.Omega.{arith}
use native.Mathlib.Decide.{dec_lt}
use lib.Dec.{eqb, ltb}
use lib.ListN.{length, get_or}
use borrow.Author.Tests.{eqb-true, eq-eqb, eqb-false, leb-true, le-leb, ltb-true, ltb-false, not-true, not-false}
use Rattle.parity.specs.Count.{all}
use Rattle.parity.proofs.Tests.{either, clash, and_both, and_left, and_right, all_elim, any_elim, any_intro}
use Rattle.paper.specs.Paper as paper
use Rattle.gtb.specs.declared.Shape.{Shape}
use Rattle.gtb.specs.declared.Refusal.{Refusal}
use Rattle.gtb.specs.Shape.{of, orders, is_order, regular, fits_slope, sloped, lawful, shape_refusal, Lawful}
use Rattle.gtb.specs.Square.{narrow, at}
use Rattle.gtb.specs.Answer.{unless}
use Rattle.gtb.proofs.Judging.{Decides, passes, all_fails}

-- a shape from the paper's numbers
abbrev pub to : paper.Shape → Shape
to s = record { q = s.q; n = s.n; b = s.b; slopes = s.slopes }

-- ---- test 1
both : (x y : Bool) → (x && y) ≡ true → (x ≡ true) × (y ≡ true)
both x y h = (and_left x y h, and_right x y h)

le_ne : {a k : ℕ} → (a ≡ k → ⊥) → a ≤ k → a < k
le_ne ne l = ⊎_elim (λ e. absurd (ne e)) (λ lt. lt) (eq-or-lt_of_le l)

module _ (s : Shape) where
  regular_shape : regular s ≡ true → paper.InLists (of s)
  unfolding regular is_order orders
  regular_shape h =
      let (h₁, b32) = both _ _ h in
      let (h₂, b1) = both _ _ h₁ in
      let (h₃, n8) = both _ _ h₂ in
      let (h₄, nq) = both _ _ h₃ in
      let (o, n2) = both _ _ h₄ in
      let (i, l, e) = any_elim 10 (λ k. eqb (get_or orders k 0) s.q) o in
      record {
        order = (i, l, eqb-true _ _ e);
        directions = (leb-true _ _ n2, leb-true _ _ nq, leb-true _ _ n8);
        width = (leb-true _ _ b1, leb-true _ _ b32);
      }

  pub shape_regular : paper.InLists (of s) → regular s ≡ true
  unfolding regular is_order orders
  shape_regular p =
      let (i, l, e) = p.order in
      let (n2, nq, n8) = p.directions in
      let (b1, b32) = p.width in
      and_both
      (and_both (and_both (and_both (and_both (any_intro 10 (λ k. eqb (get_or orders k 0) s.q) i l (eq-eqb _ _ e)) (le-leb _ _ n2)) (le-leb _ _ nq)) (le-leb _ _ n8)) (le-leb _ _ b1))
      (le-leb _ _ b32)

  -- ---- test 18
  module _ (t : ℕ) (lt : t < s.n - 1) where
    unfit_slope : fits_slope s.q s.slopes t ≡ false → paper.WrongSlopes (of s)
    unfolding fits_slope
    unfit_slope h =
        ⊎_elim
        (λ (small : ltb (get_or s.slopes t 0) s.q ≡ true).
        let (u, lu, e) = all_fails t (λ u. not (eqb (get_or s.slopes u 0) (get_or s.slopes t 0))) (rw small at h) in
        (t, lt, inr (u, (omega arith), (λ same. omega arith), eqb-true _ _ (not-false _ e))))
        (λ (large : ltb (get_or s.slopes t 0) s.q ≡ false). (t, lt, inl (ltb-false _ _ large)))
        (either (ltb (get_or s.slopes t 0) s.q))

  sloped_apart : sloped s ≡ true → (t u : ℕ) → t < s.n - 1 → u < t → get_or s.slopes u 0 ≡ get_or s.slopes t 0 → ⊥
  unfolding sloped fits_slope
  sloped_apart h t u lt l =
      let fits : all t (λ u. not (eqb (get_or s.slopes u 0) (get_or s.slopes t 0))) ≡ true = and_right (ltb (get_or s.slopes t 0) s.q) _ (all_elim (s.n - 1) (fits_slope s.q s.slopes) h t lt) in
      eqb-false _ _ (not-true _ (all_elim t _ fits u l))

  sloped_right : sloped s ≡ true → ¬ paper.WrongSlopes (of s)
  unfolding sloped fits_slope
  sloped_right h (t, lt, inl large) = let l : get_or s.slopes t 0 < s.q = ltb-true _ _ (and_left (ltb (get_or s.slopes t 0) s.q) (all t (λ u. not (eqb (get_or s.slopes u 0) (get_or s.slopes t 0)))) (all_elim (s.n - 1) (fits_slope s.q s.slopes) h t lt)) in omega arith
  sloped_right h (t, lt, inr (u, lu, other, same)) =
      elim (dec_lt u t) [ yes l ↦ sloped_apart h t u lt l same | no l ↦ sloped_apart h u t lu (le_ne (λ e. other (sym e)) (omega arith)) (sym same) ]

  pub decides_shape : Decides (regular s) (¬ paper.InLists (of s))
  decides_shape = record { holds = λ no p. clash (shape_regular p) no; fails = λ h no. no (regular_shape h) }

  pub decides_slopes : Decides (sloped s) (paper.WrongSlopes (of s))
  unfolding sloped
  decides_slopes = record {
    holds = λ no. let (t, lt, f) = all_fails (s.n - 1) (fits_slope s.q s.slopes) no in unfit_slope t lt f;
    fails = sloped_right;
  }

  pub lawful_of : ¬ (¬ paper.InLists (of s)) → ¬ paper.WrongSlopes (of s) → Lawful s
  unfolding lawful
  lawful_of listed right = and_both (passes decides_shape listed) (passes decides_slopes right)

  -- both, as every entry begins with them
  pub shape_tests : {A Refused₁ Refused₁₈ Next : Type 0} (refuse : Refusal → A) (next : A) {r : A} → (r ≡ refuse Refusal.Shape → Refused₁) → (r ≡ refuse Refusal.Slope → Refused₁₈)
      → (lawful s ≡ true → r ≡ next → Next) → r ≡ unless (lawful s) (refuse (shape_refusal s)) next
      → ((¬ paper.InLists (of s)) × Refused₁) ⊎ ((¬ (¬ paper.InLists (of s))) × ((paper.WrongSlopes (of s) × Refused₁₈) ⊎ ((¬ paper.WrongSlopes (of s)) × Next)))
  unfolding lawful shape_refusal
  shape_tests refuse next {r} turn₁ turn₁₈ pass h =
      ⊎_elim
      (λ (good : regular s ≡ true).
      inr (
        decides_shape.fails good,
        ⊎_elim
            (λ (fit : sloped s ≡ true). inr (decides_slopes.fails fit, pass (rw (good, fit)) (rw (good, fit) at h)))
            (λ (unfit : sloped s ≡ false). inl (decides_slopes.holds unfit, turn₁₈ (rw (good, unfit) at h)))
            (either (sloped s)),
      ))
      (λ (bad : regular s ≡ false). inl (decides_shape.holds bad, turn₁ (rw bad at h)))
      (either (regular s))

  -- ---- test 3
  pub decides_width : (xs : List ℕ) → Decides (narrow s.b xs) (paper.Wide (of s) xs)
  unfolding narrow
  decides_width xs = record {
    holds = λ no. let (j, l, f) = all_fails (length xs) (λ j. ltb (at xs j) (2 ^ s.b)) no in (j, l, ltb-false _ _ f);
    fails = λ h w. let (j, l, wide) = w in let small : at xs j < 2 ^ s.b = ltb-true _ _ (all_elim (length xs) (λ j. ltb (at xs j) (2 ^ s.b)) h j l) in omega arith;
  }
