-- Values that each occur an even number of times: half of them as a list.
use mathlib.Core.Path.{◌≡◌, refl, sym, ap, ◌∙◌}
use mathlib.Core.Bool.{Bool, true, false, ◌&&◌}
use mathlib.Core.Logic.{⊎_elim}
use mathlib.Core.List.{List, [], ◌∷◌}
use Prim.Native.Nat.{ℕ, zero, suc, ◌+◌, ◌-◌, ◌*◌, ◌/◌, ◌%◌, ◌<◌}
use native.Mathlib.Omega.{arith}
use lib.Dec.{eqb}
use borrow.Author.Tests.{eq-eqb, eqb-true}
use Rattle.parity.specs.Count.{bit, sum, count}
use Rattle.parity.proofs.Tests.{either, and_both}
use Rattle.parity.proofs.Sums.{sum_cong, sum_add, sum_pick, sum_term, count_sum, bit_true, bit_false}
use Rattle.parity.proofs.Only.{sum_by_value}
use Rattle.parity.proofs.Polynomials.{sum_of}

-- x put m times before a list
times : ℕ → ℕ → List ℕ → List ℕ
times zero x ys = ys
times (suc m) x ys = x ∷ times m x ys

sum_times : (m x : ℕ) (ys : List ℕ) (f : ℕ → ℕ) → sum_of (times m x ys) f ≡ m * f x + sum_of ys f
unfolding times sum_of
sum_times zero x ys f = omega arith
sum_times (suc m) x ys f = omega (arith, sum_times m x ys f)

-- each number below n as often as m says
spread : (n : ℕ) (m : ℕ → ℕ) → (ys : List ℕ) × ((f : ℕ → ℕ) → sum n (λ i. m i * f i) ≡ sum_of ys f)
unfolding sum sum_of
spread zero m = ([], λ f. refl)
spread (suc n) m =
    let (ys, e) = spread n m in
    (times (m n) n ys, λ f. omega (arith, e f, sum_times (m n) n ys f))

module _ (N q : ℕ) (A : ℕ → Bool) (w : ℕ → ℕ) (below : (i : ℕ) → i < N → w i < q) where
  -- how many members have the value L
  has : ℕ → ℕ
  has L = count N (λ i. eqb (w i) L && A i)

  -- a member's value and others, each for two members
  pub halves : ((L : ℕ) → L < q → count N (λ i. eqb (w i) L && A i) % 2 ≡ 0) → (j : ℕ) → j < N → A j ≡ true
      → (ys : List ℕ) × ((f : ℕ → ℕ) → sum N (λ i. bit (A i) * f (w i)) ≡ 2 * (f (w j) + sum_of ys f))
  unfolding has
  halves even j l h =
      let (ys, e) = spread q left in
      (ys, λ f. sum_by_value N q A w below f ∙ sum_cong q _ _ (λ L lL. each f L lL) ∙ sum_add q _ _ ∙ omega (arith, sum_add q (λ L. bit (eqb L (w j)) * f L) (λ L. left L * f L), sum_pick q (w j) f (below j l), e f))
    where
      left : ℕ → ℕ
      left L = has L / 2 - bit (eqb L (w j))

      twice : (L : ℕ) → L < q → has L ≡ 2 * (bit (eqb L (w j)) + left L)
      twice L lL =
          ⊎_elim
          (λ (t : eqb L (w j) ≡ true).
          let same = and_both (eq-eqb (w j) L (sym (eqb-true L (w j) t))) h in
          omega (arith, bit_true t, even L lL, bit_true same, sum_term N (λ i. bit (eqb (w i) L && A i)) j l, count_sum N (λ i. eqb (w i) L && A i)))
          (λ (f : eqb L (w j) ≡ false). omega (arith, bit_false f, even L lL)) (either (eqb L (w j)))

      each : (f : ℕ → ℕ) (L : ℕ) → L < q → has L * f L ≡ (bit (eqb L (w j)) * f L + left L * f L) + (bit (eqb L (w j)) * f L + left L * f L)
      each f L lL = omega (arith, ap (λ (k : ℕ). k * f L) (twice L lL))
