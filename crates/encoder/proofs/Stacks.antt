-- The first row takes in one row after the other.
use mathlib.Core.Path.{refl, sym, ap, ◌∙◌}
use mathlib.Core.List.{List}
use Prim.Native.Nat.{ℕ, ◌+◌, ◌*◌, ◌≤◌}
use native.Mathlib.Nat.{zero-mul, one-mul, mul-le-mul_right}
use native.Mathlib.Omega.{arith}
use Rattle.parity.specs.Xor.{◌⊕◌, xor_sum}
use Rattle.parity.proofs.Xors.{zero_l}
use Rattle.parity.proofs.XorSums.{xs_zero, more}
use Rattle.gtb.specs.Square.{at}
use Rattle.parity.specs.Lists.{Written}

-- each other row lies after the first
pub after_first : (q r : ℕ) → 1 ≤ r → q ≤ r * q
after_first q r l =
    let after : 1 * q ≤ r * q = mul-le-mul_right q l in
    omega (arith, one-mul q)

module _ (q : ℕ) (w : List ℕ) where
  column : ℕ → ℕ → ℕ
  column c r = at w (r * q + c)

  pub stacking_none : Written 0 q (λ c. xor_sum 1 (λ r. at w (r * q + c))) w w
  unfolding column
  stacking_none = record {
    size = refl;
    inside = λ i l. ap (at w) (omega (arith, zero-mul q)) ∙ sym (zero_l (column i 0)) ∙ more 0 (column i) (sym (xs_zero (column i)));
    below = λ j l. refl;
    above = λ j l. refl;
  }

  pub stacking_more : (r : ℕ) (w' w'' : List ℕ) → 1 ≤ r → Written 0 q (λ c. xor_sum r (λ k. at w (k * q + c))) w w'
      → Written 0 q (λ c. at w' (0 + c) ⊕ at w' (r * q + c)) w' w'' → Written 0 q (λ c. xor_sum (r + 1) (λ k. at w (k * q + c))) w w''
  unfolding column
  stacking_more r w' w'' l so_far joined = record {
    size = joined.size ∙ so_far.size;
    inside = λ i lt.
        joined.inside i lt ∙ ap (λ (x : ℕ). at w' (0 + i) ⊕ x) (so_far.above (r * q + i) (omega (arith, after_first q r l)))
        ∙ more r (column i) (so_far.inside i lt);
    below = λ j lt. joined.below j lt ∙ so_far.below j lt;
    above = λ j lt. joined.above j lt ∙ so_far.above j lt;
  }
