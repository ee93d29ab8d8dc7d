-- A number is shown to be an order by computing all products below it.
use mathlib.Core.Path.{◌≡◌, sym, ap, ◌∙◌}
use mathlib.Core.Bool.{Bool, true, ◌&&◌, ◌||◌}
use mathlib.Core.Logic.{⊎_elim}
use Prim.Native.Nat.{ℕ, ◌+◌, ◌*◌, ◌/◌, ◌%◌, ◌<◌}
use native.Mathlib.Nat.{add-mul, mul_right_comm, add-mul-mod_self_right, mod-add-div', mod-lt}
use native.Mathlib.Omega.{arith}
use lib.Dec.{eqb, ltb}
use borrow.Author.Tests.{eqb-true, ltb-true}
use Rattle.parity.specs.Count.{any, all}
use Rattle.parity.specs.Cyclic.{Order}
use Rattle.parity.proofs.Tests.{and_left, and_right, or_cases, any_elim, all_elim}

-- d is 0, or some multiple of it is 1 modulo q
unfoldable pub invertible : ℕ → ℕ → Bool
invertible q d = eqb d 0 || any q (λ e. eqb (d * e % q) 1)

-- q is odd, above 1, and each number below q but 0 is invertible
unfoldable pub order_test : ℕ → Bool
unfolding invertible any all
order_test q = eqb (q % 2) 1 && (ltb 1 q && all q (invertible q))

-- a factor may be reduced first
pub mod_mul_mod : (d e q : ℕ) → d % q * e % q ≡ d * e % q
mod_mul_mod d e q =
    sym (add-mul-mod_self_right (d % q * e) (d / q * e) q)
    ∙ ap (λ (k : ℕ). k % q) (ap (λ (k : ℕ). d % q * e + k) (mul_right_comm (d / q) e q) ∙ sym (add-mul (d % q) (d / q * q) e) ∙ ap (λ (k : ℕ). k * e) (mod-add-div' d q))

-- what the test of one number shows
has_inverse : (q r : ℕ) → invertible q r ≡ true → (r ≡ 0 → ⊥) → (e : ℕ) × (r * e % q ≡ 1)
unfolding invertible
has_inverse q r t ne =
    ⊎_elim (λ (z : eqb r 0 ≡ true). absurd (ne (eqb-true r 0 z))) found (or_cases (eqb r 0) (any q (λ e. eqb (r * e % q) 1)) t)
  where
    found : any q (λ e. eqb (r * e % q) 1) ≡ true → (e : ℕ) × (r * e % q ≡ 1)
    found h = let (e, below, one) = any_elim q (λ e. eqb (r * e % q) 1) h in (e, eqb-true (r * e % q) 1 one)

-- a number that passes the test is an order: `order-of 31 refl` under `unfolding order_test`
pub order_of : (q : ℕ) → order_test q ≡ true → Order q
unfolding order_test
order_of q t = record { odd = eqb-true (q % 2) 1 (and_left (eqb (q % 2) 1) (ltb 1 q && all q (invertible q)) t); inverse = inverse }
  where
    rest : (ltb 1 q && all q (invertible q)) ≡ true
    rest = and_right (eqb (q % 2) 1) (ltb 1 q && all q (invertible q)) t

    inverse : (d : ℕ) → (d % q ≡ 0 → ⊥) → (e : ℕ) × (d * e % q ≡ 1)
    inverse d ne =
        let below : d % q < q = mod-lt d (omega (arith, ltb-true 1 q (and_left (ltb 1 q) (all q (invertible q)) rest))) in
        let each = all_elim q (invertible q) (and_right (ltb 1 q) (all q (invertible q)) rest) (d % q) below in
        let (e, one) = has_inverse q (d % q) each ne in
        (e, sym (mod_mul_mod d e q) ∙ one)

-- nothing more: 1 is an order too, with nothing to invert
pub order_pos : (q : ℕ) → Order q → 0 < q
order_pos q o = omega arith
