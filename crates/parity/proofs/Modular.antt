-- Equations modulo q: what may be cancelled, and linear equations solved.
use mathlib.Core.Path.{◌≡◌, sym, ap, ◌∙◌}
use Prim.Native.Nat.{ℕ, ◌+◌, ◌-◌, ◌*◌, ◌%◌, ◌<◌, ◌≤◌}
use native.Mathlib.Nat.{add_comm, add-mul, mul_comm, mul-suc, mul_right_comm, one-mul, add-zero, le_of_lt, mod-add-mod, add-mod-mod, mod-eq_of_lt, add-mod_right, add-mul-mod_self_right}
use native.Mathlib.Omega.{arith}
use Rattle.parity.specs.Cyclic.{Order}
use Rattle.parity.proofs.Orders.{mod_mul_mod, order_pos}

-- the same added to both sides
pub cancel_add : (q x y z : ℕ) → 0 < q → (x + z) % q ≡ (y + z) % q → x % q ≡ y % q
cancel_add q x y z pos h = sym (undo x) ∙ ap (λ (k : ℕ). (k + z * (q - 1)) % q) h ∙ undo y
  where
    around : z * q ≡ z * (q - 1) + z
    around = ap (λ (k : ℕ). z * k) (omega arith) ∙ mul-suc z (q - 1)

    undo : (x : ℕ) → ((x + z) % q + z * (q - 1)) % q ≡ x % q
    undo x =
        mod-add-mod (x + z) q (z * (q - 1)) ∙ ap (λ (k : ℕ). k % q) (omega (arith, around)) ∙ add-mul-mod_self_right x z q

-- a factor and its inverse cancel
pub undo_mul : (q d e x : ℕ) → d * e % q ≡ 1 → d * x % q * e % q ≡ x % q
undo_mul q d e x one =
    mod_mul_mod (d * x) e q ∙ ap (λ (k : ℕ). k % q) (mul_right_comm d x e) ∙ sym (mod_mul_mod (d * e) x q)
    ∙ ap (λ (k : ℕ). k * x % q) one ∙ ap (λ (k : ℕ). k % q) (one-mul x)

-- both sides multiplied by a number that is no multiple of q
pub cancel_mul : (q : ℕ) → Order q → (d x y : ℕ) → (d % q ≡ 0 → ⊥) → d * x % q ≡ d * y % q → x % q ≡ y % q
cancel_mul q o d x y ne h =
    let (e, one) = o.inverse d ne in
    sym (undo_mul q d e x one) ∙ ap (λ (k : ℕ). k * e % q) h ∙ undo_mul q d e y one

-- z is x negated, so that x + z is k turns: where y + z is whole turns too, y is x modulo q
pub no_step : (q k x y z : ℕ) → x + z ≡ k * q → (y + z) % q ≡ 0 → x % q ≡ y % q
no_step q k x y z around h =
    ap (λ (i : ℕ). i % q) (sym (add-zero x)) ∙ ap (λ (i : ℕ). (x + i) % q) (sym h) ∙ add-mod-mod x (y + z) q
    ∙ ap (λ (i : ℕ). i % q) (omega arith) ∙ add-mul-mod_self_right y k q

-- numbers with equal opposites are equal
pub opposite : (q a b : ℕ) → a < q → b < q → (q - a) % q ≡ (q - b) % q → a ≡ b
opposite q a b la lb h =
    sym (turned a b la lb) ∙ ap (λ (k : ℕ). (k + (a + b)) % q) (sym h) ∙ ap (λ (k : ℕ). ((q - a) % q + k) % q) (add_comm a b)
    ∙ turned b a lb la
  where
    turned : (a b : ℕ) → a < q → b < q → ((q - b) % q + (a + b)) % q ≡ a
    turned a b la lb =
        mod-add-mod (q - b) q (a + b) ∙ ap (λ (k : ℕ). k % q) (omega arith) ∙ add-mod_right a q ∙ mod-eq_of_lt la

-- a number and its opposite, each times r, make whole turns
whole : (q a r : ℕ) → a ≤ q → a * r + (q - a) * r ≡ r * q
whole q a r le = sym (add-mul a (q - a) r) ∙ ap (λ (k : ℕ). k * r) (omega arith) ∙ mul_comm q r

-- x + a × r = L modulo q has one solution x below q
pub solve : (q a r L : ℕ) → a ≤ q → L < q → ((L + (q - a) * r) % q + a * r) % q ≡ L
solve q a r L le l =
    mod-add-mod (L + (q - a) * r) q (a * r) ∙ ap (λ (k : ℕ). k % q) (omega (arith, whole q a r le))
    ∙ add-mul-mod_self_right L r q ∙ mod-eq_of_lt l

pub solve_only : (q a r L x : ℕ) → a ≤ q → x < q → (x + a * r) % q ≡ L → x ≡ (L + (q - a) * r) % q
solve_only q a r L x le l h =
    sym
    (ap (λ (k : ℕ). (k + (q - a) * r) % q) (sym h) ∙ mod-add-mod (x + a * r) q ((q - a) * r)
    ∙ ap (λ (k : ℕ). k % q) (omega (arith, whole q a r le)) ∙ add-mul-mod_self_right x r q ∙ mod-eq_of_lt l)

-- how far it is from a up to b, modulo q
step : ℕ → ℕ → ℕ → ℕ
step q a b = b + (q - a)

-- the step between different numbers is no multiple of q
step_nonzero : (q a b : ℕ) → a < q → b < q → (a ≡ b → ⊥) → step q a b % q ≡ 0 → ⊥
unfolding step
step_nonzero q a b la lb ne z =
    ne (sym (mod-eq_of_lt la) ∙ no_step q 1 a b (q - a) (omega (arith, one-mul q)) z ∙ mod-eq_of_lt lb)

-- r steps lead from x + a × r to x + b × r
stepped : (q a b x r : ℕ) → a ≤ q → (step q a b * r + (x + a * r) % q) % q ≡ (x + b * r) % q
unfolding step
stepped q a b x r le =
    add-mod-mod (step q a b * r) (x + a * r) q
    ∙ ap (λ (k : ℕ). k % q) (omega (arith, add-mul b (q - a) r, whole q a r le))
    ∙ add-mul-mod_self_right (x + b * r) r q

-- x + a × r and x + b × r, modulo q, decide r where a and b differ
pub cross : (q : ℕ) → Order q → (a b : ℕ) → a < q → b < q → (a ≡ b → ⊥) → (x r y s : ℕ)
    → (x + a * r) % q ≡ (y + a * s) % q → (x + b * r) % q ≡ (y + b * s) % q → r % q ≡ s % q
cross q o a b la lb ne x r y s ha hb =
    cancel_mul q o (step q a b) r s (step_nonzero q a b la lb ne)
    (cancel_add q (step q a b * r) (step q a b * s) ((x + a * r) % q) (order_pos q o)
    (stepped q a b x r (le_of_lt la) ∙ hb ∙ sym (stepped q a b y s (le_of_lt la))
    ∙ ap (λ (k : ℕ). (step q a b * s + k) % q) (sym ha)))
