-- Polynomials by their coefficients a 0, a 1, .., the highest first: values by Horner's rule, roots divided off, and Newton's rule.
use mathlib.Core.Path.{◌≡◌, sym, ap, ◌∙◌, subst}
use mathlib.Core.List.{List, [], ◌∷◌}
use Prim.Native.Nat.{ℕ, zero, suc, ◌+◌, ◌*◌, ◌<◌, ◌≤◌, ◌∣◌}
use native.Mathlib.Nat.{add_comm, dvd-add, dvd-mul_left_of_dvd, le_of_dvd, not-suc-le-zero}
use native.Mathlib.Omega.{arith}
use Rattle.parity.specs.Cyclic.{Order}
use Rattle.parity.proofs.Residues.{rest, factor}

-- entry n is the value at x of a 0 X^n + .. + a n, by Horner's rule; the entries before it are the coefficients of the quotient by X - x
unfoldable pub over : ℕ → (ℕ → ℕ) → ℕ → ℕ
over x a zero = a 0
over x a (suc n) = x * over x a n + a (suc n)

-- divided by X - x and by X - y, the entries still follow Horner's rule for x
pub over_over : (x y : ℕ) (a : ℕ → ℕ) (n : ℕ) → over y (over x a) (suc n) ≡ x * over y (over x a) n + over y a (suc n)
unfolding over
over_over x y a zero = omega arith
over_over x y a (suc n) = omega (arith, ap (λ (k : ℕ). y * k) (over_over x y a n))

-- so the values at x and at y differ by y - x times that of the quotient
pub over_apart : (x y : ℕ) (a : ℕ → ℕ) (n : ℕ) → over y a (suc n) + x * over y (over x a) n ≡ over x a (suc n) + y * over y (over x a) n
unfolding over
over_apart x y a n = add_comm _ _ ∙ sym (over_over x y a n) ∙ add_comm _ _

-- the sum of f over a list
unfoldable pub sum_of : List ℕ → (ℕ → ℕ) → ℕ
sum_of [] f = 0
sum_of (y ∷ ys) f = f y + sum_of ys f

-- Newton's rule, modulo q, for the coefficients 1 to k of the product of X - y over the list
pub record Newton (q k : ℕ) (ys : List ℕ) (a : ℕ → ℕ) : Type 0 where
  pub each : (n : ℕ) → n < k → q ∣ suc n * a (suc n) + sum_of ys (λ y. y * over y a n)

-- the sum in it, one coefficient on
shifted : (z : ℕ) (a : ℕ → ℕ) (n : ℕ) (ys : List ℕ)
    → sum_of ys (λ y. y * over y (over z a) (suc n)) ≡ z * sum_of ys (λ y. y * over y (over z a) n) + sum_of ys (λ y. y * over y a (suc n))
unfolding sum_of
shifted z a n [] = omega arith
shifted z a n (y ∷ ys) = omega (arith, shifted z a n ys, ap (λ (k : ℕ). y * k) (over_over z y a n))

-- one of the list divided off: the rule holds with the others
pub newton_step : (q k z : ℕ) (ys : List ℕ) (a : ℕ → ℕ) → Newton q k (z ∷ ys) a → Newton q k ys (over z a)
unfolding over sum_of
newton_step q k z ys a h = record { each = each }
  where
    each : (n : ℕ) → n < k → q ∣ suc n * over z a (suc n) + sum_of ys (λ y. y * over y (over z a) n)
    each zero l = subst (λ (x : ℕ). q ∣ x) (omega arith) (h.each 0 l)
    each (suc n) l =
        subst (λ (x : ℕ). q ∣ x) (omega (arith, shifted z a n ys))
        (dvd-add q (dvd-mul_left_of_dvd q (each n (omega arith)) z) (h.each (suc n) l))

-- so the coefficients past the number of roots are 0
pub past_roots : (q k : ℕ) → Order q → k < q → (ys : List ℕ) (a : ℕ → ℕ) → Newton q k ys a → (j : ℕ) → sum_of ys (λ y. 1) < j → j ≤ k → q ∣ a j
unfolding over sum_of
past_roots q k o kq ys a h zero l jk = absurd (not-suc-le-zero l)
past_roots q k o kq [] a h (suc j) l jk =
    factor q o (suc j) (a (suc j)) (λ d. omega (arith, le_of_dvd {m = q} {n = suc j} (omega arith) d))
    (subst (λ (x : ℕ). q ∣ x) (omega arith) (h.each j jk))
past_roots q k o kq (z ∷ ys) a h (suc j) l jk =
    rest q (past_roots q k o kq ys (over z a) (newton_step q k z ys a h) (suc j) (omega arith) jk)
    (dvd-mul_left_of_dvd q (past_roots q k o kq ys (over z a) (newton_step q k z ys a h) j (omega arith) (omega arith)) z)
