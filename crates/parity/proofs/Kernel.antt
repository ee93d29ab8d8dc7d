-- Cyclic rows that vanish at as many different shifts as there are rows are zero.
use mathlib.Core.Path.{◌≡◌, sym, ap, ap₂, ◌∙◌}
use mathlib.Core.Logic.{⊎_elim}
use Prim.Native.Nat.{ℕ, zero, suc, ◌+◌, ◌*◌, ◌-◌, ◌%◌, ◌<◌, suc-le-suc}
use native.Mathlib.Nat.{add_assoc, add-zero, add-suc, suc-add, sub-zero, sub_self, mul-suc, mul_comm, mul_assoc, mul_right_comm, zero-add, le_step, lt-suc_self, ne_of_lt, eq-or-lt_of_le, le_of_suc-le-suc, not-suc-le-zero}
use native.Mathlib.Omega.{arith}
use Rattle.parity.specs.Xor.{◌⊕◌}
use Rattle.parity.specs.Cyclic.{Cyclic, Order, Apart, eval}
use Rattle.parity.proofs.Xors.{xors, zero_l, zero_r, self, eq_of_zero}
use Rattle.parity.proofs.XorSums.{xs_zero, cong, odd_total}
use Rattle.parity.proofs.Cycles.{turns, same}
use Rattle.parity.proofs.Newton.{eval_cyclic, horner, newton}
use Rattle.parity.proofs.Orders.{mod_mul_mod, order_pos}
use Rattle.parity.proofs.Modular.{undo_mul, no_step}

-- how far it is from x up to a, modulo q
step : ℕ → ℕ → ℕ → ℕ
step q a x = a + x * (q - 1)

-- with x added, x has gone round the cycle
around : (q x c : ℕ) → 0 < q → c + x * (q - 1) + x ≡ c + x * q
around q x c pos =
    add_assoc c (x * (q - 1)) x
    ∙ ap (λ (k : ℕ). c + k) (sym (mul-suc x (q - 1)) ∙ ap (λ (k : ℕ). x * k) (omega arith))

-- the step is no multiple of q where a and x differ
step_nonzero : (q a x : ℕ) → 0 < q → (a % q ≡ x % q → ⊥) → step q a x % q ≡ 0 → ⊥
unfolding step
step_nonzero q a x pos ne z = ne (sym (no_step q x x a (x * (q - 1)) (omega (arith, around q x 0 pos)) z))

-- a function that is the same moved by a and moved by x has the step as a period
step_period : (q : ℕ) (f : ℕ → ℕ) → 0 < q → ((c : ℕ) → f (c + q) ≡ f c) → (a x : ℕ)
    → ((c : ℕ) → f (c + a) ≡ f (c + x)) → (c : ℕ) → f (c + step q a x) ≡ f c
unfolding step
step_period q f pos p a x e c =
    ap f (omega arith) ∙ e (c + x * (q - 1)) ∙ ap f (around q x c pos) ∙ turns q f p x c

-- a multiple of d is c modulo q
reach : (q d e c : ℕ) → d * e % q ≡ 1 → c % q ≡ (0 + e * c * d) % q
reach q d e c one =
    sym (undo_mul q d e c one) ∙ mod_mul_mod (d * c) e q
    ∙ ap (λ (k : ℕ). k % q) (mul_right_comm d c e ∙ mul_assoc d e c ∙ mul_comm d (e * c) ∙ sym (zero-add (e * c * d)))

-- a period that is invertible modulo q reaches every place
level : (q d : ℕ) → Order q → (d % q ≡ 0 → ⊥) → (f : ℕ → ℕ) → ((c : ℕ) → f (c + q) ≡ f c) → ((c : ℕ) → f (c + d) ≡ f c)
    → (c : ℕ) → f c ≡ f 0
level q d o ne f p s c =
    let (e, one) = o.inverse d ne in
    same q f p c (0 + e * c * d) (reach q d e c one) ∙ turns d f s (e * c) 0

-- a cyclic function that is the same moved by a and moved by x is zero
pub constant : (q : ℕ) → Order q → (f : ℕ → ℕ) → Cyclic q f → (a x : ℕ) → (a % q ≡ x % q → ⊥) → ((c : ℕ) → f (c + a) ≡ f (c + x)) → (c : ℕ) → f c ≡ 0
constant q o f cyc a x ne e c =
    flat c ∙ sym (odd_total q (f 0) o.odd) ∙ sym (cong q f (λ i. f 0) (λ i l. flat i)) ∙ cyc.total
  where
    flat : (c : ℕ) → f c ≡ f 0
    flat =
        level q (step q a x) o (step_nonzero q a x (order_pos q o) ne) f cyc.period
        (step_period q f (order_pos q o) cyc.period a x e)

-- of n rows those from r on, evaluated at x
tail : ℕ → (ℕ → ℕ → ℕ) → ℕ → ℕ → ℕ → ℕ
tail n f x r = eval (n - r) (λ j. f (r + j)) x

-- all rows, no row, one row more, and cyclic rows
tail_all : (n : ℕ) (f : ℕ → ℕ → ℕ) (x c : ℕ) → tail n f x 0 c ≡ eval n f x c
unfolding tail
tail_all n f x c = simp (sub-zero, zero-add)

tail_end : (n : ℕ) (f : ℕ → ℕ → ℕ) (x c : ℕ) → tail n f x n c ≡ 0
unfolding tail eval
tail_end n f x c = simp (sub_self, xs_zero)

tail_step : (n : ℕ) (f : ℕ → ℕ → ℕ) (x r c : ℕ) → r < n → f r c ≡ tail n f x r c ⊕ tail n f x (suc r) (c + x)
unfolding tail
tail_step n f x r c l = let e : n - r ≡ suc (n - suc r) = omega arith in rw (e, horner) (simp (add-zero, add-suc, suc-add, xors))

tail_cyclic : (q n : ℕ) (f : ℕ → ℕ → ℕ) (x r : ℕ) → ((i : ℕ) → i < n → Cyclic q (f i)) → Cyclic q (tail n f x r)
unfolding tail
tail_cyclic q n f x r h = eval_cyclic q (n - r) (λ j. f (r + j)) x (λ j l. h (r + j) (omega arith))

-- the rows of the quotient: m + 1 rows with the root x divided out
abbrev quotient : ℕ → (ℕ → ℕ → ℕ) → ℕ → ℕ → ℕ → ℕ
quotient m f x r = tail (suc m) f x (suc r)

module _ (m : ℕ) (f : ℕ → ℕ → ℕ) (x : ℕ) (root : (c : ℕ) → eval (suc m) f x c ≡ 0) where
  -- a root leaves no remainder
  remainder : (c : ℕ) → tail (suc m) f x 0 c ≡ 0
  remainder c = tail_all (suc m) f x c ∙ root c

  -- nothing comes after the last row
  last_row : (c : ℕ) → f m c ≡ tail (suc m) f x m c
  last_row c =
      tail_step (suc m) f x m c (lt-suc_self m)
      ∙ ap (λ (k : ℕ). tail (suc m) f x m c ⊕ k) (tail_end (suc m) f x (c + x)) ∙ zero_r (tail (suc m) f x m c)

  -- the rows at y are the quotient at y, moved by y and moved by x
  divide : (y c : ℕ) → eval (suc m) f y c ≡ eval m (quotient m f x) y (c + y) ⊕ eval m (quotient m f x) y (c + x)
  divide y c =
      newton m (tail (suc m) f x) f x y c (λ i l d. tail_step (suc m) f x i d (le_step l)) last_row
      ∙ simp (remainder, zero_l)

  -- where the quotient is zero, all is zero
  all_zero : ((i : ℕ) → i < m → (c : ℕ) → quotient m f x i c ≡ 0) → (r : ℕ) → r < suc m → (c : ℕ) → f r c ≡ 0
  all_zero h r l c =
      tail_step (suc m) f x r c l
      ∙ ap₂ (λ (u v : ℕ). u ⊕ v) (gone r (le_step l) c) (gone (suc r) (suc-le-suc l) (c + x)) ∙ self 0
    where
      gone : (r : ℕ) → r < suc (suc m) → (c : ℕ) → tail (suc m) f x r c ≡ 0
      gone zero l c = remainder c
      gone (suc i) l c =
          ⊎_elim (λ (e : i ≡ m). rw e (tail_end (suc m) f x c)) (λ (k : i < m). h i k c)
          (eq-or-lt_of_le (le_of_suc-le-suc (le_of_suc-le-suc l)))

-- cyclic rows that vanish at x and at y have a quotient that vanishes at y
vanish : (q : ℕ) → Order q → (m : ℕ) (f : ℕ → ℕ → ℕ) → ((r : ℕ) → r < suc m → Cyclic q (f r)) → (x y : ℕ) → (y % q ≡ x % q → ⊥)
    → ((c : ℕ) → eval (suc m) f x c ≡ 0) → ((c : ℕ) → eval (suc m) f y c ≡ 0) → (c : ℕ) → eval m (quotient m f x) y c ≡ 0
vanish q o m f cyc x y ne rx ry =
    constant q o (eval m (quotient m f x) y)
    (eval_cyclic q m (quotient m f x) y (λ i l. tail_cyclic q (suc m) f x (suc i) cyc)) y x ne
    (λ c. eq_of_zero (eval m (quotient m f x) y (c + y)) (eval m (quotient m f x) y (c + x)) (sym (divide m f x rx y c) ∙ ry c))

-- the last shift left out
fewer : (q m : ℕ) (a : ℕ → ℕ) → Apart q (suc m) a → Apart q m a
fewer q m a h = record { apart = λ t u lt lu. h.apart t u (le_step lt) (le_step lu) }

-- m cyclic rows that vanish at m different shifts are zero
pub kernel : (q : ℕ) → Order q → (m : ℕ) (a : ℕ → ℕ) → Apart q m a → (f : ℕ → ℕ → ℕ) → ((r : ℕ) → r < m → Cyclic q (f r))
    → ((t : ℕ) → t < m → (c : ℕ) → eval m f (a t) c ≡ 0) → (r : ℕ) → r < m → (c : ℕ) → f r c ≡ 0
kernel q o zero a h f cyc roots = λ r l c. absurd (not-suc-le-zero l)
kernel q o (suc m) a h f cyc roots =
    let root : (c : ℕ) → eval (suc m) f (a m) c ≡ 0 = roots m (lt-suc_self m) in
    all_zero m f (a m) root
    (kernel q o m a (fewer q m a h) (quotient m f (a m)) (λ i l. tail_cyclic q (suc m) f (a m) (suc i) cyc)
    (λ t l. vanish q o m f cyc (a m) (a t) (h.apart t m (le_step l) (lt-suc_self m) (ne_of_lt l)) root (roots t (le_step l))))
