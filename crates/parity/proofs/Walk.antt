-- Steps of δ round a cycle of q places: a function whose difference over such a step is given.
use mathlib.Core.Path.{◌≡◌, refl, sym, ap, ap₂, ◌∙◌}
use Prim.Native.Nat.{ℕ, suc, ◌+◌, ◌*◌, ◌%◌, ◌^◌, ◌<◌}
use native.Mathlib.Nat.{add_comm, add_assoc, mul-add, add-mul, mul_comm, mul_assoc, add-mod-mod, mod-eq_of_lt, mod-lt, zero-mul, zero-mod, add-mul-mod_self_left}
use native.Mathlib.Numerals.{add-one}
use lib.Dec.{eqb}
use borrow.Author.Tests.{eq-eqb, ne_eqb}
use Rattle.parity.specs.Xor.{◌⊕◌, xor_sum, when}
use Rattle.parity.specs.Cyclic.{Cyclic, Order, walk}
use Rattle.parity.proofs.Xors.{self, zero_l, lt_pow, xors}
use Rattle.parity.proofs.XorSums.{xs_zero, xs_suc, cong, linear, exchange, only, split, bound, odd_total}
use Rattle.parity.proofs.Cycles.{turns, wrap, same, shift}
use Rattle.parity.proofs.Orders.{mod_mul_mod, order_pos}
use Rattle.parity.proofs.Modular.{undo_mul}

-- the walk with its total added, so that its own total is zero
unfoldable pub quotient : ℕ → ℕ → ℕ → (ℕ → ℕ) → ℕ → ℕ
quotient q δ e d u = walk q δ e d u ⊕ xor_sum q (walk q δ e d)

when_eq : (a b x : ℕ) → a ≡ b → when (eqb a b) x ≡ x
unfolding when
when_eq a b x h = rw (eq-eqb a b h)

when_ne : (a b x : ℕ) → (a ≡ b → ⊥) → when (eqb a b) x ≡ 0
unfolding when
when_ne a b x h = rw (ne_eqb a b h)

-- p permutes the numbers below n, and r undoes it: the sum is the same
permute : (n : ℕ) (f p r : ℕ → ℕ)
    → ((j : ℕ) → j < n → p j < n) → ((c : ℕ) → c < n → r c < n)
    → ((j : ℕ) → j < n → r (p j) ≡ j) → ((c : ℕ) → c < n → p (r c) ≡ c)
    → xor_sum n (λ j. f (p j)) ≡ xor_sum n f
permute n f p r p-lt r-lt rp pr =
    cong n (λ j. f (p j)) (λ j. xor_sum n (λ c. when (eqb (p j) c) (f c)))
    (λ j l. sym (only n (p j) (λ c. when (eqb (p j) c) (f c)) (p-lt j l) (λ c lc ne. when_ne (p j) c (f c) (λ h. ne (sym h))) ∙ when_eq (p j) (p j) (f (p j)) refl))
    ∙ exchange n n (λ j c. when (eqb (p j) c) (f c))
    ∙ cong n (λ c. xor_sum n (λ j. when (eqb (p j) c) (f c))) f
    (λ c l. only n (r c) (λ j. when (eqb (p j) c) (f c)) (r-lt c l) (λ j lj ne. when_ne (p j) c (f c) (λ h. ne (sym (rp j lj) ∙ ap r h))) ∙ when_eq (p (r c)) c (f c) (pr c l))

pub walk_start : (q δ e : ℕ) (d : ℕ → ℕ) → walk q δ e d 0 ≡ 0
unfolding walk
walk_start q δ e d =
    ap (λ (k : ℕ). xor_sum k (λ j. d (δ * j))) (ap (λ (k : ℕ). k % q) (zero-mul e) ∙ zero-mod q) ∙ xs_zero (λ j. d (δ * j))

pub walk_period : (q δ e : ℕ) (d : ℕ → ℕ) → 0 < q → (u : ℕ) → walk q δ e d (u + q) ≡ walk q δ e d u
unfolding walk
walk_period q δ e d pos u =
    ap (λ (k : ℕ). xor_sum k (λ j. d (δ * j))) (ap (λ (k : ℕ). k % q) (add-mul u q e) ∙ add-mul-mod_self_left (u * e) q e)

module _ (q δ e : ℕ) (d : ℕ → ℕ) (pos : 0 < q) (inv : δ * e % q ≡ 1) where
  -- δ and e cancel
  cancels : (u : ℕ) → δ * (u * e) % q ≡ u % q
  cancels u = ap (λ (k : ℕ). k % q) (sym (mul_assoc δ u e)) ∙ sym (mod_mul_mod (δ * u) e q) ∙ undo_mul q δ e u inv

  back : (j : ℕ) → j < q → δ * j % q * e % q ≡ j
  back j l = undo_mul q δ e j inv ∙ mod-eq_of_lt l

  -- c * e steps lead to place c
  pub forth : (c : ℕ) → c < q → δ * (c * e % q) % q ≡ c
  forth c l =
      ap (λ (k : ℕ). k % q) (mul_comm δ (c * e % q)) ∙ mod_mul_mod (c * e) δ q ∙ ap (λ (k : ℕ). k % q) (mul_comm (c * e) δ)
      ∙ cancels c ∙ mod-eq_of_lt l

  module _ (cyc : Cyclic q d) where
    -- q steps meet each place once
    steps_total : xor_sum q (λ j. d (δ * j)) ≡ 0
    steps_total =
        cong q (λ j. d (δ * j)) (λ j. d (δ * j % q)) (λ j l. sym (wrap q d cyc.period (δ * j)))
        ∙ permute q d (λ j. δ * j % q) (λ c. c * e % q) (λ j l. mod-lt (δ * j) pos) (λ c l. mod-lt (c * e) pos) back forth
        ∙ cyc.total

    -- so q more steps change nothing
    steps_period : (k : ℕ) → xor_sum (k + q) (λ j. d (δ * j)) ≡ xor_sum k (λ j. d (δ * j))
    steps_period k =
        ap (λ (n : ℕ). xor_sum n (λ j. d (δ * j))) (add_comm k q) ∙ split q k (λ j. d (δ * j))
        ∙ ap₂ (λ (x y : ℕ). x ⊕ y) steps_total
        (cong k (λ j. d (δ * (q + j))) (λ j. d (δ * j)) (λ j l. ap d (mul-add δ q j ∙ add_comm (δ * q) (δ * j)) ∙ turns q d cyc.period δ (δ * j)))
        ∙ zero_l (xor_sum k (λ j. d (δ * j)))

    -- the walk, with the number of steps not reduced
    unreduced : (u : ℕ) → walk q δ e d u ≡ xor_sum (u * e) (λ j. d (δ * j))
    unfolding walk
    unreduced u = wrap q (λ k. xor_sum k (λ j. d (δ * j))) steps_period (u * e)

    pub walk_step : (u : ℕ) → walk q δ e d (u + δ) ≡ walk q δ e d u ⊕ d u
    walk_step u =
        unreduced (u + δ)
        ∙ same q (λ k. xor_sum k (λ j. d (δ * j))) steps_period ((u + δ) * e) (suc (u * e)) one_more
        ∙ xs_suc (u * e) (λ j. d (δ * j))
        ∙ ap₂ (λ (x y : ℕ). x ⊕ y) (sym (unreduced u)) (same q d cyc.period (δ * (u * e)) u (cancels u))
      where
        one_more : (u + δ) * e % q ≡ suc (u * e) % q
        one_more =
            ap (λ (k : ℕ). k % q) (add-mul u δ e) ∙ sym (add-mod-mod (u * e) (δ * e) q)
            ∙ ap (λ (k : ℕ). (u * e + k) % q) inv ∙ ap (λ (k : ℕ). k % q) (add-one (u * e))

    quotient_step : (u : ℕ) → quotient q δ e d (u + δ) ≡ quotient q δ e d u ⊕ d u
    unfolding quotient
    quotient_step u = ap (λ (x : ℕ). x ⊕ xor_sum q (walk q δ e d)) (walk_step u) ∙ simp xors

quotient_cyclic : (q δ e : ℕ) (d : ℕ → ℕ) → 0 < q → q % 2 ≡ 1 → Cyclic q (quotient q δ e d)
unfolding quotient
quotient_cyclic q δ e d pos odd = record {
  period = λ u. ap (λ (x : ℕ). x ⊕ xor_sum q (walk q δ e d)) (walk_period q δ e d pos u);
  total = linear q (walk q δ e d) (λ u. xor_sum q (walk q δ e d))
      ∙ ap (λ (x : ℕ). xor_sum q (walk q δ e d) ⊕ x) (odd_total q (xor_sum q (walk q δ e d)) odd)
      ∙ self (xor_sum q (walk q δ e d));
}

walk_lt : (q δ e k : ℕ) (d : ℕ → ℕ) → ((c : ℕ) → d c < 2 ^ k) → (u : ℕ) → walk q δ e d u < 2 ^ k
unfolding walk
walk_lt q δ e k d h u = bound k (u * e % q) (λ j. d (δ * j)) (λ j l. h (δ * j))

quotient_lt : (q δ e k : ℕ) (d : ℕ → ℕ) → ((c : ℕ) → d c < 2 ^ k) → (u : ℕ) → quotient q δ e d u < 2 ^ k
unfolding quotient
quotient_lt q δ e k d h u =
    lt_pow k (walk q δ e d u) (xor_sum q (walk q δ e d)) (walk_lt q δ e k d h u) (bound k q (walk q δ e d) (λ c l. walk_lt q δ e k d h c))

-- g is d divided by the difference of the shifts y and x
pub record Divided (q k x y : ℕ) (d g : ℕ → ℕ) : Type 0 where
  pub cyclic : Cyclic q g
  pub step : (c : ℕ) → g (c + y) ⊕ g (c + x) ≡ d c
  pub width : (c : ℕ) → g c < 2 ^ k

-- the quotient by δ, the step from x to y, moved by z, which is x negated: x + z is n turns
pub divided : (q : ℕ) → Order q → (k n x y z δ e : ℕ) (d : ℕ → ℕ) → x + z ≡ n * q → (y + z) % q ≡ δ % q → δ * e % q ≡ 1 → Cyclic q d
    → ((c : ℕ) → d c < 2 ^ k) → Divided q k x y d (λ c. quotient q δ e d (c + z))
divided q o k n x y z δ e d around is inv cyc small = record {
  cyclic = shift q Q turn z;
  step = λ c.
      ap₂ (λ (a b : ℕ). a ⊕ b)
      (ap Q (add_assoc c y z) ∙ same q Q turn.period (c + (y + z)) (c + δ) (there c) ∙ quotient_step q δ e d pos inv cyc c)
      (ap Q (add_assoc c x z ∙ ap (λ (i : ℕ). c + i) around) ∙ turns q Q turn.period n c)
      ∙ simp xors;
  width = λ c. quotient_lt q δ e k d small (c + z);
}
  where
    pos : 0 < q
    pos = order_pos q o

    Q : ℕ → ℕ
    Q = quotient q δ e d

    turn : Cyclic q Q
    turn = quotient_cyclic q δ e d pos o.odd

    there : (c : ℕ) → (c + (y + z)) % q ≡ (c + δ) % q
    there c = sym (add-mod-mod c (y + z) q) ∙ ap (λ (i : ℕ). (c + i) % q) is ∙ add-mod-mod c δ q
