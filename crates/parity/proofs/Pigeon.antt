-- Counts against the size of the range: who passes, who fails, and one member set apart.
use mathlib.Core.Path.{◌≡◌, refl, sym, ◌∙◌}
use mathlib.Core.Bool.{Bool, true, false, not, ◌&&◌}
use mathlib.Core.Logic.{⊎_elim}
use Prim.Native.Nat.{ℕ, zero, suc, ◌+◌, ◌-◌, ◌<◌, ◌≤◌}
use native.Mathlib.Nat.{not-suc-le-zero, le_step, lt-suc_self}
use native.Mathlib.Omega.{arith}
use lib.Dec.{eqb}
use borrow.Author.Tests.{eq-eqb, ne_eqb, eqb-true, eqb-false, not-false}
use Rattle.parity.specs.Count.{bit, sum, count, any}
use Rattle.parity.proofs.Tests.{either, and_left, and_both, and_no_right, any_elim, any_no}
use Rattle.parity.proofs.Sums.{sum_cong, sum_add, sum_le, sum_exchange, sum_only, sum_term, sum_const, bit_le, bit_true, bit_false, count_none, count_le, count_not}

-- the count is below the size: some number fails
pub some_fails : (n : ℕ) (p : ℕ → Bool) → count n p < n → (i : ℕ) × (i < n) × (p i ≡ false)
unfolding count sum
some_fails zero p l = absurd (not-suc-le-zero l)
some_fails (suc n) p l =
    ⊎_elim
    (λ (t : p n ≡ true).
    let (i, li, f) = some_fails n p (omega (arith, bit_true t)) in
    (i, le_step li, f))
    (λ (f : p n ≡ false). (n, lt-suc_self n, f))
    (either (p n))

-- the count is not 0: some number passes
pub some_passes : (n : ℕ) (p : ℕ → Bool) → 0 < count n p → (i : ℕ) × (i < n) × (p i ≡ true)
some_passes n p h =
    let (i, l, e) = some_fails n (λ i. not (p i)) (omega (arith, count_not n p)) in
    (i, l, not-false (p i) e)

-- whether some pass is at most how many
pub any_count : (n : ℕ) (p : ℕ → Bool) → bit (any n p) ≤ count n p
unfolding count
any_count n p =
    ⊎_elim
    (λ (t : any n p ≡ true).
    let (i, l, e) = any_elim n p t in
    omega (arith, bit_true t, bit_true e, sum_term n (λ i. bit (p i)) i l))
    (λ (f : any n p ≡ false). omega (arith, bit_false f))
    (either (any n p))

-- no two pass: the count is at most 1
pub count_one : (n : ℕ) (p : ℕ → Bool)
    → ((t u : ℕ) → t < n → u < n → (t ≡ u → ⊥) → p t ≡ true → p u ≡ true → ⊥)
    → count n p ≤ 1
unfolding count
count_one n p h =
    ⊎_elim
    (λ (a : any n p ≡ true).
    let (t, l, e) = any_elim n p a in
    omega (
      arith,
      bit_le (p t),
      sum_only n t (λ i. bit (p i)) l (λ u lu ne. ⊎_elim (λ (pu : p u ≡ true). absurd (h u t lu l ne pu e)) (λ f. bit_false f) (either (p u))),
    ))
    (λ (f : any n p ≡ false). omega (arith, count_none n p (any_no n p f)))
    (either (any n p))

-- n values leave out some number of more than n
pub left_out : (n m : ℕ) (f : ℕ → ℕ) → n < m → (x : ℕ) × (x < m) × ((i : ℕ) → i < n → f i ≡ x → ⊥)
unfolding count
left_out n m f l =
    let (x, lx, out) =
    some_fails m (λ x. any n (taken x))
    (omega (
      arith,
      sum_le m (λ x. bit (any n (taken x))) (λ x. count n (taken x)) (λ x lx. any_count n (taken x)),
      sum_exchange m n (λ x i. bit (taken x i)),
      sum_le n (λ i. count m (λ x. taken x i)) (λ i. 1)
          (λ i li. count_one m (λ x. taken x i) (λ x y lx ly ne a b. ne (sym (eqb-true (f i) x a) ∙ eqb-true (f i) y b))),
      sum_const n 1,
    )) in
    (x, lx, λ i li. eqb-false (f i) x (any_no n (taken x) out i li))
  where
    taken : ℕ → ℕ → Bool
    taken x i = eqb (f i) x

-- n terms of at most 1 that add up to n
pub all_ones : (n : ℕ) (f : ℕ → ℕ) → ((i : ℕ) → i < n → f i ≤ 1) → sum n f ≡ n → (i : ℕ) → i < n → f i ≡ 1
all_ones n f small full i l =
    omega (
      arith,
      small i l,
      sum_term n (λ i. 1 - f i) i l,
      sum_add n (λ i. 1 - f i) f,
      sum_cong n (λ i. 1 - f i + f i) (λ i. 1) (λ i l. omega (arith, small i l)),
      sum_const n 1,
    )

-- a is so with b or without
bit_apart : (a b : Bool) → bit a ≡ bit (a && not b) + bit (a && b)
unfolding bit
bit_apart true true = refl
bit_apart true false = refl
bit_apart false b = refl

-- the members other than j are no more than all; a member j and the others are all
pub others_le : (n : ℕ) (p : ℕ → Bool) (j : ℕ) → count n (λ i. p i && not (eqb i j)) ≤ count n p
others_le n p j = count_le _ _ _ (λ i l h. and_left (p i) (not (eqb i j)) h)

pub count_others : (n : ℕ) (p : ℕ → Bool) (j : ℕ) → j < n → p j ≡ true → count n p ≡ suc (count n (λ i. p i && not (eqb i j)))
unfolding count
count_others n p j l e =
    let a = sum_cong n (λ i. bit (p i)) (λ i. bit (p i && not (eqb i j)) + bit (p i && eqb i j)) (λ i li. bit_apart (p i) (eqb i j)) in
    let b = sum_add n (λ i. bit (p i && not (eqb i j))) (λ i. bit (p i && eqb i j)) in
    let c = sum_only n j (λ i. bit (p i && eqb i j)) l (λ i li ne. bit_false (and_no_right (p i) (ne_eqb i j ne))) in
    let d = bit_true (and_both e (eq-eqb j j refl)) in
    omega arith
