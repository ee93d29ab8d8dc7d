-- Exactly one number of a range passes a test.
use mathlib.Core.Path.{◌≡◌, refl, sym, ap, ◌∙◌}
use mathlib.Core.Bool.{Bool, true, false, ◌&&◌}
use mathlib.Core.Logic.{⊎_elim}
use Prim.Native.Nat.{ℕ, ◌*◌, ◌<◌}
use native.Mathlib.Nat.{zero-mul, mul-one}
use lib.Dec.{eqb}
use borrow.Author.Tests.{eq-eqb, ne_eqb}
use Rattle.parity.specs.Xor.{xor_sum, when}
use Rattle.parity.specs.Count.{bit, sum, count}
use Rattle.parity.proofs.Tests.{either, and_no_left}
use Rattle.parity.proofs.Sums.{sum_cong, sum_exchange, sum_only, sum_mul, sum_const, count_sum, bit_true, bit_false}
use Rattle.parity.proofs.XorSums.{only}

-- below n it is k, and no other number
pub record Only (n : ℕ) (p : ℕ → Bool) (k : ℕ) : Type 0 where
  pub below : k < n
  pub passes : p k ≡ true
  pub alone : (i : ℕ) → i < n → p i ≡ true → i ≡ k

-- every other number fails
other : (n : ℕ) (p : ℕ → Bool) (k : ℕ) → Only n p k → (i : ℕ) → i < n → (i ≡ k → ⊥) → p i ≡ false
other n p k h i l ne = ⊎_elim (λ (t : p i ≡ true). absurd (ne (h.alone i l t))) (λ f. f) (either (p i))

-- it is counted once
pub only_count : (n : ℕ) (p : ℕ → Bool) (k : ℕ) → Only n p k → count n p ≡ 1
unfolding count
only_count n p k h =
    sum_only n k (λ i. bit (p i)) h.below (λ i l ne. bit_false (other n p k h i l ne)) ∙ bit_true h.passes

-- of a XOR over the numbers that pass one term is left
pub only_sum : (n : ℕ) (p : ℕ → Bool) (k : ℕ) → Only n p k → (f : ℕ → ℕ) → xor_sum n (λ i. when (p i) (f i)) ≡ f k
unfolding when
only_sum n p k h f =
    only n k (λ i. when (p i) (f i)) h.below (λ i l ne. ap (λ (b : Bool). when b (f i)) (other n p k h i l ne))
    ∙ ap (λ (b : Bool). when b (f k)) h.passes

-- n tests that one number passes each count n
pub each_once : (n m : ℕ) (p : ℕ → ℕ → Bool) → ((i : ℕ) → i < n → count m (p i) ≡ 1) → sum n (λ i. sum m (λ j. bit (p i j))) ≡ n
unfolding count
each_once n m p h = sum_cong n (λ i. sum m (λ j. bit (p i j))) (λ i. 1) h ∙ sum_const n 1 ∙ mul-one n

-- ---- each number below n has one value w i below q: a sum over the members of A, by their values
pub sum_by_value : (n q : ℕ) (A : ℕ → Bool) (w : ℕ → ℕ) → ((i : ℕ) → i < n → w i < q)
    → (f : ℕ → ℕ) → sum n (λ i. bit (A i) * f (w i)) ≡ sum q (λ x. count n (λ i. eqb (w i) x && A i) * f x)
sum_by_value n q A w below f =
    sum_cong n _ (λ i. sum q (λ x. bit (eqb (w i) x && A i) * f x)) each ∙ sum_exchange n q _
    ∙ sum_cong q _ _ (λ x l. sum_mul n _ (f x) ∙ ap (λ (k : ℕ). k * f x) (sym (count_sum n _)))
  where
    each : (i : ℕ) → i < n → bit (A i) * f (w i) ≡ sum q (λ x. bit (eqb (w i) x && A i) * f x)
    each i l =
        sym
        (sum_only q (w i) (λ x. bit (eqb (w i) x && A i) * f x) (below i l)
        (λ x lx ne. ap (λ (k : ℕ). k * f x) (bit_false (and_no_left (A i) (ne_eqb (w i) x (λ e. ne (sym e))))) ∙ zero-mul (f x))
        ∙ ap (λ (b : Bool). bit (b && A i) * f (w i)) (eq-eqb (w i) (w i) refl))

pub count_by_value : (n q : ℕ) (A : ℕ → Bool) (w : ℕ → ℕ) → ((i : ℕ) → i < n → w i < q) → count n A ≡ sum q (λ x. count n (λ i. eqb (w i) x && A i))
count_by_value n q A w below =
    count_sum n A ∙ sum_cong n _ _ (λ i l. sym (mul-one (bit (A i)))) ∙ sum_by_value n q A w below (λ x. 1) ∙ sum_cong q _ _ (λ x l. mul-one _)
