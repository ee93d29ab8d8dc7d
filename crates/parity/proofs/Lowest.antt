-- The lowest number that fails a test.
use mathlib.Core.Path.{◌≡◌, refl, ap, ◌∙◌}
use mathlib.Core.Bool.{Bool, true, false, not, cond}
use mathlib.Core.Logic.{⊎_elim}
use Prim.Native.Nat.{ℕ, zero, suc, ◌<◌, ◌≤◌, suc-le-suc, zero-le}
use native.Mathlib.Nat.{not-suc-le-zero, le_of_suc-le-suc, zero-lt-suc, le_refl}
use native.Mathlib.Omega.{arith}
use Rattle.parity.specs.Count.{bit, count, lowest_not}
use Rattle.parity.proofs.Tests.{either, not_of_false}
use Rattle.parity.proofs.Sums.{count_not, sum_term, bit_true}

-- up to k all pass, and k fails if it is below n
pub record Lowest (n : ℕ) (p : ℕ → Bool) (k : ℕ) : Type 0 where
  pub upto : k ≤ n
  pub below : (i : ℕ) → i < k → p i ≡ true
  pub fails : k < n → p k ≡ false

lowest_pass : (n : ℕ) (p : ℕ → Bool) → p 0 ≡ true → lowest_not (suc n) p ≡ suc (lowest_not n (λ i. p (suc i)))
unfolding lowest_not
lowest_pass n p h = ap (λ (b : Bool). cond b (suc (lowest_not n (λ i. p (suc i)))) 0) h

lowest_fail : (n : ℕ) (p : ℕ → Bool) → p 0 ≡ false → lowest_not (suc n) p ≡ 0
unfolding lowest_not
lowest_fail n p h = ap (λ (b : Bool). cond b (suc (lowest_not n (λ i. p (suc i)))) 0) h

-- no other number is so
pub lowest_is : (n : ℕ) (p : ℕ → Bool) (k : ℕ) → Lowest n p k → lowest_not n p ≡ k
unfolding lowest_not
lowest_is zero p zero l = refl
lowest_is zero p (suc k) l = absurd (not-suc-le-zero l.upto)
lowest_is (suc n) p zero l = lowest_fail n p (l.fails (zero-lt-suc n))
lowest_is (suc n) p (suc k) l =
    lowest_pass n p (l.below 0 (zero-lt-suc k))
    ∙ ap suc (lowest_is n (λ i. p (suc i)) k (record {
      upto = le_of_suc-le-suc l.upto;
      below = λ i li. l.below (suc i) (suc-le-suc li);
      fails = λ lk. l.fails (suc-le-suc lk);
    }))

-- and this one is
exists : (n : ℕ) (p : ℕ → Bool) → (k : ℕ) × Lowest n p k
exists zero p = (0, record { upto = le_refl 0; below = λ i li. absurd (not-suc-le-zero li); fails = λ li. absurd (not-suc-le-zero li) })
exists (suc n) p =
    ⊎_elim
    (λ (t : p 0 ≡ true).
    let (k, l) = exists n (λ i. p (suc i)) in (
      suc k,
      record {
        upto = suc-le-suc l.upto;
        below = λ i. elim i as (λ j. j < suc k → p j ≡ true) [ zero ↦ λ li. t | suc i' ↦ λ li. l.below i' (le_of_suc-le-suc li) ];
        fails = λ lk. l.fails (le_of_suc-le-suc lk);
      },
    ))
    (λ (f : p 0 ≡ false). (0, record { upto = zero-le; below = λ i li. absurd (not-suc-le-zero li); fails = λ li. f }))
    (either (p 0))

pub lowest_right : (n : ℕ) (p : ℕ → Bool) → Lowest n p (lowest_not n p)
lowest_right n p = let (k, l) = exists n p in rw (lowest_is n p k l) l

-- it depends on the answers below n alone
pub lowest_cong : (n : ℕ) (p r : ℕ → Bool) → ((i : ℕ) → i < n → p i ≡ r i) → lowest_not n p ≡ lowest_not n r
lowest_cong n p r h =
    let l = lowest_right n r in
    lowest_is n p (lowest_not n r) (record {
      upto = l.upto;
      below = λ i li. h i (omega (arith, l.upto, li)) ∙ l.below i li;
      fails = λ lk. h (lowest_not n r) lk ∙ l.fails lk;
    })

-- where as many pass as there are, all pass
pub full_count : (n : ℕ) (p : ℕ → Bool) → count n p ≡ n → (i : ℕ) → i < n → p i ≡ true
unfolding count
full_count n p full i l =
    ⊎_elim (λ (t : p i ≡ true). t)
    (λ (f : p i ≡ false). absurd (omega (arith, count_not n p, bit_true (not_of_false f), sum_term n (λ j. bit (not (p j))) i l, full)))
    (either (p i))
