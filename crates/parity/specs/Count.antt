-- Sums, counts and tests over a range.
use Rattle.std.specs.Prelude.{ℕ, zero, suc, ◌+◌, Bool, true, false, cond, ◌&&◌, ◌||◌}

-- 1 where the test holds, else 0
unfoldable pub bit : Bool → ℕ
bit true = 1
bit false = 0

-- f 0 + f 1 + .. + f (n - 1)
unfoldable pub sum : ℕ → (ℕ → ℕ) → ℕ
sum zero f = 0
sum (suc n) f = sum n f + f n

-- how many numbers below n pass the test
unfoldable pub count : ℕ → (ℕ → Bool) → ℕ
count n p = sum n (λ i. bit (p i))

-- some number below n passes
unfoldable pub any : ℕ → (ℕ → Bool) → Bool
any zero p = false
any (suc n) p = any n p || p n

-- each number below n passes
unfoldable pub all : ℕ → (ℕ → Bool) → Bool
all zero p = true
all (suc n) p = all n p && p n

-- the lowest number below n that fails the test, or n
unfoldable pub lowest_not : ℕ → (ℕ → Bool) → ℕ
lowest_not zero p = 0
lowest_not (suc n) p = cond (p 0) (suc (lowest_not n (λ i. p (suc i)))) 0

-- the value at the first number below n that passes the test, or 0
unfoldable pub first_value : ℕ → (ℕ → Bool) → (ℕ → ℕ) → ℕ
first_value zero p v = 0
first_value (suc n) p v = cond (p 0) (v 0) (first_value n (λ t. p (suc t)) (λ t. v (suc t)))
