-- The kept checks: all of direction 0, all but the last of each other direction. The others follow from them (RULES 2).
use Rattle.std.specs.Prelude.{◌≡◌, Bool, true, cond, ◌||◌, ℕ, ◌+◌, ◌-◌, ◌/◌, ◌%◌, ◌<◌, ◌≤◌, eqb, ltb}
use Rattle.parity.specs.Xor.{◌⊕◌, xor_sum}
use Rattle.parity.specs.Count.{sum, count}
use Rattle.gtb.specs.declared.Shape.{Shape}
use Rattle.gtb.specs.Shape.{kept_checks}
use Rattle.gtb.specs.Square.{syndrome}

-- the check of line L in direction t is kept
unfoldable pub is_kept : Shape → ℕ → ℕ → Bool
is_kept s t L = eqb t 0 || ltb (L + 1) s.q

-- direction and line of kept check i: direction after direction, line after line
unfoldable pub kept_direction : Shape → ℕ → ℕ
kept_direction s i = (i - 1) / (s.q - 1)

unfoldable pub kept_line : Shape → ℕ → ℕ
kept_line s i = cond (ltb i s.q) i ((i - 1) % (s.q - 1))

-- so each kept check has one number below kept_checks
pub record KeptRows (s : Shape) : Type 0 where
  pub number : sum s.n (λ t. count s.q (is_kept s t)) ≡ kept_checks s
  pub kept : (i : ℕ) → i < kept_checks s
      → (kept_direction s i < s.n) × (kept_line s i < s.q) × (is_kept s (kept_direction s i) (kept_line s i) ≡ true)
  pub found : (t L : ℕ) → t < s.n → L < s.q → is_kept s t L ≡ true
      → (i : ℕ) × (i < kept_checks s) × (kept_direction s i ≡ t) × (kept_line s i ≡ L)
  pub once : (i k : ℕ) → i < kept_checks s → k < kept_checks s → kept_direction s i ≡ kept_direction s k → kept_line s i ≡ kept_line s k → i ≡ k

-- in each direction but the first, the last check is the XOR of that direction's other checks and of all checks of direction 0
pub record LastChecks (s : Shape) (f : ℕ → ℕ) : Type 0 where
  pub follows : (t : ℕ) → 1 ≤ t → t < s.n → syndrome s f t (s.q - 1) ≡ xor_sum (s.q - 1) (syndrome s f t) ⊕ xor_sum s.q (syndrome s f 0)

-- every kept check value is zero
pub record KeptSilent (s : Shape) (f : ℕ → ℕ) : Type 0 where
  pub silent : (t L : ℕ) → t < s.n → L < s.q → is_kept s t L ≡ true → syndrome s f t L ≡ 0
