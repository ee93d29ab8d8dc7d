-- XOR on numbers, and the XOR of a function's values over a range.
use Rattle.std.specs.Prelude.{ℕ, zero, suc, Bool, true, false}
use Rattle.std.specs.Int.Bits.{bit_xor}

infixl 65 ◌⊕◌
-- bitwise exclusive or, the code's `^`
unfoldable pub ◌⊕◌ : ℕ → ℕ → ℕ
a ⊕ b = bit_xor a b

-- f 0 ⊕ f 1 ⊕ .. ⊕ f (n - 1)
unfoldable pub xor_sum : ℕ → (ℕ → ℕ) → ℕ
xor_sum zero f = 0
xor_sum (suc n) f = xor_sum n f ⊕ f n

-- x where the test holds, else 0
unfoldable pub when : Bool → ℕ → ℕ
when true x = x
when false x = 0
