-- The rows of the square as functions on a cycle of q places, for the steps that work row by row.
use Rattle.std.specs.Prelude.{ℕ, zero, suc, ◌+◌, ◌-◌, ◌*◌, ◌%◌}
use Rattle.parity.specs.Xor.{xor_sum}
use Rattle.gtb.specs.declared.Shape.{Shape}
use Rattle.gtb.specs.Shape.{slope_of}

-- a line of direction t + 1 moves this many columns on with each row (t from 0): the slope's opposite modulo q
unfoldable pub shift_of : Shape → ℕ → ℕ
shift_of s t = s.q - slope_of s (suc t)

-- row r of the square f, going round
unfoldable pub row_of : ℕ → (ℕ → ℕ) → ℕ → ℕ → ℕ
row_of q f r c = f (r * q + c % q)

-- a row below the first n - 1: n symbols, and their XOR before them
unfoldable pub lower_row : ℕ → (ℕ → ℕ) → ℕ → ℕ
lower_row n g zero = xor_sum n g
lower_row n g (suc i) = g i
