-- Rows of bits in a list of values of 32 bits each.
use Rattle.std.specs.Prelude.{Bool, List, ℕ, ◌+◌, ◌*◌, ◌/◌, ◌%◌, ◌^◌, eqb}
use Rattle.parity.specs.Lists.{at}

-- bit k of a value is set
unfoldable pub bit_at : ℕ → ℕ → Bool
bit_at x k = eqb (x / 2 ^ k % 2) 1

-- row i, of S values, has column k: bit k mod 32 of its value k div 32
unfoldable pub cell_of : ℕ → List ℕ → ℕ → ℕ → Bool
cell_of S xs i k = bit_at (at xs (i * S + k / 32)) (k % 32)
