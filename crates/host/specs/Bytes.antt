-- Symbols as bytes: four a symbol, low byte first (RULES 7).
use Rattle.std.specs.Prelude.{List, [], ◌∷◌, ◌++◌, ℕ, ◌+◌, ◌*◌, ◌/◌, ◌%◌, get_or, take, drop}

-- the symbols of a list of bytes; up to three bytes over at the end make none
unfoldable pub symbols_of : List ℕ → List ℕ
symbols_of [] = []
symbols_of (b0 ∷ []) = []
symbols_of (b0 ∷ b1 ∷ []) = []
symbols_of (b0 ∷ b1 ∷ b2 ∷ []) = []
symbols_of (b0 ∷ b1 ∷ b2 ∷ b3 ∷ rest) = (b0 + 256 * b1 + 65536 * b2 + 16777216 * b3) ∷ symbols_of rest

unfoldable pub bytes_of : List ℕ → List ℕ
bytes_of [] = []
bytes_of (x ∷ w) = x % 256 ∷ x / 256 % 256 ∷ x / 65536 % 256 ∷ x / 16777216 % 256 ∷ bytes_of w

-- the symbol in the four bytes from a place on
abbrev pub symbol_at : List ℕ → ℕ → ℕ
symbol_at bytes at = get_or bytes at 0 + 256 * get_or bytes (at + 1) 0 + 65536 * get_or bytes (at + 2) 0 + 16777216 * get_or bytes (at + 3) 0

-- the bytes with a symbol put there
unfoldable pub with_symbol : List ℕ → ℕ → ℕ → List ℕ
with_symbol bytes at x = take at bytes ++ bytes_of (x ∷ []) ++ drop (at + 4) bytes
