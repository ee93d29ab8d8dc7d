-- The shipped shape and the table of its check numbers (request N11).
use Rattle.std.specs.Prelude.{◌≡◌, Bool, true, ◌&&◌, List, ℕ, zero, suc, ◌+◌, ◌*◌, ◌/◌, ◌%◌, ◌<◌, eqb, length, get_or}
use Rattle.gtb.specs.declared.Shape.{Shape}
use Rattle.gtb.specs.Shape.{word_length}
use Rattle.gtb.specs.Square.{at}
use Rattle.correction.specs.Error.{check_of}

-- order 17, four directions, slopes 0, 1, 2; any width, and whatever the slopes past the third
unfoldable pub is_shipped : Shape → Bool
is_shipped s = eqb s.q 17 && eqb s.n 4 && eqb (get_or s.slopes 0 0) 0 && eqb (get_or s.slopes 1 0) 1 && eqb (get_or s.slopes 2 0) 2

-- its lines: direction t, position j
unfoldable pub shipped_line : ℕ → ℕ → ℕ
shipped_line zero j = j / 17
shipped_line (suc t) j = (j % 17 + t * (j / 17)) % 17

-- the table's rule: 17 × t + line at place 4 × j + t
pub record CheckNumbers (table : List ℕ) : Type 0 where
  pub size : length table ≡ 1156
  pub number : (j t : ℕ) → j < 289 → t < 4 → at table (4 * j + t) ≡ t * 17 + shipped_line t j

-- a lent table that is not empty: the shape is the shipped one, and these are its check numbers
pub record Tabled (s : Shape) (table : List ℕ) : Type 0 where
  pub shipped : (length table ≡ 0 → ⊥) → is_shipped s ≡ true
  pub number : (length table ≡ 0 → ⊥) → (j t : ℕ) → j < word_length s → t < s.n → (4 * j + t < length table) × (at table (4 * j + t) ≡ check_of s j t)
