-- What the reading functions answer.
use Rattle.std.specs.Prelude.{◌≡◌, ◌==◌, Option, Some, None, List, ℕ, ◌<◌, length, get_or, position}
use Rattle.lines.specs.Text.{newline, Spells}

-- the line spells `count` values; of these the first 1024 are stored
pub record Stored (line stored : List ℕ) (count : ℕ) : Type 0 where
  pub values : List ℕ
  pub spelled : Spells line values
  pub counted : length values ≡ count
  pub kept : (i : ℕ) → i < count → i < 1024 → get_or stored i 0 ≡ get_or values i 0

-- `Some` exactly for a line that spells values, with their number; `None` for every other line
pub record Parsing (line stored : List ℕ) (r : Option ℕ) : Type 0 where
  pub size : length stored ≡ 1024
  pub accepted : (count : ℕ) → r ≡ Some count → Stored line stored count
  pub refused : r ≡ None → (values : List ℕ) → Spells line values → ⊥

-- the first place whose byte is a newline, if there is one
abbrev pub first_newline : List ℕ → Option ℕ
first_newline bytes = position (λ b. b == newline) bytes
