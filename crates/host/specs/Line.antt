-- A line of a capture that crosses (RULES 7.3). It comes without its newline, and 1024 values are lent.
use Rattle.std.specs.Prelude.{◌≡◌, List, ◌++◌, ℕ, ◌+◌, ◌^◌, ◌≤◌, ◌<◌, length, take, drop}
use Rattle.lines.specs.Text.{Spells}

-- a refusal by 10 leaves the values as lent
abbrev pub LineRefused : List ℕ → List ℕ → ℕ → Type 0
LineRefused values values' r = (r ≡ 2 ^ 31 + 10) × (values' ≡ values)

pub record LineCrossing (line values values' : List ℕ) (r : ℕ) : Type 0 where
  -- of a line that spells values their number; the first 1024 stand at the front, and what is behind them is as lent
  pub spelled : (xs : List ℕ) → length line ≤ 16383 → Spells line xs
      → (r ≡ length xs) × (values' ≡ take 1024 xs ++ drop (length xs) values)
  pub unspelled : ((xs : List ℕ) → Spells line xs → ⊥) → LineRefused values values' r
  pub long : 16383 < length line → LineRefused values values' r
