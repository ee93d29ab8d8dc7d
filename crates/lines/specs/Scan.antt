-- What the scan of one digit and of one value answers (`digit_at`, `number_at`).
use Rattle.std.specs.Prelude.{◌≡◌, Option, Some, None, List, ◌++◌, ℕ, ◌^◌, ◌≤◌, ◌<◌, length, get_or, drop}
use Rattle.lines.specs.Text.{digit, decimal}

-- the text begins with no digit
pub record Stops (text : List ℕ) : Type 0 where
  pub ends : 48 ≤ get_or text 0 0 → get_or text 0 0 ≤ 57 → ⊥

-- the digit d stands at a place
pub record Digit (line : List ℕ) (at d : ℕ) : Type 0 where
  pub below : at < length line
  pub small : d < 10
  pub byte : get_or line at 0 ≡ digit d

-- `None` only at the line's end or at another byte
pub record DigitAt (line : List ℕ) (at : ℕ) (r : Option ℕ) : Type 0 where
  pub found : (d : ℕ) → r ≡ Some d → Digit line at d
  pub none : r ≡ None → Stops (drop at line)

-- from `from` to `next` the line has the spelling of v and no digit after it
pub record ValueAt (line : List ℕ) (from v next : ℕ) : Type 0 where
  pub low : from < next
  pub high : next ≤ length line
  pub small : v < 2 ^ 32
  pub text : drop from line ≡ decimal v ++ drop next line
  pub stops : Stops (drop next line)

-- `None` only where no value below 2^32 stands at `from`
pub record Scanning (line : List ℕ) (from : ℕ) (r : Option (ℕ × ℕ)) : Type 0 where
  pub found : (v next : ℕ) → r ≡ Some (v, next) → ValueAt line from v next
  pub missing : r ≡ None → (v : ℕ) (rest : List ℕ) → v < 2 ^ 32 → Stops rest → drop from line ≡ decimal v ++ rest → ⊥
