-- What the private steps of reading by vote establish. They see the syndromes in their table alone, `syn` here: check t × q + L at that place.
use Rattle.std.specs.Prelude.{◌≡◌, Bool, not, ◌&&◌, List, ℕ, ◌+◌, ◌*◌, ◌/◌, eqb, ltb}
use Rattle.gtb.specs.declared.Shape.{Shape}
use Rattle.gtb.specs.Square.{at}
use Rattle.correction.specs.Error.{shows}
use Rattle.correction.specs.Steps.{check_in, Listed}
use Rattle.majority.specs.Majority.{majority}

-- a nonzero value that more than half of n values are
unfoldable pub prevailing : ℕ → (ℕ → ℕ) → ℕ → Bool
prevailing n v x = not (eqb x 0) && ltb n (2 * shows n v x)

-- `voted_at` by the table
unfoldable pub voted_in : Shape → List ℕ → ℕ → ℕ
voted_in s syn j = majority s.n (check_in s syn j)

-- position j changes
unfoldable pub changes : Shape → List ℕ → ℕ → Bool
changes s syn j = not (eqb (voted_in s syn j) 0)

-- a search of the rows whose own check is not silent passes the others over
unfoldable pub passed_over : Bool → ℕ → Bool
passed_over loud value = loud && eqb value 0

-- the positions that a search finds
unfoldable pub found_in : Shape → List ℕ → Bool → ℕ → Bool
found_in s syn loud j = not (passed_over loud (at syn (j / s.q))) && changes s syn j

-- position j joins a list if it changes
pub record Kept (s : Shape) (syn : List ℕ) (j k : ℕ) (places : List ℕ) (k' : ℕ) (places' : List ℕ) : Type 0 where
  pub next : (p : ℕ → Bool) → p j ≡ changes s syn j → Listed p j k places → Listed p (j + 1) k' places'

-- one more than may change
abbrev pub too_many_changes : Shape → ℕ
too_many_changes s = s.n / 2 + 1
