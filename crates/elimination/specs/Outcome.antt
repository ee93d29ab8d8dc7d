-- What the answer of an elimination says of the system given.
use Rattle.std.specs.Prelude.{◌≡◌, List, ℕ, ◌*◌, ◌≤◌, length}
use Rattle.parity.specs.Lists.{at}
use Rattle.elimination.specs.declared.Outcome.{Outcome}
use Rattle.elimination.specs.declared.Outcome.TheVariants.{Solved, Unsolvable, Ambiguous}
use Rattle.elimination.specs.System.{Impossible, Unique, Several}
use Rattle.elimination.specs.Packed.{cell_of}

-- r rows of S values lie in the scratch, p columns in a row's bits
pub record Room (r S p : ℕ) (scratch values : List ℕ) : Type 0 where
  pub rows : r ≤ 248
  pub width : S ≤ 31
  pub columns : p ≤ 32 * S
  pub space : r * S ≤ length scratch
  pub sizes : length values ≡ 248

-- the system given, the answer, and the values that are left
pub record Eliminated (r S p : ℕ) (scratch values : List ℕ) (answer : Outcome) (left : List ℕ) : Type 0 where
  pub size : length left ≡ 248
  pub solved : answer ≡ Solved → Unique p r (cell_of S scratch) (at values) (at left)
  pub unsolvable : answer ≡ Unsolvable → Impossible p r (cell_of S scratch) (at values)
  pub ambiguous : answer ≡ Ambiguous → Several p r (cell_of S scratch) (at values)
