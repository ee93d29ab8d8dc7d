-- The contract of the loop over the functions.
use Rattle.std.specs.Prelude.{◌≡◌, List, ℕ}
use Rattle.parity.specs.Count.{count}
use Rattle.parity.specs.Lists.{Begins}
use Rattle.coverage.specs.Coverage.{is_called, cover_byte}

-- the bytes of the functions below n are written, and their yes counted
pub record Marking (calls : List ℕ) (n : ℕ) (bytes : List ℕ) (covered : ℕ) : Type 0 where
  pub written : Begins 256 n (cover_byte calls) bytes
  pub number : covered ≡ count n (is_called calls)
