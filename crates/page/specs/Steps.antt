-- What the private functions require.
use Rattle.std.specs.Prelude.{◌≡◌, List, ℕ, ◌≤◌, length}
use Rattle.gtb.specs.declared.Shape.{Shape}
use Rattle.gtb.specs.Shape.{Lawful, info_length}

-- tests 1 and 2 are passed: K symbols, at least 2 and at most 900
pub record Sized (s : Shape) (symbols : List ℕ) : Type 0 where
  pub legal : Lawful s
  pub size : length symbols ≡ info_length s
  pub least : 2 ≤ length symbols
  pub largest : length symbols ≤ 900
