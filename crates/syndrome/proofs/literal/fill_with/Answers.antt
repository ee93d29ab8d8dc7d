-- `syndrome::literal::fill_with` meets its contract: the rows take at most 1922 symbols.
use native.Mathlib.Omega.{arith}
use Rattle.gtb.proofs.Bounds.{bounds}
use Rattle.syndrome.proofs.Doubles.{doubled_small}
use Rattle.syndrome.proofs.literal.fill_with.Goals as goal

pub whole_as_slice-other_directions : goal.whole_as_slice-other_directions
whole_as_slice-other_directions g c = omega (arith, doubled_small g.row.Q (rw c.requires.3 at (bounds _ c.requires.0).q31))
