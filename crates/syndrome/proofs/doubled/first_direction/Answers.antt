-- `syndrome::doubled::first_direction` meets its contract.
use mathlib.Core.Path.{ap}
use lib.ListN.{length}
use Rattle.gtb.proofs.Bounds.{bounds}
use Rattle.syndrome.proofs.Doubles.{first_of}
use Rattle.syndrome.proofs.doubled.first_direction.Goals as goal

pub add_rows-requires : goal.add_rows-requires
add_rows-requires c = (ap length c.requires.2, rw c.requires.3 c.requires.1, rw c.requires.3 (bounds _ c.requires.0).q31)

pub returns : goal.returns
returns c = first_of c.args.shape c.requires.0 c.args.word.now c.args.q c.requires.3 c.requires.2 c.add_rows.ensures
