-- `correction::table::check_numbers` meets its contract, by one test over the whole table.
use mathlib.Core.Path.{refl}
use Rattle.correction.specs.Shipped.{shipped_line}
use Rattle.correction.proofs.Tabulated.{ruled}
use Rattle.correction.proofs.table.check_numbers.Goals as goal

pub returns : goal.returns
unfolding shipped_line
returns c = ruled _ refl refl
