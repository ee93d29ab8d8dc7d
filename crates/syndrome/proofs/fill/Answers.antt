-- `syndrome::fill` meets its contract: the order is one of the ten.
use borrow.Author.Rules.{rules}
use Rattle.gtb.proofs.Orders.{last_order}
use Rattle.gtb.proofs.Bounds.{bounds}
use Rattle.syndrome.proofs.fill.Goals as goal

pub fill_with-requires-in_default : goal.fill_with-requires-in_default
fill_with-requires-in_default c = let last = last_order c.args.shape.q (bounds _ c.requires.0).listed in search rules
