-- `encoder::checks::stack` meets its contract: the order is one of the ten.
use borrow.Author.Rules.{rules}
use Rattle.gtb.proofs.Orders.{last_order}
use Rattle.gtb.proofs.Bounds.{bounds}
use Rattle.encoder.proofs.checks.stack.Goals as goal

pub stack_by-requires-in_default : goal.stack_by-requires-in_default
stack_by-requires-in_default c = let last = last_order c.args.code.shape.q (bounds _ c.args.code.lawful).listed in search rules

pub returns-in_default : goal.returns-in_default
returns-in_default c = let last = last_order c.args.code.shape.q (bounds _ c.args.code.lawful).listed in search rules
