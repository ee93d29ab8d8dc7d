-- `Way::try_from` meets its contract.
use mathlib.Core.Path.{sym}
use native.Mathlib.Omega.{arith}
use borrow.Author.Tests.{le-ltb}
use Rattle.session.specs.Arrival.{is_way}
use Rattle.session.proofs.way.WayTryFromU32.try_from.Goals as goal

pub returns-in-0 : goal.returns-in-0
unfolding is_way
returns-in-0 c = (rw c.in-0.is, sym c.in-0.is)

pub returns-in-1 : goal.returns-in-1
unfolding is_way
returns-in-1 c = (rw c.in-1.is, sym c.in-1.is)

pub returns-in-2 : goal.returns-in-2
unfolding is_way
returns-in-2 c = (rw c.in-2.is, sym c.in-2.is)

pub returns-in_default : goal.returns-in_default
unfolding is_way
returns-in_default c = rw (le-ltb c.args.way 3 (omega arith))
