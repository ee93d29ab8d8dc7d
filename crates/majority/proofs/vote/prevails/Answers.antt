-- `majority::vote::prevails` meets its contract.
use native.Mathlib.Omega.{arith}
use borrow.Author.Tests.{eq-eqb, ne_eqb}
use Rattle.gtb.specs.Square.{at}
use Rattle.correction.proofs.Showing.{shows_le}
use Rattle.majority.specs.Steps.{prevailing}
use Rattle.majority.proofs.vote.prevails.Goals as goal

pub overflow_mul-result : goal.overflow_mul-result
overflow_mul-result c = omega (arith, c.shown.ensures, shows_le c.args.n (at c.args.values.now) c.args.x, c.requires)

pub returns-then-x-ne0 : goal.returns-then-x-ne0
unfolding prevailing
returns-then-x-ne0 c = rw (ne_eqb _ _ c.if-x-ne0.true, c.shown.ensures)

pub returns-else-x-ne0 : goal.returns-else-x-ne0
unfolding prevailing
returns-else-x-ne0 c = rw (eq-eqb _ _ c.if-x-ne0.false)
