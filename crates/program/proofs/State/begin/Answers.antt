-- `program::State::begin` meets its contract.
use Rattle.program.specs.Moves.{begun}
use Rattle.program.proofs.State.begin.Goals as goal

pub returns-then-error : goal.returns-then-error
unfolding begun
returns-then-error c = rw (c.if-error.true, c.limit.ensures)

pub returns-else-error : goal.returns-else-error
unfolding begun
returns-else-error c = rw (c.if-error.false, c.limit.ensures)
