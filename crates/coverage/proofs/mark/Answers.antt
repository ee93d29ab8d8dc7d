-- `coverage::mark` meets its contract: before function f the bytes of the functions below it are written.
use native.Mathlib.Omega.{arith}
use Rattle.coverage.proofs.Marks.{marking_none, marking_more, marking_fits}
use Rattle.coverage.proofs.mark.Goals as goal

pub loop-f-init : goal.loop-f-init
loop-f-init c = (omega arith, marking_none c.args.calls.now c.args.bytes.now c.requires)

pub overflow_add-covered : goal.overflow_add-covered
overflow_add-covered c = omega (arith, marking_fits c.loop-f.invariant.1 c.loop-f-test.true c.covers-byte.ensures)

pub loop-f-preserved : goal.loop-f-preserved
loop-f-preserved c = (omega arith, marking_more c.loop-f.invariant.1 c.loop-f-test.true c.covers-byte.ensures)
