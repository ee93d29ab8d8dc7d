-- `encoder::checks::stack_by` meets its contract. The loop's invariant: the first r rows are taken in.
use native.Mathlib.Omega.{arith}
use borrow.Author.Rules.{rules}
use Rattle.encoder.proofs.Stacks.{stacking_none, stacking_more}
use Rattle.encoder.proofs.checks.stack_by.Goals as goal

pub loop-r-init : goal.loop-r-init
loop-r-init g c = (search rules, search rules, stacking_none _ _)

pub loop-r-preserved : goal.loop-r-preserved
loop-r-preserved g c = (omega arith, omega arith, stacking_more _ _ _ _ _ c.loop-r.invariant.0 c.loop-r.invariant.2 c.join_run.ensures)
