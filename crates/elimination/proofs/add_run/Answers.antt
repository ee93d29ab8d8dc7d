-- `elimination::add_run` meets its contract, which with w for `last` is the loop's invariant.
use native.Mathlib.Nat.{le_antisymm}
use borrow.Author.Rules.{rules}
use Rattle.parity.specs.Xor.{◌⊕◌}
use Rattle.elimination.proofs.Cells.{added_none, added_more}
use Rattle.elimination.proofs.add_run.Goals as goal

pub loop-w-init : goal.loop-w-init
loop-w-init c = (search rules, search rules, added_none _ _ _ _)

pub loop-w-preserved : goal.loop-w-preserved
unfolding ◌⊕◌
loop-w-preserved c = let p = c.requires in
    (search rules, search rules, added_more _ c.loop-w.invariant.2 c.loop-w.invariant.0 c.loop-w-test.true p.1 p.3)

pub returns : goal.returns
returns c = rw (le_antisymm c.loop-w.invariant.1 c.loop-w-test.false) at c.loop-w.invariant.2
