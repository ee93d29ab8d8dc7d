-- `erasure::system::mark_place` meets its contract. The loop's invariant: the kept checks of the directions passed have the column.
use native.Mathlib.Nat.{le_antisymm}
use Rattle.erasure.proofs.Systems.{directions_none, directions_more, directions_all}
use borrow.Author.Rules.{rules}
use Rattle.erasure.proofs.system.mark_place.Goals as goal

pub loop-t-init : goal.loop-t-init
loop-t-init c = let a = c.args in (search rules, directions_none a.checks.shape a.k a.j _)

pub loop-t-preserved : goal.loop-t-preserved
loop-t-preserved c = let a = c.args in
    (search rules, directions_more a.checks.shape a.k a.j c.loop-t.t c.loop-t.invariant.1 c.mark_check.ensures)

pub returns : goal.returns
returns c = directions_all c.args.checks.shape c.args.k c.args.j c.args.checks.lawful (rw (le_antisymm c.loop-t.invariant.0 c.loop-t-test.false) at c.loop-t.invariant.1)
