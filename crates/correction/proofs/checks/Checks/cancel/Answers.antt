-- `correction::checks::Checks::cancel` meets its contract. The loop's invariant is the contract for the first x places.
use native.Mathlib.Nat.{le_antisymm}
use native.Mathlib.Omega.{arith}
use borrow.Author.Rules.{rules}
use Rattle.correction.proofs.Silence.{cancelled_none, cancelled_more}
use Rattle.correction.proofs.checks.Checks.cancel.Goals as goal

pub loop-x-init : goal.loop-x-init
loop-x-init c = (search rules, cancelled_none _ _ _ _ c.requires.0)

pub bounds-places-x : goal.bounds-places-x
bounds-places-x c = omega (arith, c.requires.1.few, c.loop-x-test.true)

pub bounds-errors-x : goal.bounds-errors-x
bounds-errors-x c = omega (arith, c.requires.1.few, c.loop-x-test.true)

pub cancel_one-requires : goal.cancel_one-requires
cancel_one-requires c = (c.loop-x.invariant.1.size, c.requires.1.below c.loop-x.x c.loop-x-test.true)

pub loop-x-preserved : goal.loop-x-preserved
loop-x-preserved c =
    (search rules, cancelled_more c.args.self.lawful (c.requires.1.below c.loop-x.x c.loop-x-test.true) c.loop-x.invariant.1 c.cancel_one.ensures)

pub returns : goal.returns
returns c = rw (le_antisymm c.loop-x.invariant.0 c.loop-x-test.false) at c.loop-x.invariant.1
