-- `correction::checks::Checks::gather` meets its contract. The loop's invariant is the contract for the first t checks.
use mathlib.Core.Path.{refl}
use native.Mathlib.Nat.{le_antisymm}
use native.Mathlib.Omega.{arith}
use borrow.Author.Rules.{rules}
use Rattle.gtb.proofs.Bounds.{bounds}
use Rattle.correction.proofs.CheckNumbers.{check_fits}
use Rattle.parity.proofs.Writes.{begins_none, begins_more}
use Rattle.correction.proofs.checks.Checks.gather.Goals as goal

pub loop-t-init : goal.loop-t-init
loop-t-init c = (search rules, begins_none refl)

pub offset_bounds-syn-number : goal.offset_bounds-syn-number
offset_bounds-syn-number c =
    omega (arith, c.number.ensures, check_fits c.args.self.shape c.args.self.lawful c.loop-t.t c.args.j c.loop-t-test.true c.requires)

pub bounds-syn-number : goal.bounds-syn-number
bounds-syn-number c =
    omega (arith, c.number.ensures, check_fits c.args.self.shape c.args.self.lawful c.loop-t.t c.args.j c.loop-t-test.true c.requires)

pub bounds-values-t : goal.bounds-values-t
bounds-values-t c = omega (arith, (bounds _ c.args.self.lawful).n8, c.loop-t-test.true)

pub loop-t-preserved : goal.loop-t-preserved
loop-t-preserved c =
    (search rules, begins_more _ (omega (arith, (bounds _ c.args.self.lawful).n8, c.loop-t-test.true)) (rw c.number.ensures) c.loop-t.invariant.1)

pub returns : goal.returns
returns c = rw (le_antisymm c.loop-t.invariant.0 c.loop-t-test.false) at c.loop-t.invariant.1
