-- `correction::checks::Checks::cancel_one` meets its contract. The loop's invariant is the contract for the first t checks.
use Rattle.parity.specs.Xor.{◌⊕◌}
use native.Mathlib.Nat.{le_antisymm}
use native.Mathlib.Omega.{arith}
use borrow.Author.Rules.{rules}
use Rattle.correction.proofs.CheckNumbers.{check_fits}
use Rattle.correction.proofs.Toggles.{toggled_none, toggled_more}
use Rattle.correction.proofs.checks.Checks.cancel_one.Goals as goal

pub loop-t-init : goal.loop-t-init
loop-t-init c = (search rules, toggled_none _ _ _)

pub offset_bounds-syn-check : goal.offset_bounds-syn-check
offset_bounds-syn-check c =
    omega (arith, c.number-check.ensures, check_fits c.args.self.shape c.args.self.lawful c.loop-t.t c.args.j c.loop-t-test.true c.requires.1)

pub bounds-syn-check : goal.bounds-syn-check
bounds-syn-check c =
    omega (arith, c.number-check.ensures, check_fits c.args.self.shape c.args.self.lawful c.loop-t.t c.args.j c.loop-t-test.true c.requires.1)

pub bounds-syn-check-in-loop-t : goal.bounds-syn-check-in-loop-t
bounds-syn-check-in-loop-t c =
    omega (arith, c.number-check.ensures, check_fits c.args.self.shape c.args.self.lawful c.loop-t.t c.args.j c.loop-t-test.true c.requires.1)

pub loop-t-preserved : goal.loop-t-preserved
unfolding ◌⊕◌
loop-t-preserved c = (
  search rules,
  toggled_more c.number-check.result c.loop-t.invariant.1 c.number-check.ensures
      (omega (arith, c.requires.0, c.number-check.ensures, check_fits c.args.self.shape c.args.self.lawful c.loop-t.t c.args.j c.loop-t-test.true c.requires.1)),
)

pub returns : goal.returns
returns c = rw (le_antisymm c.loop-t.invariant.0 c.loop-t-test.false) at c.loop-t.invariant.1
