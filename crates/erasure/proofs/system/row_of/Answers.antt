-- `erasure::system::row_of` meets its contract.
use Prim.Native.Nat.{◌<◌}
use native.Mathlib.Omega.{arith}
use Rattle.correction.proofs.CheckNumbers.{check_fits}
use Rattle.erasure.proofs.Numbers.{numbered_first, numbered_later, numbered_none}
use Rattle.erasure.proofs.system.row_of.Goals as goal

pub returns-then-t-eq0 : goal.returns-then-t-eq0
returns-then-t-eq0 c = rw c.number-check.ensures
    (numbered_first c.args.checks.shape c.args.checks.lawful c.args.t c.args.j c.requires.0 c.requires.1 c.if-t-eq0.true)

pub overflow_add-check : goal.overflow_add-check
overflow_add-check c =
    let inside : c.number-check.result < 248 = rw c.number-check.ensures (check_fits c.args.checks.shape c.args.checks.lawful c.args.t c.args.j c.requires.0 c.requires.1) in
    omega (arith, inside)

pub returns-then-check-t : goal.returns-then-check-t
returns-then-check-t c = numbered_none c.args.checks.shape c.args.checks.lawful c.args.t c.args.j c.requires.0 c.requires.1 c.if-t-eq0.false
    (rw c.number-check.ensures at c.if-check-t.true)

pub overflow_add-result : goal.overflow_add-result
overflow_add-result c =
    let inside : c.number-check.result < 248 = rw c.number-check.ensures (check_fits c.args.checks.shape c.args.checks.lawful c.args.t c.args.j c.requires.0 c.requires.1) in
    omega (arith, inside)

pub returns : goal.returns
returns c = rw c.number-check.ensures
    (numbered_later c.args.checks.shape c.args.checks.lawful c.args.t c.args.j c.requires.0 c.requires.1 c.if-t-eq0.false (rw c.number-check.ensures at c.if-check-t.false))
