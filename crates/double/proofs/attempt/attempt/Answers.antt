-- `double::attempt::attempt` meets its contract.
use Prim.Native.Nat.{◌+◌, ◌*◌, ◌<◌}
use native.Mathlib.Omega.{arith}
use Rattle.correction.proofs.CheckNumbers.{check_lt}
use Rattle.double.proofs.Finding.{attempt_straight, attempt_crossed}
use Rattle.double.proofs.attempt.attempt.Goals as goal

pub offset_bounds-syn-t : goal.offset_bounds-syn-t
offset_bounds-syn-t c =
    let first-inside : c.args.t * c.args.checks.shape.q + c.first_line-a.result < 248 = check_lt c.args.checks.shape c.args.checks.lawful c.args.t _ (omega (arith, c.requires.0, c.requires.1)) c.first_line-a.ensures.below in
    omega (arith, first-inside)

pub bounds-syn-t : goal.bounds-syn-t
bounds-syn-t c =
    let first-inside : c.args.t * c.args.checks.shape.q + c.first_line-a.result < 248 = check_lt c.args.checks.shape c.args.checks.lawful c.args.t _ (omega (arith, c.requires.0, c.requires.1)) c.first_line-a.ensures.below in
    first-inside

pub second_value-y-requires : goal.second_value-y-requires
second_value-y-requires c =
    let last-inside : c.args.t * c.args.checks.shape.q + c.last_line-b.result < 248 = check_lt c.args.checks.shape c.args.checks.lawful c.args.t _ (omega (arith, c.requires.0, c.requires.1)) c.last_line-b.ensures.below in
    last-inside

pub returns-in-Some : goal.returns-in-Some
returns-in-Some c = attempt_straight c.args.checks.shape c.args.checks.lawful _ _ _ _ _ _ _ c.requires.0 c.requires.1
    c.first_line-a.ensures c.last_line-b.ensures c.first_line-c.ensures c.last_line-d.ensures c.second_value-y.ensures c.cross.ensures c.cross-2.ensures
    (rw c.in-Some.is at c.test_pair.ensures)

pub returns : goal.returns
returns c = attempt_crossed c.args.checks.shape c.args.checks.lawful _ _ _ _ _ _ _ c.requires.0 c.requires.1
    c.first_line-a.ensures c.last_line-b.ensures c.first_line-c.ensures c.last_line-d.ensures c.second_value-y.ensures c.cross.ensures c.cross-2.ensures
    c.test_pair-2.result (rw c.in_default.is at c.test_pair.ensures) c.cross-3.ensures c.cross-4.ensures c.test_pair-2.ensures
