-- `session::add_marks` meets its contract: the marks so far have been added.
use Prim.Native.Nat.{◌+◌, ◌^◌, ◌<◌}
use native.Mathlib.Omega.{arith}
use lib.ListN.{get_or}
use Rattle.parity.specs.Count.{bit}
use Rattle.session.specs.Session.{is_call}
use Rattle.session.proofs.Progress.{bit_byte}
use Rattle.session.proofs.Marks.{turn_none, turn_more, turn_full, turn_all}
use Rattle.session.proofs.add_marks.Goals as goal

pub loop-mark-init : goal.loop-mark-init
loop-mark-init c = turn_none c.requires.0 c.requires.1

pub returns-in_err-calls : goal.returns-in_err-calls
returns-in_err-calls c =
    let m = get_or c.args.marks.now c.loop-mark.mark-index 0 in
    rw c.from_residual.ensures (turn_full c.loop-mark.invariant c.loop-mark-test.true (omega (arith, c.in_err-calls.ensures, bit_byte (is_call m))))

pub loop-mark-preserved : goal.loop-mark-preserved
loop-mark-preserved c =
    let m = get_or c.args.marks.now c.loop-mark.mark-index 0 in
    let (fits, is) = c.in_ok-calls.ensures in
    let room : get_or c.loop-mark.calls m 0 + bit (is_call m) < 2 ^ 32 = omega (arith, fits, bit_byte (is_call m)) in
    rw (is, bit_byte (is_call m)) (turn_more c.loop-mark.invariant c.loop-mark-test.true room)

pub returns : goal.returns
returns c = turn_all c.loop-mark.invariant c.loop-mark-test.false
