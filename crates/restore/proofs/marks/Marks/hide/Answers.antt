-- `restore::marks::Marks::hide` meets its contract. The loop's invariant: both tables have their value at the first t checks.
use Prim.Native.Nat.{◌<◌}
use native.Mathlib.Nat.{le_antisymm}
use native.Mathlib.Omega.{arith}
use borrow.Author.Rules.{rules}
use Rattle.correction.proofs.CheckNumbers.{check_fits}
use Rattle.restore.proofs.Tables.{put_more, hides}
use Rattle.restore.proofs.marks.Marks.hide.Goals as goal

pub offset_bounds-self-check : goal.offset_bounds-self-check
offset_bounds-self-check c =
    let inside : c.number-check.result < 248 = rw c.number-check.ensures (check_fits c.args.checks.shape c.args.checks.lawful c.loop-t.t c.args.j c.loop-t-test.true c.requires) in
    omega (arith, inside)

pub bounds-self-check : goal.bounds-self-check
bounds-self-check c =
    let inside : c.number-check.result < 248 = rw c.number-check.ensures (check_fits c.args.checks.shape c.args.checks.lawful c.loop-t.t c.args.j c.loop-t-test.true c.requires) in
    inside

pub offset_bounds-self-check-in-loop-t : goal.offset_bounds-self-check-in-loop-t
offset_bounds-self-check-in-loop-t c =
    let inside : c.number-check.result < 248 = rw c.number-check.ensures (check_fits c.args.checks.shape c.args.checks.lawful c.loop-t.t c.args.j c.loop-t-test.true c.requires) in
    omega (arith, inside)

pub bounds-self-check-in-loop-t : goal.bounds-self-check-in-loop-t
bounds-self-check-in-loop-t c =
    let inside : c.number-check.result < 248 = rw c.number-check.ensures (check_fits c.args.checks.shape c.args.checks.lawful c.loop-t.t c.args.j c.loop-t-test.true c.requires) in
    inside

pub loop-t-preserved : goal.loop-t-preserved
loop-t-preserved c =
    let inside : c.number-check.result < 248 = rw c.number-check.ensures (check_fits c.args.checks.shape c.args.checks.lawful c.loop-t.t c.args.j c.loop-t-test.true c.requires) in
    let (few, seen, touched, hidden, marked) = c.loop-t.invariant in (
      search rules,
      search rules,
      search rules,
      put_more c.number-check.result hidden c.number-check.ensures (rw seen inside),
      put_more c.number-check.result marked c.number-check.ensures (rw touched inside),
    )

pub returns : goal.returns
returns c =
    let all = le_antisymm c.loop-t.invariant.0 c.loop-t-test.false in
    hides c.args.checks.lawful c.requires (rw all at c.loop-t.invariant.3) (rw all at c.loop-t.invariant.4)
