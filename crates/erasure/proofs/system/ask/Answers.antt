-- `erasure::system::ask` meets its contract, which with i for the number of kept checks is the loop's invariant.
use Prim.Native.Nat.{◌<◌}
use native.Mathlib.Omega.{arith}
use Rattle.parity.proofs.Writes.{begins_more}
use Rattle.gtb.specs.Shape.{kept_checks}
use Rattle.gtb.proofs.Sizes.{sizes}
use Rattle.erasure.proofs.Numbers.{kept_fits}
use borrow.Author.Rules.{rules}
use Rattle.erasure.proofs.system.ask.Goals as goal

pub offset_bounds-syn-check : goal.offset_bounds-syn-check
offset_bounds-syn-check c =
    let below : c.loop-i.i < kept_checks c.args.shape = omega (arith, c.loop-i.invariant.1) in
    let check : c.kept_check-check.result < 248 = rw c.kept_check-check.ensures (kept_fits c.args.shape c.requires.0 c.loop-i.i below) in
    omega (arith, check)

pub bounds-syn-check : goal.bounds-syn-check
bounds-syn-check c =
    let below : c.loop-i.i < kept_checks c.args.shape = omega (arith, c.loop-i.invariant.1) in
    let check : c.kept_check-check.result < 248 = rw c.kept_check-check.ensures (kept_fits c.args.shape c.requires.0 c.loop-i.i below) in
    check

pub offset_bounds-values-i : goal.offset_bounds-values-i
offset_bounds-values-i c =
    let below : c.loop-i.i < kept_checks c.args.shape = omega (arith, c.loop-i.invariant.1) in
    let inside : c.loop-i.i < 248 = omega (arith, below, (sizes c.args.shape c.requires.0).kept) in
    omega (arith, inside)

pub bounds-values-i : goal.bounds-values-i
bounds-values-i c =
    let below : c.loop-i.i < kept_checks c.args.shape = omega (arith, c.loop-i.invariant.1) in
    let inside : c.loop-i.i < 248 = omega (arith, below, (sizes c.args.shape c.requires.0).kept) in
    inside

pub loop-i-preserved : goal.loop-i-preserved
loop-i-preserved c =
    let below : c.loop-i.i < kept_checks c.args.shape = omega (arith, c.loop-i.invariant.1) in
    let inside : c.loop-i.i < 248 = omega (arith, below, (sizes c.args.shape c.requires.0).kept) in
    (search rules, c.loop-i.invariant.1, begins_more _ inside (rw c.kept_check-check.ensures) c.loop-i.invariant.2)
