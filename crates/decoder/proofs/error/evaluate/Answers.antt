-- `decoder::error::evaluate` meets its contract. The loop's invariant is the contract for the first x errors.
use Prim.Native.Nat.{◌<◌}
use native.Mathlib.Nat.{le_antisymm}
use native.Mathlib.Omega.{arith}
use borrow.Author.Rules.{rules}
use Rattle.parity.proofs.Writes.{begins_none, begins_more}
use Rattle.decoder.proofs.error.evaluate.Goals as goal

pub loop-x-init : goal.loop-x-init
loop-x-init c = (search rules, begins_none c.requires.0)

pub offset_bounds-places-x : goal.offset_bounds-places-x
offset_bounds-places-x c =
    let inside : c.loop-x.x < 8 = omega (arith, c.requires.1.few) in
    omega (arith, inside)

pub bounds-places-x : goal.bounds-places-x
bounds-places-x c =
    let inside : c.loop-x.x < 8 = omega (arith, c.requires.1.few) in
    inside

pub error_of-requires : goal.error_of-requires
error_of-requires c = (c.requires.1.below c.loop-x.x c.loop-x-test.true, c.requires.1)

pub offset_bounds-errors-x : goal.offset_bounds-errors-x
offset_bounds-errors-x c =
    let inside : c.loop-x.x < 8 = omega (arith, c.requires.1.few) in
    omega (arith, inside)

pub bounds-errors-x : goal.bounds-errors-x
bounds-errors-x c =
    let inside : c.loop-x.x < 8 = omega (arith, c.requires.1.few) in
    inside

pub loop-x-preserved : goal.loop-x-preserved
loop-x-preserved c =
    let inside : c.loop-x.x < 8 = omega (arith, c.requires.1.few) in
    (search rules, begins_more c.error_of.result inside c.error_of.ensures c.loop-x.invariant.1)

pub returns : goal.returns
returns c = rw (le_antisymm c.loop-x.invariant.0 c.loop-x-test.false) at c.loop-x.invariant.1
