-- `correction::apply` meets its contract. The loop's invariant: the errors at the first x places are XORed onto the word.
use mathlib.Core.Path.{refl}
use Prim.Native.Nat.{◌<◌}
use Rattle.parity.specs.Xor.{◌⊕◌}
use Rattle.gtb.specs.Square.{at}
use native.Mathlib.Nat.{le_antisymm}
use native.Mathlib.Omega.{arith}
use lib.ListN.{length}
use borrow.Author.Rules.{rules}
use Rattle.correction.proofs.Toggles.{toggled_none, toggled_more}
use Rattle.correction.proofs.Tables.{mends}
use Rattle.correction.proofs.apply.Goals as goal

pub loop-x-init : goal.loop-x-init
loop-x-init c = (search rules, toggled_none _ _ _)

pub offset_bounds-places-x : goal.offset_bounds-places-x
offset_bounds-places-x c =
    let inside : c.loop-x.x < 8 = omega (arith, c.requires.1.few) in
    omega (arith, inside)

pub bounds-places-x : goal.bounds-places-x
bounds-places-x c =
    let inside : c.loop-x.x < 8 = omega (arith, c.requires.1.few) in
    inside

pub offset_bounds-errors-x : goal.offset_bounds-errors-x
offset_bounds-errors-x c =
    let inside : c.loop-x.x < 8 = omega (arith, c.requires.1.few) in
    omega (arith, inside)

pub bounds-errors-x : goal.bounds-errors-x
bounds-errors-x c =
    let inside : c.loop-x.x < 8 = omega (arith, c.requires.1.few) in
    inside

pub offset_bounds-word-j : goal.offset_bounds-word-j
offset_bounds-word-j c =
    let place : at c.args.places.now c.loop-x.x < length c.args.word.now = rw c.requires.0 (c.requires.1.below c.loop-x.x c.loop-x-test.true) in
    omega (arith, place, c.well_formed.0.1)

pub bounds-word-j : goal.bounds-word-j
bounds-word-j c =
    let place : at c.args.places.now c.loop-x.x < length c.args.word.now = rw c.requires.0 (c.requires.1.below c.loop-x.x c.loop-x-test.true) in
    rw c.loop-x.invariant.1.size place

pub bounds-word-j-in-loop-x : goal.bounds-word-j-in-loop-x
bounds-word-j-in-loop-x c =
    let place : at c.args.places.now c.loop-x.x < length c.args.word.now = rw c.requires.0 (c.requires.1.below c.loop-x.x c.loop-x-test.true) in
    rw c.loop-x.invariant.1.size place

pub loop-x-preserved : goal.loop-x-preserved
unfolding ◌⊕◌
loop-x-preserved c =
    let place : at c.args.places.now c.loop-x.x < length c.args.word.now = rw c.requires.0 (c.requires.1.below c.loop-x.x c.loop-x-test.true) in
    (search rules, toggled_more (at c.args.places.now c.loop-x.x) c.loop-x.invariant.1 refl place)

pub shape_of-word : goal.shape_of-word
shape_of-word c = c.loop-x.invariant.1.size

pub returns : goal.returns
returns c = record { mends = λ error l. mends l c.requires.0 (rw (le_antisymm c.loop-x.invariant.0 c.loop-x-test.false) at c.loop-x.invariant.1) }
