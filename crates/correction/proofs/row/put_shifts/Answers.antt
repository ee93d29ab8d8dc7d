-- `correction::row::put_shifts` meets its contract. The loop's invariant is the contract for the directions below t, of any shape with this order and these slopes.
use mathlib.Core.Path.{refl}
use Prim.Native.Nat.{◌-◌, ◌*◌, ◌<◌}
use lib.ListN.{get_or}
use native.Mathlib.Nat.{le_antisymm, mod-lt}
use native.Mathlib.Omega.{arith}
use borrow.Author.Rules.{rules}
use Rattle.gtb.specs.Shape.{slope_of}
use Rattle.gtb.proofs.Bounds.{bounds, positive}
use Rattle.correction.proofs.CheckNumbers.{offset_le}
use Rattle.correction.proofs.Rows.{shifts_none, shifts_more}
use Rattle.correction.proofs.row.put_shifts.Goals as goal

pub overflow_cast-r : goal.overflow_cast-r
overflow_cast-r c = omega (arith, (bounds c.args.shape c.requires.0).q31)

pub loop-t-init : goal.loop-t-init
loop-t-init c = (omega arith, omega (arith, (bounds _ c.requires.0).n2), λ s _ _. shifts_none s _ c.requires.2)

pub offset_bounds-slopes-place : goal.offset_bounds-slopes-place
offset_bounds-slopes-place c =
    let few : c.loop-t.t < 8 = omega (arith, (bounds c.args.shape c.requires.0).n8) in
    omega (arith, few)

pub bounds-slopes-place : goal.bounds-slopes-place
bounds-slopes-place c =
    let few : c.loop-t.t < 8 = omega (arith, (bounds c.args.shape c.requires.0).n8) in
    omega (arith, few)

pub overflow_mul-shifts : goal.overflow_mul-shifts
unfolding slope_of
overflow_mul-shifts c = omega (arith, offset_le c.args.shape c.requires.0 c.loop-t.t c.args.row c.loop-t.invariant.0 c.loop-t-test.true c.requires.1)

pub nonzero_rem-shifts : goal.nonzero_rem-shifts
nonzero_rem-shifts c = positive _ c.requires.0

pub overflow_cast-shifts : goal.overflow_cast-shifts
overflow_cast-shifts c = omega (arith, (bounds _ c.requires.0).q31, mod-lt (get_or c.args.shape.slopes (c.loop-t.t - 1) 0 * c.args.row) (positive c.args.shape c.requires.0))

pub offset_bounds-shifts-t : goal.offset_bounds-shifts-t
offset_bounds-shifts-t c =
    let few : c.loop-t.t < 8 = omega (arith, (bounds c.args.shape c.requires.0).n8) in
    omega (arith, few)

pub bounds-shifts-t : goal.bounds-shifts-t
bounds-shifts-t c =
    let few : c.loop-t.t < 8 = omega (arith, (bounds c.args.shape c.requires.0).n8) in
    few

pub loop-t-preserved : goal.loop-t-preserved
unfolding slope_of
loop-t-preserved c =
    let few : c.loop-t.t < 8 = omega (arith, (bounds c.args.shape c.requires.0).n8) in (
      search rules,
      search rules,
      λ s eq es. shifts_more _ few (rw (eq, es) refl) (c.loop-t.invariant.2 s eq es),
    )

pub returns : goal.returns
returns c = rw (le_antisymm c.loop-t.invariant.1 c.loop-t-test.false) at (c.loop-t.invariant.2 c.args.shape refl refl)
