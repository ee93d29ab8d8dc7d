-- `encoder::place` meets its contract. The loop's invariant: i rows are put down.
use mathlib.Core.Path.{◌≡◌, ◌∙◌}
use Prim.Native.Nat.{◌-◌}
use native.Mathlib.Omega.{arith}
use Rattle.gtb.proofs.Bounds.{bounds}
use Rattle.gtb.proofs.Sizes.{Lower, lower}
use Rattle.encoder.proofs.Bounds.{upper_fits}
use Rattle.encoder.proofs.Places.{placing_more, placing_all}
use Rattle.encoder.proofs.place.Goals as goal

pub overflow_sub-m : goal.overflow_sub-m
overflow_sub-m c = let b = bounds _ c.args.code.lawful in omega arith

pub clear_run-requires : goal.clear_run-requires
clear_run-requires c = let f = upper_fits _ c.args.code.lawful in omega arith

pub overflow_sub-rows : goal.overflow_sub-rows
overflow_sub-rows c = let b = bounds _ c.args.code.lawful in omega arith

pub overflow_sub-p : goal.overflow_sub-p
overflow_sub-p c = let b = bounds _ c.args.code.lawful in omega arith

pub place_row-requires : goal.place_row-requires
place_row-requires c =
    let fit : Lower c.args.code.shape c.loop-i.i = let b = bounds _ c.args.code.lawful in lower _ c.args.code.lawful _ c.loop-i-test.true in
    let f = fit in
    let b = bounds _ c.args.code.lawful in
    omega (arith, c.loop-i.invariant.1.size ∙ c.clear_run.ensures.size)

pub loop-i-preserved : goal.loop-i-preserved
loop-i-preserved c = let b = bounds _ c.args.code.lawful in
    (omega arith, placing_more _ _ _ _ _ _ _ _ (omega arith) (omega arith) c.loop-i.invariant.1 c.place_row.ensures)

pub returns : goal.returns
returns c = let b = bounds _ c.args.code.lawful in
    let e : c.loop-i.i ≡ c.args.code.shape.q - (c.args.code.shape.n - 1) = omega arith in
    placing_all _ c.args.code.lawful _ _ _ _ c.requires.0 c.clear_run.ensures (rw e at c.loop-i.invariant.1)
