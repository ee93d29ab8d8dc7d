-- `gtb::code::Code::gather` meets its contract. The loop's invariant: the symbols of i rows are copied.
use mathlib.Core.Path.{◌≡◌}
use Prim.Native.Nat.{◌+◌, ◌-◌}
use native.Mathlib.Omega.{arith}
use Rattle.gtb.proofs.Bounds.{bounds}
use Rattle.gtb.proofs.Sizes.{Lower, lower}
use Rattle.gtb.proofs.Gathers.{gathered_more, gathered_all}
use Rattle.gtb.proofs.code.Code.gather.Goals as goal

pub overflow_sub-m : goal.overflow_sub-m
overflow_sub-m c = let b = bounds _ c.args.self.lawful in omega arith

pub overflow_sub-rows : goal.overflow_sub-rows
overflow_sub-rows c = let b = bounds _ c.args.self.lawful in omega arith

pub overflow_sub-p : goal.overflow_sub-p
overflow_sub-p c = let b = bounds _ c.args.self.lawful in omega arith

pub copy_run-requires : goal.copy_run-requires
copy_run-requires c =
    let fit : Lower c.args.self.shape c.loop-i.i = let b = bounds _ c.args.self.lawful in lower _ c.args.self.lawful _ c.loop-i-test.true in
    let f = fit in
    let b = bounds _ c.args.self.lawful in
    omega (arith, c.loop-i.invariant.1.size)

pub loop-i-preserved : goal.loop-i-preserved
loop-i-preserved c = (omega arith, gathered_more _ _ _ _ _ _ _ _ c.loop-i.invariant.1 c.copy_run.ensures)

pub returns : goal.returns
returns c = let b = bounds _ c.args.self.lawful in
    let e : c.loop-i.i ≡ c.args.self.shape.q + 1 - c.args.self.shape.n = omega arith in
    gathered_all _ _ _ _ c.requires.1 (rw e at c.loop-i.invariant.1)
