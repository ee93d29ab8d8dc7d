-- `correction::checks::Checks::on_row` meets its contract. A row and a step are below q, so nothing wraps.
use Prim.Native.Nat.{◌+◌, ◌-◌, ◌*◌, ◌≤◌}
use native.Mathlib.Nat.{mul-le-mul, mod-lt}
use native.Mathlib.Omega.{arith}
use Rattle.gtb.proofs.Bounds.{bounds, positive}
use Rattle.gtb.proofs.Slopes.{slope_lt}
use Rattle.correction.proofs.Guessing.{row_position}
use Rattle.correction.proofs.checks.Checks.on_row.Goals as goal

pub overflow_mul-result : goal.overflow_mul-result
overflow_mul-result c =
    let rows : c.args.row * c.args.self.shape.q ≤ 961 = let b = bounds _ c.args.self.lawful in mul-le-mul {n₂ = 31} {m₂ = 31} (omega (arith, b.q31, c.requires.2)) b.q31 in
    omega (arith, rows)

pub slope-requires : goal.slope-requires
slope-requires c = (c.requires.0, omega (arith, (bounds _ c.args.self.lawful).n8, c.requires.1))

pub overflow_sub-result : goal.overflow_sub-result
overflow_sub-result c = omega (arith, c.slope.ensures, slope_lt c.args.self.shape c.args.self.lawful c.args.u c.requires.0 c.requires.1)

pub overflow_mul-result-2 : goal.overflow_mul-result-2
overflow_mul-result-2 c =
    let offset : (c.args.self.shape.q - c.slope.result) * c.args.row ≤ 961 = let b = bounds _ c.args.self.lawful in mul-le-mul {n₂ = 31} {m₂ = 31} (omega (arith, b.q31)) (omega (arith, b.q31, c.requires.2)) in
    omega (arith, offset)

pub overflow_add-result : goal.overflow_add-result
overflow_add-result c =
    let offset : (c.args.self.shape.q - c.slope.result) * c.args.row ≤ 961 = let b = bounds _ c.args.self.lawful in mul-le-mul {n₂ = 31} {m₂ = 31} (omega (arith, b.q31)) (omega (arith, b.q31, c.requires.2)) in
    omega (arith, offset, (bounds _ c.args.self.lawful).q31, c.requires.3)

pub nonzero_rem-result : goal.nonzero_rem-result
nonzero_rem-result c = positive _ c.args.self.lawful

pub overflow_add-result-2 : goal.overflow_add-result-2
overflow_add-result-2 c =
    let rows : c.args.row * c.args.self.shape.q ≤ 961 = let b = bounds _ c.args.self.lawful in mul-le-mul {n₂ = 31} {m₂ = 31} (omega (arith, b.q31, c.requires.2)) b.q31 in
    let b = bounds _ c.args.self.lawful in
    omega (
      arith,
      rows,
      mod-lt (c.args.line + (c.args.self.shape.q - c.slope.result) * c.args.row) (positive _ c.args.self.lawful),
      b.q31,
    )

pub returns : goal.returns
returns c = rw c.slope.ensures (row_position c.args.self.shape c.args.self.lawful c.args.u c.args.row c.args.line c.requires.0 c.requires.1 c.requires.2 c.requires.3)
