-- `correction::checks::Checks::place_of` meets its contract. A row and a column are below q, so nothing wraps.
use Prim.Native.Nat.{◌*◌, ◌≤◌}
use native.Mathlib.Nat.{mul-le-mul, pos_of_ne-zero}
use native.Mathlib.Omega.{arith}
use Rattle.gtb.proofs.Bounds.{bounds}
use Rattle.correction.proofs.Guessing.{placed_row, placed_line}
use Rattle.correction.proofs.checks.Checks.place_of.Goals as goal

pub overflow_mul-result : goal.overflow_mul-result
overflow_mul-result c =
    let lines : c.args.line * c.args.self.shape.q ≤ 961 = let b = bounds c.args.self.shape c.args.self.lawful in mul-le-mul {n₂ = 31} {m₂ = 31} (omega (arith, b.q31, c.requires.1)) b.q31 in
    omega (arith, lines)

pub overflow_add-result : goal.overflow_add-result
overflow_add-result c =
    let lines : c.args.line * c.args.self.shape.q ≤ 961 = let b = bounds c.args.self.shape c.args.self.lawful in mul-le-mul {n₂ = 31} {m₂ = 31} (omega (arith, b.q31, c.requires.1)) b.q31 in
    omega (arith, lines, (bounds c.args.self.shape c.args.self.lawful).q31, c.requires.2)

pub returns-then-t-eq0 : goal.returns-then-t-eq0
returns-then-t-eq0 c = placed_row _ c.requires.1 c.requires.2 c.if-t-eq0.true

pub on_row-requires : goal.on_row-requires
on_row-requires c = (pos_of_ne-zero c.if-t-eq0.false, c.requires.0, c.requires.2, c.requires.1)

pub returns : goal.returns
returns c = placed_line _ c.args.self.lawful c.requires.0 c.if-t-eq0.false c.on_row.ensures
