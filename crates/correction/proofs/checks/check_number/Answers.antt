-- `correction::checks::check_number` meets its contract. A number is below 248, so nothing wraps.
use mathlib.Core.Path.{◌≡◌}
use Prim.Native.Nat.{◌+◌, ◌*◌, ◌/◌, ◌%◌, ◌≤◌}
use native.Mathlib.Nat.{mod-lt, div-lt_iff_lt-mul}
use native.Mathlib.Omega.{arith}
use Rattle.gtb.proofs.Bounds.{bounds, positive}
use Rattle.correction.specs.Error.{check_of}
use Rattle.correction.proofs.CheckNumbers.{check_lt, check_row, check_line, check_fits, offset_le}
use Rattle.correction.proofs.checks.check_number.Goals as goal

pub nonzero_div-row : goal.nonzero_div-row
nonzero_div-row c = positive _ c.requires.0

pub returns-then-t-eq0 : goal.returns-then-t-eq0
returns-then-t-eq0 c = check_row _ _ _ c.if-t-eq0.true

pub overflow_mul-result : goal.overflow_mul-result
overflow_mul-result c = let a = c.args in omega (arith, check_lt a.shape c.requires.0 a.t 0 c.requires.1 (positive _ c.requires.0))

pub nonzero_rem-result : goal.nonzero_rem-result
nonzero_rem-result c = positive _ c.requires.0

pub slope-requires : goal.slope-requires
slope-requires c = omega (arith, (bounds _ c.requires.0).n8, c.requires.1, c.if-t-eq0.false)

pub overflow_mul-result-2 : goal.overflow_mul-result-2
overflow_mul-result-2 c =
    let offset : c.slope.result * (c.args.j / c.args.shape.q) ≤ 961 = rw c.slope.ensures (offset_le c.args.shape c.requires.0 c.args.t _ (omega (arith, c.if-t-eq0.false)) c.requires.1 ((div-lt_iff_lt-mul (positive c.args.shape c.requires.0)).1 c.requires.2)) in
    omega (arith, offset)

pub overflow_add-result : goal.overflow_add-result
overflow_add-result c =
    let offset : c.slope.result * (c.args.j / c.args.shape.q) ≤ 961 = rw c.slope.ensures (offset_le c.args.shape c.requires.0 c.args.t _ (omega (arith, c.if-t-eq0.false)) c.requires.1 ((div-lt_iff_lt-mul (positive c.args.shape c.requires.0)).1 c.requires.2)) in
    omega (arith, offset, mod-lt c.args.j (positive c.args.shape c.requires.0), (bounds c.args.shape c.requires.0).q31)

pub nonzero_rem-result-2 : goal.nonzero_rem-result-2
nonzero_rem-result-2 c = positive _ c.requires.0

pub overflow_add-result-2 : goal.overflow_add-result-2
overflow_add-result-2 c =
    let same : let a = c.args in a.t * a.shape.q + (a.j % a.shape.q + c.slope.result * (a.j / a.shape.q)) % a.shape.q ≡ check_of a.shape a.j a.t = rw c.slope.ensures (check_line _ _ _ c.if-t-eq0.false) in
    omega (arith, same, check_fits c.args.shape c.requires.0 c.args.t c.args.j c.requires.1 c.requires.2)

pub returns : goal.returns
returns c =
    let same : let a = c.args in a.t * a.shape.q + (a.j % a.shape.q + c.slope.result * (a.j / a.shape.q)) % a.shape.q ≡ check_of a.shape a.j a.t = rw c.slope.ensures (check_line _ _ _ c.if-t-eq0.false) in
    same
