-- `encoder::interpolation::shift` meets its contract: a slope is below q.
use mathlib.Core.Path.{ap, ◌∙◌}
use Prim.Native.Nat.{ℕ, ◌+◌, ◌-◌}
use native.Mathlib.Numerals.{add-one}
use native.Mathlib.Omega.{arith}
use Rattle.gtb.specs.Shape.{slope_of}
use Rattle.gtb.proofs.Bounds.{bounds}
use Rattle.gtb.proofs.Slopes.{slope_lt}
use Rattle.gtb.specs.Rows.{shift_of}
use Rattle.encoder.proofs.interpolation.shift.Goals as goal

pub slope-requires : goal.slope-requires
slope-requires c = omega (arith, (bounds _ c.args.code.lawful).n8, c.requires)

pub overflow_sub-result : goal.overflow_sub-result
overflow_sub-result c = let a = c.args in
    omega (arith, c.slope.ensures, slope_lt a.code.shape c.args.code.lawful (a.t + 1) (omega arith) (omega arith))

pub returns : goal.returns
unfolding shift_of
returns c = let a = c.args in
    ap (λ (x : ℕ). a.code.shape.q - x) (c.slope.ensures ∙ ap (slope_of a.code.shape) (add-one a.t))
