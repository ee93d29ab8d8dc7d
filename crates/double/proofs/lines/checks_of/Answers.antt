-- `double::lines::checks_of` meets its contract.
use Prim.Native.Nat.{◌+◌, ◌*◌, ◌≤◌}
use native.Mathlib.Omega.{arith}
use borrow.Author.Rules.{rules}
use Rattle.correction.proofs.CheckNumbers.{lines_fit}
use Rattle.double.proofs.lines.checks_of.Goals as goal

pub offset_bounds-syn-first : goal.offset_bounds-syn-first
offset_bounds-syn-first c = omega (arith, lines_fit c.args.checks.shape c.args.checks.lawful c.args.t c.requires)

pub slice_bounds-result-end : goal.slice_bounds-result-end
slice_bounds-result-end c =
    let fits : c.args.t * c.args.checks.shape.q + c.args.checks.shape.q ≤ 248 = lines_fit c.args.checks.shape c.args.checks.lawful c.args.t c.requires in
    search rules
