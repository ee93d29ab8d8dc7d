-- `correction::checks::Checks::too_many_not_silent` meets its contract.
use mathlib.Core.Path.{refl}
use Prim.Native.Nat.{◌+◌, ◌*◌}
use native.Mathlib.Omega.{arith}
use Rattle.parity.proofs.Tests.{clash}
use Rattle.gtb.specs.Square.{at}
use Rattle.gtb.proofs.Bounds.{bounds}
use Rattle.correction.proofs.Showing.{shows_le}
use Rattle.correction.proofs.checks.Checks.too_many_not_silent.Goals as goal

pub overflow_add-silent_lines : goal.overflow_add-silent_lines
overflow_add-silent_lines c = let b = bounds c.args.self.shape c.args.self.lawful in
    omega (arith, c.silent_lines.ensures, shows_le c.args.self.shape.q (λ L. at c.args.syn.now (c.loop-t.t * c.args.self.shape.q + L)) 0, b.q31, b.n8, c.requires)

pub returns-then-silent_lines-k : goal.returns-then-silent_lines-k
returns-then-silent_lines-k c = λ _. record { direction = c.loop-t.t; below = c.loop-t-test.true; many = rw c.silent_lines.ensures at c.if-silent_lines-k.true }

pub returns : goal.returns
returns c = λ e. absurd (clash e refl)
