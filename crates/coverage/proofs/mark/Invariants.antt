-- `coverage::mark` meets its contract: before function f the bytes of the functions below it are written.
use Prim.Native.Nat.{◌≤◌}
use Rattle.coverage.specs.Steps.{Marking}
use Rattle.coverage.proofs.mark.Given as goal

abbrev pub invariant-loop-f : goal.invariant-loop-f
invariant-loop-f l = (l.f ≤ 256) × Marking l.calls l.f l.bytes l.covered
