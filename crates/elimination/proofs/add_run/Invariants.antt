-- `elimination::add_run` meets its contract, which with w for `last` is the loop's invariant.
use Prim.Native.Nat.{◌≤◌}
use Rattle.elimination.specs.Steps.{RunAdded}
use Rattle.elimination.proofs.add_run.Given as goal

abbrev pub invariant-loop-w : goal.invariant-loop-w
invariant-loop-w l = (l.first ≤ l.w) × (l.w ≤ l.last) × RunAdded l.to l.from l.first l.w l.initial.scratch l.scratch
