-- `erasure::system::mark_place` meets its contract. The loop's invariant: the kept checks of the directions passed have the column.
use Prim.Native.Nat.{◌≤◌}
use Rattle.gtb.specs.Shape.{kept_checks}
use Rattle.erasure.specs.Steps.{Flipped}
use Rattle.erasure.proofs.Systems.{up_to}
use Rattle.erasure.proofs.system.mark_place.Given as goal

abbrev pub invariant-loop-t : goal.invariant-loop-t
invariant-loop-t l = (l.t ≤ l.n) × Flipped l.width (kept_checks l.checks.shape) (up_to l.checks.shape l.k l.j l.t) l.initial.scratch l.scratch
