-- `majority::locate::locate` meets its contract. The loop's invariant: the list holds what is found in the rows passed, at most n/2 positions.
use Prim.Native.Nat.{◌*◌, ◌<◌, ◌≤◌}
use Rattle.correction.specs.Steps.{Listed}
use Rattle.majority.specs.Steps.{found_in, too_many_changes}
use Rattle.majority.proofs.locate.locate.Given as goal

abbrev pub invariant-loop-row : goal.invariant-loop-row
invariant-loop-row l = (l.row ≤ l.q) × (l.found < too_many_changes l.checks.shape) × Listed (found_in l.checks.shape l.syn l.loud) (l.row * l.q) l.found l.places
