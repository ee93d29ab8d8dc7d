-- `majority::locate::scan_row` meets its contract. The loop's invariant: the list holds what is found up to here, at most n/2 positions.
use Prim.Native.Nat.{◌+◌, ◌*◌, ◌<◌, ◌≤◌}
use Rattle.correction.specs.Steps.{Listed}
use Rattle.majority.specs.Steps.{found_in}
use Rattle.majority.proofs.locate.scan_row.Given as goal

abbrev pub invariant-loop-c : goal.invariant-loop-c
invariant-loop-c l = (l.c ≤ l.q) × (l.k < l.limit) × Listed (found_in l.checks.shape l.syn l.loud) (l.row * l.q + l.c) l.k l.places
