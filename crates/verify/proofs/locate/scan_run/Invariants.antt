-- `verify::locate::scan_run` meets its contract. The loop's invariant: the list holds the differing positions up to here, fewer than n.
use Prim.Native.Nat.{◌+◌, ◌<◌, ◌≤◌}
use Rattle.correction.specs.Steps.{Listed}
use Rattle.verify.specs.Steps.{differs}
use Rattle.verify.proofs.locate.scan_run.Given as goal

abbrev pub invariant-loop-i : goal.invariant-loop-i
invariant-loop-i l = (l.i ≤ l.size) × (l.found < l.n) × Listed (differs l.received l.proposed) (l.from + l.i) l.found l.places
