-- `verify::locate::locate` meets its contract. The loop's invariant: the list holds the differing positions of the runs passed, fewer than n.
use Prim.Native.Nat.{◌*◌, ◌<◌, ◌≤◌}
use Rattle.correction.specs.Steps.{Listed}
use Rattle.verify.specs.Steps.{differs}
use Rattle.verify.proofs.locate.locate.Given as goal

abbrev pub invariant-loop-k : goal.invariant-loop-k
invariant-loop-k l = (l.k ≤ l.runs) × (l.found < l.n) × Listed (differs l.received l.proposed) (l.k * 16) l.found l.places
