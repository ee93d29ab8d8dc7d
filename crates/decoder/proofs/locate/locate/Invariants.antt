-- `decoder::locate::locate` meets its contract. The loop's invariant: the list holds the located positions of the rows passed, fewer than n.
use Prim.Native.Nat.{◌*◌, ◌<◌, ◌≤◌}
use Rattle.correction.specs.Steps.{Listed}
use Rattle.decoder.specs.Steps.{judged}
use Rattle.decoder.proofs.locate.locate.Given as goal

abbrev pub invariant-loop-row : goal.invariant-loop-row
invariant-loop-row l = (l.row ≤ l.q) × (l.found < l.checks.shape.n) × Listed (judged l.checks.shape l.syn) (l.row * l.q) l.found l.places
