-- `decoder::locate::scan_row` meets its contract. The loop's invariant: the list holds the located positions up to here, fewer than n.
use Prim.Native.Nat.{◌+◌, ◌*◌, ◌<◌, ◌≤◌}
use Rattle.correction.specs.Steps.{Listed}
use Rattle.decoder.specs.Steps.{judged}
use Rattle.decoder.proofs.locate.scan_row.Given as goal

abbrev pub invariant-loop-c : goal.invariant-loop-c
invariant-loop-c l = (l.c ≤ l.q) × (l.found < l.n) × Listed (judged l.checks.shape l.syn) (l.row * l.q + l.c) l.found l.places
