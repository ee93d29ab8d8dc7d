-- `decoder::locate::judge` meets its contract. The loop's invariant: the checks of the directions passed are nonzero.
use Prim.Native.Nat.{◌+◌, ◌*◌, ◌≤◌}
use Rattle.decoder.proofs.Shifts.{Loud}
use Rattle.decoder.proofs.locate.judge.Given as goal

abbrev pub invariant-loop-t : goal.invariant-loop-t
invariant-loop-t l = (1 ≤ l.t) × (l.t ≤ l.n) × Loud l.row.checks.shape l.syn (l.row.number * l.row.checks.shape.q + l.column) l.t
