-- `majority::locate::is_quiet` meets its contract. The loop's invariant: `silent` is how many of the checks passed are silent.
use mathlib.Core.Path.{◌≡◌}
use Prim.Native.Nat.{◌+◌, ◌*◌, ◌≤◌}
use Rattle.correction.specs.Error.{shows}
use Rattle.correction.specs.Steps.{check_in}
use Rattle.majority.proofs.locate.is_quiet.Given as goal

abbrev pub invariant-loop-t : goal.invariant-loop-t
invariant-loop-t l = (1 ≤ l.t) × (l.t ≤ l.n) × (l.silent ≡ shows l.t (check_in l.row.checks.shape l.syn (l.row.number * l.row.checks.shape.q + l.column)) 0)
