-- `correction::row::put_shifts` meets its contract. The loop's invariant is the contract for the directions below t, of any shape with this order and these slopes.
use mathlib.Core.Path.{◌≡◌}
use Prim.Native.Nat.{◌≤◌}
use Rattle.gtb.specs.declared.Shape.{Shape}
use Rattle.correction.specs.Steps.{Shifts}
use Rattle.correction.proofs.row.put_shifts.Given as goal

abbrev pub invariant-loop-t : goal.invariant-loop-t
invariant-loop-t l = (1 ≤ l.t) × (l.t ≤ l.n) × ((s : Shape) → s.q ≡ l.q → s.slopes ≡ l.slopes → Shifts s l.row l.t l.shifts)
