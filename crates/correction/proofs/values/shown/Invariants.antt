-- `correction::values::shown` meets its contract. The loop's invariant is the contract for the first t values.
use mathlib.Core.Path.{◌≡◌}
use Prim.Native.Nat.{◌≤◌}
use Rattle.gtb.specs.Square.{at}
use Rattle.correction.specs.Error.{shows}
use Rattle.correction.proofs.values.shown.Given as goal

abbrev pub invariant-loop-t : goal.invariant-loop-t
invariant-loop-t l = (l.t ≤ l.n) × (l.count ≡ shows l.t (at l.values) l.x)
