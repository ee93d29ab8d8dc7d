-- `erasure::system::ask` meets its contract, which with i for the number of kept checks is the loop's invariant.
use mathlib.Core.Path.{◌≡◌}
use Prim.Native.Nat.{◌≤◌}
use Rattle.gtb.specs.Shape.{kept_checks}
use Rattle.erasure.specs.Steps.{Asked}
use Rattle.erasure.proofs.system.ask.Given as goal

abbrev pub invariant-loop-i : goal.invariant-loop-i
invariant-loop-i l = (l.i ≤ l.rows) × (l.rows ≡ kept_checks l.shape) × Asked l.shape l.syn l.i l.values
