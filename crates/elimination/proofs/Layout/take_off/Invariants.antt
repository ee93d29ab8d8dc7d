-- `elimination::Layout::take_off` meets its contract, which with i for the last k is the loop's invariant.
use Prim.Native.Nat.{◌≤◌}
use Rattle.elimination.specs.Steps.{TakenOff}
use Rattle.elimination.proofs.Layout.take_off.Given as goal

abbrev pub invariant-loop-i : goal.invariant-loop-i
invariant-loop-i l = (l.i ≤ l.k) × TakenOff l.self.width l.k l.i l.scratch l.initial.values l.values
