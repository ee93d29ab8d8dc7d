-- `elimination::Layout::substitute` meets its contract, which with k for 0 is the loop's invariant.
use Prim.Native.Nat.{◌≤◌}
use Rattle.elimination.specs.Steps.{Substituted}
use Rattle.elimination.proofs.Layout.substitute.Given as goal

abbrev pub invariant-loop-k : goal.invariant-loop-k
invariant-loop-k l = (l.k ≤ l.self.columns) × Substituted l.self.width l.self.columns l.k l.scratch l.initial.values l.values
