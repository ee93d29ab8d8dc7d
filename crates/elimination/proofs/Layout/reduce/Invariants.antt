-- `elimination::Layout::reduce` meets its contract, which with k for `columns` is the loop's invariant.
use Prim.Native.Nat.{◌≤◌}
use Rattle.elimination.specs.Steps.{Progress}
use Rattle.elimination.proofs.Layout.reduce.Given as goal

abbrev pub invariant-loop-k : goal.invariant-loop-k
invariant-loop-k l = (l.k ≤ l.self.columns) × Progress l.self.rows l.self.width l.self.columns l.k l.u l.initial.scratch l.initial.values l.scratch l.values
