-- `elimination::Layout::clear` meets its contract, which with i for `rows` is the loop's invariant.
use Prim.Native.Nat.{◌<◌, ◌≤◌}
use Rattle.elimination.specs.Steps.{cleared, RowsCombined}
use Rattle.elimination.specs.Packed.{cell_of}
use Rattle.elimination.proofs.Layout.clear.Given as goal

abbrev pub invariant-loop-i : goal.invariant-loop-i
invariant-loop-i l = (l.i ≤ l.self.rows) × (l.u < l.i) × RowsCombined l.self.width l.self.columns l.u (cleared l.i (cell_of l.self.width l.initial.scratch) l.k l.u) l.initial.scratch l.initial.values l.scratch l.values
