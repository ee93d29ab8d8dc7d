-- `encoder::interpolation::join` meets its contract. The loop's invariant: the rows before r are joined.
use Prim.Native.Nat.{◌≤◌}
use Rattle.encoder.specs.Steps.{Joined}
use Rattle.encoder.proofs.interpolation.join.Given as goal

abbrev pub invariant-loop-r : goal.invariant-loop-r
invariant-loop-r l = (l.k ≤ l.r) × (l.r ≤ l.last) × Joined l.q l.x l.k l.r l.initial.word l.word
