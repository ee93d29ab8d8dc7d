-- `syndrome::doubled::other_directions` meets its contract. The loop's invariant: the first t directions are done.
use Prim.Native.Nat.{◌≤◌}
use Rattle.syndrome.specs.Sweep.{Directions}
use Rattle.syndrome.proofs.doubled.other_directions.Given as goal

abbrev pub invariant-loop-t : goal.invariant-loop-t
invariant-loop-t l = (1 ≤ l.t) × (l.t ≤ l.n) × Directions l.shape l.word l.t l.syn
