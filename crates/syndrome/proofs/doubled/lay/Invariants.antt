-- `syndrome::doubled::lay` meets its contract. The loop's invariant is the contract for the first r rows.
use Prim.Native.Nat.{◌≤◌}
use Rattle.syndrome.specs.Sweep.{Doubled}
use Rattle.syndrome.proofs.doubled.lay.Given as goal

abbrev pub invariant-loop-r : goal.invariant-loop-r
invariant-loop-r l = (l.r ≤ l.q) × Doubled l.q l.r l.word l.twice
