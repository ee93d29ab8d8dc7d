-- `verify::compare::list_differences` meets its contract. The loop's invariant is the contract for the first x errors.
use Prim.Native.Nat.{◌≤◌}
use Rattle.parity.specs.Lists.{Begins}
use Rattle.gtb.specs.Square.{at}
use Rattle.verify.specs.Verify.{difference}
use Rattle.verify.proofs.compare.list_differences.Given as goal

abbrev pub invariant-loop-x : goal.invariant-loop-x
invariant-loop-x l = (l.x ≤ l.count) × Begins 8 l.x (λ y. difference l.received l.proposed (at l.places y)) l.errors
