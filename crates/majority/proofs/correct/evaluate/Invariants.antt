-- `majority::correct::evaluate` meets its contract. The loop's invariant is the contract for the first x errors.
use Prim.Native.Nat.{◌≤◌}
use Rattle.parity.specs.Lists.{Begins}
use Rattle.gtb.specs.Square.{at}
use Rattle.majority.specs.Steps.{voted_in}
use Rattle.majority.proofs.correct.evaluate.Given as goal

abbrev pub invariant-loop-x : goal.invariant-loop-x
invariant-loop-x l = (l.x ≤ l.count) × Begins 8 l.x (λ y. voted_in l.checks.shape l.syn (at l.places y)) l.errors
