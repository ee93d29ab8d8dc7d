-- `decoder::error::evaluate` meets its contract. The loop's invariant is the contract for the first x errors.
use Prim.Native.Nat.{◌≤◌}
use Rattle.parity.specs.Lists.{Begins}
use Rattle.gtb.specs.Square.{at}
use Rattle.decoder.specs.Steps.{error_among}
use Rattle.decoder.proofs.error.evaluate.Given as goal

abbrev pub invariant-loop-x : goal.invariant-loop-x
invariant-loop-x l = (l.x ≤ l.count) × Begins 8 l.x (λ y. error_among l.checks.shape l.syn l.places l.count (at l.places y)) l.errors
