-- `correction::checks::Checks::cancel` meets its contract. The loop's invariant is the contract for the first x places.
use Prim.Native.Nat.{◌≤◌}
use Rattle.correction.specs.Steps.{Cancelled}
use Rattle.correction.proofs.checks.Checks.cancel.Given as goal

abbrev pub invariant-loop-x : goal.invariant-loop-x
invariant-loop-x l = (l.x ≤ l.count) × Cancelled l.self.shape l.x l.places l.errors l.initial.syn l.syn
