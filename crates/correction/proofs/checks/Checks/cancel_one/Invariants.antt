-- `correction::checks::Checks::cancel_one` meets its contract. The loop's invariant is the contract for the first t checks.
use Prim.Native.Nat.{◌≤◌}
use Rattle.correction.specs.Steps.{Toggled}
use Rattle.correction.specs.Error.{check_of}
use Rattle.correction.proofs.checks.Checks.cancel_one.Given as goal

abbrev pub invariant-loop-t : goal.invariant-loop-t
invariant-loop-t l = (l.t ≤ l.n) × Toggled l.t (check_of l.self.shape l.j) (λ u. l.error) l.initial.syn l.syn
