-- `correction::checks::Checks::gather` meets its contract. The loop's invariant is the contract for the first t checks.
use Prim.Native.Nat.{◌≤◌}
use Rattle.parity.specs.Lists.{Begins}
use Rattle.correction.specs.Steps.{check_in}
use Rattle.correction.proofs.checks.Checks.gather.Given as goal

abbrev pub invariant-loop-t : goal.invariant-loop-t
invariant-loop-t l = (l.t ≤ l.n) × Begins 8 l.t (check_in l.self.shape l.syn l.j) l.values
