-- `correction::checks::Checks::too_many_not_silent` meets its contract.
use Prim.Native.Nat.{◌≤◌}
use Rattle.correction.proofs.checks.Checks.too_many_not_silent.Given as goal

abbrev pub invariant-loop-t : goal.invariant-loop-t
invariant-loop-t l = l.t ≤ l.n
