-- `verify::compare::is_masked` meets its contract. The loop's invariant: no check passed is silent.
use mathlib.Core.Path.{◌≡◌}
use mathlib.Core.Bool.{false}
use Prim.Native.Nat.{◌≤◌}
use lib.Dec.{eqb}
use Rattle.parity.specs.Count.{any}
use Rattle.gtb.specs.Square.{at}
use Rattle.correction.specs.Error.{check_of}
use Rattle.verify.proofs.compare.is_masked.Given as goal

abbrev pub invariant-loop-t : goal.invariant-loop-t
invariant-loop-t l = (l.t ≤ l.n) × (any l.t (λ u. eqb (at l.syn (check_of l.checks.shape l.j u)) 0) ≡ false)
