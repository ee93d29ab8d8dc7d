-- `correction::cancel::is_silent` meets its contract. The loop's invariant: `bits` is 0 exactly if the entries passed are.
use mathlib.Core.Path.{◌≡◌}
use Prim.Native.Nat.{◌≤◌}
use lib.Dec.{eqb}
use Rattle.parity.specs.Count.{all}
use Rattle.gtb.specs.Square.{at}
use Rattle.correction.proofs.checks.Checks.is_silent.Given as goal

abbrev pub invariant-loop-e : goal.invariant-loop-e
invariant-loop-e l = (l.e ≤ l.count) × (eqb l.bits 0 ≡ all l.e (λ k. eqb (at l.syn k) 0))
