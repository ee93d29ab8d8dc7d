-- `decoder::error::is_alone` meets its contract. The loop's invariant: none of the places passed shares the check.
use mathlib.Core.Path.{◌≡◌}
use mathlib.Core.Bool.{false}
use Prim.Native.Nat.{◌≤◌}
use Rattle.parity.specs.Count.{any}
use Rattle.gtb.specs.Square.{at}
use Rattle.decoder.specs.Steps.{shares}
use Rattle.decoder.proofs.error.is_alone.Given as goal

abbrev pub invariant-loop-x : goal.invariant-loop-x
invariant-loop-x l = (l.x ≤ l.count) × (any l.x (λ y. shares l.checks.shape l.t l.j (at l.places y)) ≡ false)
