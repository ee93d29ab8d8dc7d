-- `erasure::system::mark_places` meets its contract. The loop's invariant: the kept checks on the places passed have their columns.
use mathlib.Core.Path.{◌≡◌}
use Prim.Native.Nat.{◌≤◌}
use lib.ListN.{length}
use Rattle.gtb.specs.Shape.{kept_checks}
use Rattle.erasure.specs.Steps.{Flipped}
use Rattle.erasure.proofs.Systems.{first_places}
use Rattle.erasure.proofs.system.mark_places.Given as goal

abbrev pub invariant-loop-k : goal.invariant-loop-k
invariant-loop-k l = (l.k-end ≡ length l.places) × (l.k ≤ length l.places) × Flipped l.width (kept_checks l.checks.shape) (first_places l.checks.shape l.places l.k) l.initial.scratch l.scratch
