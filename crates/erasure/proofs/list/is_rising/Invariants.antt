-- `erasure::list::is_rising` meets its contract. The loop's invariant: the places passed fit, and `next` is the least number above them.
use mathlib.Core.Path.{◌≡◌}
use mathlib.Core.Bool.{true}
use Prim.Native.Nat.{◌≤◌}
use lib.ListN.{length}
use Rattle.parity.specs.Count.{all}
use Rattle.erasure.specs.Steps.{fits, Above}
use Rattle.erasure.proofs.list.is_rising.Given as goal

abbrev pub invariant-loop-place : goal.invariant-loop-place
invariant-loop-place l = (l.place-index-end ≡ length l.places) × (l.place-index ≤ length l.places)
    × (all l.place-index (fits l.size l.places) ≡ true) × Above l.places l.place-index l.next
