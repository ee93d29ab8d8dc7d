-- `erasure::list::apply` meets its contract. The loop's invariant: the first k changes are XORed on.
use mathlib.Core.Path.{◌≡◌}
use Prim.Native.Nat.{◌≤◌}
use lib.ListN.{length}
use Rattle.gtb.specs.Square.{at}
use Rattle.correction.specs.Steps.{Toggled}
use Rattle.erasure.proofs.list.apply.Given as goal

abbrev pub invariant-loop-k : goal.invariant-loop-k
invariant-loop-k l = (l.k-end ≡ length l.places) × (l.k ≤ length l.places) × Toggled l.k (at l.places) (at l.changes) l.initial.word l.word
