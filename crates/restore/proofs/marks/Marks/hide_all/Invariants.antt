-- `restore::marks::Marks::hide_all` meets its contract, which with the places passed is the loop's invariant.
use mathlib.Core.Path.{◌≡◌}
use Prim.Native.Nat.{◌≤◌}
use lib.ListN.{length, take}
use Rattle.restore.specs.Steps.{HidesAll}
use Rattle.restore.proofs.marks.Marks.hide_all.Given as goal

abbrev pub invariant-loop-place : goal.invariant-loop-place
invariant-loop-place l = (l.place-index-end ≡ length l.places) × (l.place-index ≤ length l.places) × HidesAll l.checks.shape (take l.place-index l.places) l.initial.self l.self
