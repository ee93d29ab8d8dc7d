-- `host::crossing::store_taken` meets its contract. The loop's invariant: the values stored and those of the marks that are left are all values.
use mathlib.Core.Path.{◌≡◌}
use mathlib.Core.List.{◌++◌, map}
use Prim.Native.Nat.{◌≤◌}
use lib.ListN.{length, take, drop}
use Rattle.parity.specs.Count.{bit}
use Rattle.host.proofs.crossing.store_taken.Given as goal

abbrev pub invariant-loop-i : goal.invariant-loop-i
invariant-loop-i l = (l.i ≤ 1024) × (length l.values ≡ 1024) × (take l.i l.values ++ map bit (drop l.i l.mark-items) ≡ map bit l.mark-items)
