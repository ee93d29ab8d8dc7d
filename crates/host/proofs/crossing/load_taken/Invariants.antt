-- `host::crossing::load_taken` meets its contract. The loop's invariant: the marks loaded and those of the values that are left are all marks.
use mathlib.Core.Path.{◌≡◌}
use mathlib.Core.List.{◌++◌, map}
use Prim.Native.Nat.{◌≤◌}
use lib.ListN.{length, take, drop}
use Rattle.host.specs.Crossing.{is_yes}
use Rattle.host.proofs.crossing.load_taken.Given as goal

abbrev pub invariant-loop-i : goal.invariant-loop-i
invariant-loop-i l = (l.i ≤ 1024) × (length l.taken ≡ 1024) × (take l.i l.taken ++ map is_yes (drop l.i l.values) ≡ map is_yes l.values)
