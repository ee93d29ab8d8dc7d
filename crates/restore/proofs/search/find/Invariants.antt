-- `restore::search::find` meets its contract. The loop's invariant: the word is as it came.
use mathlib.Core.Path.{◌≡◌}
use Prim.Native.Nat.{◌≤◌}
use lib.ListN.{length}
use Rattle.gtb.specs.Shape.{scratch_length}
use Rattle.restore.proofs.search.find.Given as goal

abbrev pub invariant-loop-k : goal.invariant-loop-k
invariant-loop-k l = (l.k ≤ l.most) × (l.word ≡ l.initial.word) × (length l.scratch ≡ scratch_length l.checks.shape)
