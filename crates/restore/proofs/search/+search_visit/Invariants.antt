-- The proof of the cycle of calls {search, visit}. `search` at k calls `visit` at k, and that calls `search` at k - 1: 2 k for `search`, 2 k - 1 for `visit`.
-- The loop's invariant: none of the positions passed is wrong, and the word is as it came.
use mathlib.Core.Path.{◌≡◌}
use Prim.Native.Nat.{◌+◌, ◌-◌, ◌≤◌}
use lib.ListN.{length}
use Rattle.gtb.specs.Shape.{scratch_length}
use Rattle.restore.proofs.Searching.{Passed}
use Rattle.restore.proofs.search.+search_visit.Given as goal

abbrev pub decreases-search : goal.decreases-search
decreases-search l = l.k + l.k

abbrev pub decreases-visit : goal.decreases-visit
decreases-visit l = l.k + l.k - 1

abbrev pub invariant-search-loop-i : goal.invariant-search-loop-i
invariant-search-loop-i l = (l.i ≤ l.count) × (l.word ≡ l.initial.word) × (length l.scratch ≡ scratch_length l.checks.shape)
    × Passed l.checks.shape l.k l.initial.word l.places l.check l.i
