-- The proof of the cycle of calls {attempt, search, visit}. `search` at k calls `visit` at k, that calls `attempt` at k, and that calls `search` at k - 1: 3 k for
-- `search`, 3 k - 1 for `visit`, 3 k - 2 for `attempt`. The loops' invariants: what was tried so far meets no codeword, and the table is as it came.
use mathlib.Core.Path.{◌≡◌}
use Prim.Native.Nat.{◌+◌, ◌-◌, ◌≤◌}
use Rattle.nearest.proofs.Searching.{Missed, Passed}
use Rattle.nearest.proofs.search.+attempt_search_visit.Given as goal

abbrev pub decreases-attempt : goal.decreases-attempt
decreases-attempt l = l.k + l.k + l.k - 2

abbrev pub decreases-search : goal.decreases-search
decreases-search l = l.k + l.k + l.k

abbrev pub decreases-visit : goal.decreases-visit
decreases-visit l = l.k + l.k + l.k - 1

abbrev pub invariant-search-loop-i : goal.invariant-search-loop-i
invariant-search-loop-i l = (l.i ≤ l.q) × (l.syn ≡ l.initial.syn) × Passed l.checks.shape l.k l.initial.syn l.t l.line l.i

abbrev pub invariant-visit-loop-t : goal.invariant-visit-loop-t
invariant-visit-loop-t l = (l.t ≤ l.n) × (l.syn ≡ l.initial.syn) × Missed l.checks.shape l.k l.j l.initial.syn l.values l.t
