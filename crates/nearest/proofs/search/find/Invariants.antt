-- `nearest::search::find` meets its contract. The loop's invariant: no codeword is at fewer than k positions another, and the table is as it came.
use mathlib.Core.Path.{◌≡◌}
use Prim.Native.Nat.{◌≤◌}
use Rattle.nearest.proofs.Finding.{Beyond}
use Rattle.nearest.proofs.search.find.Given as goal

abbrev pub invariant-loop-k : goal.invariant-loop-k
invariant-loop-k l = (l.k ≤ l.n) × (l.syn ≡ l.initial.syn) × Beyond l.checks.shape l.initial.syn l.k
