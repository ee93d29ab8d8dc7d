-- `energy::priced` meets its contract: the costs of the pairs so far, which are those of functions 1 on, have been added.
use mathlib.Core.Path.{◌≡◌}
use Prim.Native.Nat.{◌^◌, ◌<◌}
use lib.ListN.{length, get_or}
use Rattle.energy.proofs.Sums.{up_to}
use Rattle.energy.proofs.priced.Given as goal

abbrev pub invariant-loop-calls : goal.invariant-loop-calls
invariant-loop-calls l = (l.sum < 2 ^ 64) × (l.sum ≡ up_to (λ k. get_or l.calls k 0) l.prices (length l.yielded))
