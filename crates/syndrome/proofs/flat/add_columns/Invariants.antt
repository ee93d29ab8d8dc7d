-- `syndrome::flat::add_columns` meets its contract. The loop's invariant is the contract for the first r rows.
use Prim.Native.Nat.{◌+◌, ◌*◌, ◌≤◌}
use Rattle.parity.specs.Xor.{xor_sum}
use Rattle.gtb.specs.Square.{at}
use Rattle.syndrome.specs.Sweep.{Added}
use Rattle.syndrome.proofs.flat.add_columns.Given as goal

abbrev pub invariant-loop-r : goal.invariant-loop-r
invariant-loop-r l = (l.r ≤ l.q) × Added 0 l.q (λ c. xor_sum l.r (λ k. at l.word (k * l.q + c))) l.initial.sums l.sums
