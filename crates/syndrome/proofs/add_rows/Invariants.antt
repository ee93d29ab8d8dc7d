-- `syndrome::add_rows` meets its contract, which with `row` for the first q is the loop's invariant.
use Prim.Native.Nat.{◌+◌, ◌*◌, ◌≤◌}
use Rattle.parity.specs.Xor.{xor_sum}
use Rattle.gtb.specs.Square.{at}
use Rattle.syndrome.specs.Sweep.{Added}
use Rattle.syndrome.proofs.add_rows.Given as goal

abbrev pub invariant-loop-row : goal.invariant-loop-row
invariant-loop-row l = (l.row ≤ l.q) × Added 0 l.row (λ k. xor_sum l.q (λ i. at l.word (k * l.q + i))) l.initial.syn l.syn
