-- `encoder::checks::stack_by` meets its contract. The loop's invariant: the first r rows are taken in.
use Prim.Native.Nat.{◌+◌, ◌*◌, ◌≤◌}
use Rattle.parity.specs.Xor.{xor_sum}
use Rattle.gtb.specs.Square.{at}
use Rattle.parity.specs.Lists.{Written}
use Rattle.encoder.proofs.checks.stack_by.Given as goal

abbrev pub invariant-loop-r : goal.invariant-loop-r
invariant-loop-r g l = (1 ≤ l.r) × (l.r ≤ g.row.Q) × Written 0 g.row.Q (λ c. xor_sum l.r (λ k. at l.initial.word (k * g.row.Q + c))) l.initial.word l.word
