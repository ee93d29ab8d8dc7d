-- `syndrome::doubled::sweep_twice` meets its contract. The loop's invariant is the contract for the first r rows, and `place` is step × r mod q.
use mathlib.Core.Path.{◌≡◌}
use Prim.Native.Nat.{◌+◌, ◌*◌, ◌%◌, ◌≤◌}
use Rattle.parity.specs.Xor.{xor_sum}
use Rattle.gtb.specs.Square.{at}
use Rattle.syndrome.specs.Sweep.{Added}
use Rattle.syndrome.proofs.doubled.sweep_twice.Given as goal

abbrev pub invariant-loop-r : goal.invariant-loop-r
invariant-loop-r l = (l.r ≤ l.q) × (l.place ≡ l.step * l.r % l.q) × Added l.to l.q (λ L. xor_sum l.r (λ k. at l.twice (k * (l.q + l.q) + (L + l.step * k % l.q)))) l.initial.syn l.syn
