-- `syndrome::add_run` meets its contract, which with i for `count` is the loop's invariant.
use Prim.Native.Nat.{◌+◌, ◌≤◌}
use Rattle.gtb.specs.Square.{at}
use Rattle.syndrome.specs.Sweep.{Added}
use Rattle.syndrome.proofs.add_run.Given as goal

abbrev pub invariant-loop-i : goal.invariant-loop-i
invariant-loop-i l = (l.i ≤ l.count) × Added l.to l.i (λ k. at l.word (l.from + k)) l.initial.syn l.syn
