-- `gtb::copy_run` meets its contract. The loop's invariant: the first i places are written.
use Prim.Native.Nat.{◌+◌, ◌≤◌}
use Rattle.parity.specs.Lists.{Written}
use Rattle.gtb.specs.Square.{at}
use Rattle.gtb.proofs.copy_run.Given as goal

abbrev pub invariant-loop-i : goal.invariant-loop-i
invariant-loop-i l = (l.i ≤ l.count) × Written l.a l.i (λ j. at l.from (l.start + j)) l.initial.to l.to
