-- `encoder::runs::join_run` meets its contract. The loop's invariant: the first c places are written; what is still to be read is as it was.
use Prim.Native.Nat.{◌+◌, ◌≤◌}
use Rattle.parity.specs.Xor.{◌⊕◌}
use Rattle.gtb.specs.Square.{at}
use Rattle.parity.specs.Lists.{Written}
use Rattle.encoder.proofs.runs.join_run.Given as goal

abbrev pub invariant-loop-c : goal.invariant-loop-c
invariant-loop-c l = (l.c ≤ l.count) × Written l.a l.c (λ j. at l.initial.word (l.a + j) ⊕ at l.initial.word (l.from + j)) l.initial.word l.word
