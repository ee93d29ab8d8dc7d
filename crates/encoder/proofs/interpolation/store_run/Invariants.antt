-- `encoder::interpolation::store_run` meets its contract. The loop's invariant: the first c places are written.
use Prim.Native.Nat.{◌+◌, ◌≤◌}
use Rattle.parity.specs.Xor.{◌⊕◌}
use Rattle.gtb.specs.Square.{at}
use Rattle.parity.specs.Lists.{Written}
use Rattle.encoder.proofs.interpolation.store_run.Given as goal

abbrev pub invariant-loop-c : goal.invariant-loop-c
invariant-loop-c l = (l.c ≤ l.count) × Written l.a l.c (λ j. at l.walked (l.from + j) ⊕ l.total) l.initial.word l.word
