-- `decoder::looking::note_row` meets its contract. The loop's invariant is the contract up to column c.
use Prim.Native.Nat.{◌+◌, ◌*◌, ◌≤◌}
use Rattle.parity.specs.Lists.{Begins}
use Rattle.gtb.specs.Shape.{word_length}
use Rattle.decoder.specs.Steps.{looked_in}
use Rattle.decoder.proofs.looking.note_row.Given as goal

abbrev pub invariant-loop-c : goal.invariant-loop-c
invariant-loop-c l = (l.c ≤ l.q) × Begins (word_length l.checks.shape) (l.row * l.q + l.c) (looked_in l.checks.shape l.syn) l.looked
