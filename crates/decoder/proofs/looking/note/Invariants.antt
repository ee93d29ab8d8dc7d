-- `decoder::looking::note` meets its contract. The loop's invariant: the list is right in the rows passed.
use Prim.Native.Nat.{◌*◌, ◌≤◌}
use Rattle.parity.specs.Lists.{Begins}
use Rattle.gtb.specs.Shape.{word_length}
use Rattle.decoder.specs.Steps.{looked_in}
use Rattle.decoder.proofs.looking.note.Given as goal

abbrev pub invariant-loop-row : goal.invariant-loop-row
invariant-loop-row l = (l.row ≤ l.q) × Begins (word_length l.checks.shape) (l.row * l.q) (looked_in l.checks.shape l.syn) l.looked
