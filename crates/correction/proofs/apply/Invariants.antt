-- `correction::apply` meets its contract. The loop's invariant: the errors at the first x places are XORed onto the word.
use Prim.Native.Nat.{◌≤◌}
use Rattle.gtb.specs.Square.{at}
use Rattle.correction.specs.Steps.{Toggled}
use Rattle.correction.proofs.apply.Given as goal

abbrev pub invariant-loop-x : goal.invariant-loop-x
invariant-loop-x l = (l.x ≤ l.count) × Toggled l.x (at l.places) (at l.errors) l.initial.word l.word
