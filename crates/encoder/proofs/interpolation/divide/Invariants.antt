-- `encoder::interpolation::divide` meets its contract. The loop's invariant: the rows before t are divided.
use Prim.Native.Nat.{◌≤◌, ◌<◌}
use Rattle.encoder.specs.Steps.{Divided}
use Rattle.encoder.proofs.interpolation.divide.Given as goal

abbrev pub invariant-loop-t : goal.invariant-loop-t
invariant-loop-t l = (l.k < l.t) × (l.t ≤ l.m) × Divided l.code.shape l.k l.t l.initial.word l.word
