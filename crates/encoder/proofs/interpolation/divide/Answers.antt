-- `encoder::interpolation::divide` meets its contract. The loop's invariant: the rows before t are divided.
use native.Mathlib.Omega.{arith}
use Rattle.encoder.proofs.Divides.{divisible}
use Rattle.encoder.proofs.interpolation.divide.Goals as goal

pub divide_row-requires : goal.divide_row-requires
divide_row-requires c = divisible _ _ _ c.requires _ c.loop-t.invariant.0 (omega arith) _ c.loop-t.invariant.2
