-- `encoder::interpolation::store_run` meets its contract. The loop's invariant: the first c places are written.
use mathlib.Core.Path.{refl}
use native.Mathlib.Omega.{arith}
use Rattle.parity.specs.Xor.{◌⊕◌}
use Rattle.parity.proofs.Writes.{written_more}
use Rattle.encoder.proofs.interpolation.store_run.Goals as goal

pub loop-c-preserved : goal.loop-c-preserved
unfolding ◌⊕◌
loop-c-preserved c = (omega arith, written_more _ _ _ _ _ _ (omega arith) refl c.loop-c.invariant.1)
