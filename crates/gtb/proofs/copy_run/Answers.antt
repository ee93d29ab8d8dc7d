-- `gtb::copy_run` meets its contract. The loop's invariant: the first i places are written.
use mathlib.Core.Path.{refl}
use native.Mathlib.Omega.{arith}
use Rattle.parity.proofs.Writes.{written_more}
use Rattle.gtb.proofs.copy_run.Goals as goal

pub loop-i-preserved : goal.loop-i-preserved
loop-i-preserved c = (omega arith, written_more _ _ _ _ _ _ (omega arith) refl c.loop-i.invariant.1)
