-- The proof of the cycle of calls {interpolate}.
use Rattle.encoder.proofs.Newtons.{interpolated_last, interpolated_more}
use Rattle.encoder.proofs.interpolation.+interpolate.Goals as goal

pub returns-then-k-n : goal.returns-then-k-n
returns-then-k-n t c = interpolated_more _ _ _ _ c.requires c.if-k-n.true c.divide.ensures _ _ c.interpolate.ensures c.join.ensures

pub returns-else-k-n : goal.returns-else-k-n
returns-else-k-n t c = interpolated_last _ _ _ c.requires c.if-k-n.false
