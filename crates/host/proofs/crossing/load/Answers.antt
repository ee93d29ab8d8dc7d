-- `host::crossing::load` meets its contract: the counts fill their array.
use Rattle.host.proofs.Crossings.{loaded}
use Rattle.host.proofs.crossing.load.Goals as goal

pub returns : goal.returns
returns c = loaded c.args.values.now c.load_shape.ensures c.load_taken.ensures c.copy_from_slice.ensures.after
