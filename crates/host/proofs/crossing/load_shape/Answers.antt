-- `host::crossing::load_shape` meets its contract: the copy fills the slopes.
use Rattle.host.proofs.Crossings.{shape_loaded}
use Rattle.host.proofs.crossing.load_shape.Goals as goal

pub returns : goal.returns
returns c = shape_loaded c.args.values.now c.copy_from_slice.ensures.after
