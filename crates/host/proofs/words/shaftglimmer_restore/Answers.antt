-- `host::words::shaftglimmer_restore` meets its contract.
use Rattle.paper.specs.Paper as paper
use Rattle.host.proofs.Paper.{five_lists}
use Rattle.host.proofs.words.shaftglimmer_restore.Goals as goal

pub returns : goal.returns
returns c = five_lists _ c.load_shape.ensures c.answer.ensures paper.Restoring _ _ _ _ _ c.restore.ensures.paper
