-- `host::words::shaftglimmer_looked` meets its contract.
use Rattle.paper.specs.Paper as paper
use Rattle.host.proofs.Paper.{three_lists}
use Rattle.host.proofs.words.shaftglimmer_looked.Goals as goal

pub returns : goal.returns
returns c = three_lists _ c.load_shape.ensures c.status.ensures paper.Looking _ _ _ c.looked.ensures.paper
