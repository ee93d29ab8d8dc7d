-- `host::words::shaftglimmer_encode` meets its contract.
use Rattle.paper.specs.Paper as paper
use Rattle.host.proofs.Paper.{five_lists}
use Rattle.host.proofs.words.shaftglimmer_encode.Goals as goal

pub returns : goal.returns
returns c = five_lists _ c.load_shape.ensures c.status.ensures paper.Writing _ _ _ _ _ c.encode.ensures.paper
