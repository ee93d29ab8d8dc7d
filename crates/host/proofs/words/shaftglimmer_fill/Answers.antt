-- `host::words::shaftglimmer_fill` meets its contract.
use Rattle.paper.specs.Paper as paper
use Rattle.host.proofs.Paper.{five_lists}
use Rattle.host.proofs.words.shaftglimmer_fill.Goals as goal

pub returns : goal.returns
returns c = five_lists _ c.load_shape.ensures c.answer.ensures paper.Filling _ _ _ _ _ c.fill.ensures.paper
