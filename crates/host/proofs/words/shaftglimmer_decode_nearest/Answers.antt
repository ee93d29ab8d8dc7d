-- `host::words::shaftglimmer_decode_nearest` meets its contract.
use Rattle.paper.specs.Paper as paper
use Rattle.host.proofs.Paper.{two_lists}
use Rattle.host.proofs.words.shaftglimmer_decode_nearest.Goals as goal

pub returns : goal.returns
returns c = two_lists _ c.load_shape.ensures c.answer.ensures paper.Nearest _ _ c.decode_nearest.ensures.paper
