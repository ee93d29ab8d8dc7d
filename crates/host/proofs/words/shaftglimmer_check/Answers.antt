-- `host::words::shaftglimmer_check` meets its contract.
use Rattle.paper.specs.Paper as paper
use Rattle.host.proofs.Paper.{two_lists}
use Rattle.host.proofs.words.shaftglimmer_check.Goals as goal

pub returns : goal.returns
returns c = two_lists _ c.load_shape.ensures c.verdict.ensures paper.Checking _ _ c.check.ensures.paper
