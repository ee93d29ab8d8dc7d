-- `host::sessions::shaftglimmer_count` meets its contract.
use Rattle.paper.specs.Paper as paper
use Rattle.host.proofs.Paper.{crossing_session}
use Rattle.host.proofs.sessions.shaftglimmer_count.Goals as goal

pub returns : goal.returns
returns c = crossing_session paper.Counting _ c.load.ensures c.counted.ensures _ c.count.ensures.paper
