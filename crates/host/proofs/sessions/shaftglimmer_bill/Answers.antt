-- `host::sessions::shaftglimmer_bill` meets its contract.
use Rattle.paper.specs.Paper as paper
use Rattle.host.proofs.Paper.{crossing_session}
use Rattle.host.proofs.sessions.shaftglimmer_bill.Goals as goal

pub returns : goal.returns
returns c = crossing_session paper.Billing _ c.load.ensures c.billed.ensures c.args.prices.now c.bill.ensures.paper
