-- `host::words::shaftglimmer_decode` meets its contract.
use Rattle.paper.specs.Paper as paper
use Rattle.host.proofs.Paper.{two_lists}
use Rattle.host.proofs.words.shaftglimmer_decode.Goals as goal

pub returns : goal.returns
returns c = two_lists _ c.load_shape.ensures c.answer.ensures (λ s. paper.Reading s 0) _ _ c.decode.ensures.paper
