-- `host::pages::shaftglimmer_write_page` meets its contract.
use Rattle.paper.specs.Paper as paper
use Rattle.host.proofs.Paper.{three_lists}
use Rattle.host.proofs.pages.shaftglimmer_write_page.Goals as goal

pub returns : goal.returns
returns c = three_lists _ c.load_shape.ensures c.status.ensures (λ s. paper.PageWriting s c.args.page) _ _ _ c.write_page.ensures.paper
