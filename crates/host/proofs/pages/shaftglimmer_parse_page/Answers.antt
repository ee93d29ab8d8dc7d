-- `host::pages::shaftglimmer_parse_page` meets its contract: what the page reader answers fits.
use Rattle.paper.specs.Paper as paper
use Rattle.page.proofs.Pages.{read_fits}
use Rattle.host.proofs.Paper.{one_list}
use Rattle.host.proofs.pages.shaftglimmer_parse_page.Goals as goal

pub read-requires : goal.read-requires
read-requires c = rw c.read_page.ensures.read (read_fits _ _)

pub returns : goal.returns
returns c = one_list _ c.load_shape.ensures c.read.ensures paper.PageReading c.args.«data».now c.read_page.ensures.paper
