-- `capture::judge::judge` meets its contract: the marks that it lends are those that the look found.
use Rattle.page.proofs.Parts.{marks_part}
use Rattle.session.proofs.Opens.{lent_marks}
use Rattle.capture.proofs.judge.judge.Goals as goal

pub slice_bounds-take_page-end : goal.slice_bounds-take_page-end
slice_bounds-take_page-end c = (c.requires.2.page _ c.in-New.is).room

pub take_page-requires : goal.take_page-requires
take_page-requires c = let page = c.requires.2.page _ c.in-New.is in
    (c.requires.0, page.low, lent_marks page)

pub returns-in-New : goal.returns-in-New
returns-in-New c = rw (c.in-New.is, ← marks_part _ c.args.symbols.now) c.take_page.ensures
