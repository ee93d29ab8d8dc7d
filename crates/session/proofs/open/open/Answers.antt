-- `session::open::open` meets its contract: an accepted word is restored, and what was gathered is the page in it.
use mathlib.Core.Path.{refl, ◌∙◌}
use Rattle.gtb.specs.Square.{Word}
use Rattle.page.proofs.Pages.{sized}
use Rattle.session.proofs.Opens.{opens_refused, opens_word, opens_page, gathered_narrow, tells_refused, page_found, tells_page}
use Rattle.session.proofs.open.open.Goals as goal

pub gather-requires : goal.gather-requires
gather-requires c =
    let accepted : Word c.args.shape c.read.new.word = opens_word _ _ c.read.ensures c.in-Ok.is in
    (c.requires.0.lawful, accepted.size, c.requires.1)

pub read_narrow-requires : goal.read_narrow-requires
read_narrow-requires c =
    let accepted : Word c.args.shape c.read.new.word = opens_word _ _ c.read.ensures c.in-Ok.is in
    (sized _ _ c.requires.0.lawful (c.gather.auto.symbols ∙ c.requires.1), gathered_narrow _ _ accepted c.gather.ensures)

pub returns-in-Ok-read_narrow : goal.returns-in-Ok-read_narrow
returns-in-Ok-read_narrow c = opens_page _ _ c.read.ensures c.in-Ok.is refl (tells_page _ _ _ c.gather.ensures c.read_narrow.ensures c.in-Ok-read_narrow.is)

pub returns-in-Err-read_narrow : goal.returns-in-Err-read_narrow
returns-in-Err-read_narrow c = opens_page _ _ c.read.ensures c.in-Ok.is refl (tells_refused (page_found _ _ _ c.gather.ensures c.read_narrow.ensures c.in-Err-read_narrow.is))

pub returns-in-Err : goal.returns-in-Err
returns-in-Err c = opens_refused _ _ c.read.ensures c.in-Err.is
