-- `restore::search::settle` meets its contract.
use mathlib.Core.Path.{sym, ◌∙◌}
use Rattle.restore.proofs.Searching.{settle_loud, settled}
use Rattle.restore.proofs.search.settle.Goals as goal

pub returns-then-is_some : goal.returns-then-is_some
returns-then-is_some c = settle_loud c.requires.0 _ c.first_not_silent.ensures (sym c.is_some.ensures ∙ c.if-is_some.true)

pub returns : goal.returns
returns c = rw c.ok.ensures.value (settled c.requires.0 c.decide.ensures)
