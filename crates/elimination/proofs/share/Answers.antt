-- `elimination::share` meets its contract.
use mathlib.Core.Path.{sym, ◌∙◌}
use Rattle.parity.specs.Xor.{when}
use Rattle.elimination.proofs.share.Goals as goal

pub returns-then-has : goal.returns-then-has
unfolding when
returns-then-has c = rw (sym c.has.ensures ∙ c.if-has.true)

pub returns : goal.returns
unfolding when
returns c = rw (sym c.has.ensures ∙ c.if-has.false)
