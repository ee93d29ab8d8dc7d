-- `elimination::eliminate` meets its contract.
use mathlib.Core.Path.{refl}
use Rattle.elimination.proofs.Outcomes.{answer_none, answer_several, answer_one}
use Rattle.elimination.proofs.eliminate.Goals as goal

pub returns-then-has_value : goal.returns-then-has_value
returns-then-has_value c = answer_none c.reduce-u.ensures (c.if-has_value.ensures.some refl)

pub returns-then-u-columns : goal.returns-then-u-columns
returns-then-u-columns c = answer_several c.reduce-u.ensures (c.if-has_value.ensures.none refl) c.if-u-columns.true

pub returns : goal.returns
returns c = answer_one c.reduce-u.ensures (c.if-has_value.ensures.none refl) c.if-u-columns.false c.substitute.ensures
