-- `correction::shipped::is_shipped` meets its contract. Each number that differs is a way out.
use Rattle.correction.proofs.Tabulated.{other_order, other_directions, other_first, other_second, by_third}
use Rattle.correction.proofs.shipped.is_shipped.Goals as goal

pub returns-then-shape-ne17 : goal.returns-then-shape-ne17
returns-then-shape-ne17 c = other_order c.args.shape c.if-shape-ne17.true

pub returns-then-shape-ne4 : goal.returns-then-shape-ne4
returns-then-shape-ne4 c = other_directions c.args.shape c.if-shape-ne17.false c.if-shape-ne4.true

pub returns-then-slopes-ne0 : goal.returns-then-slopes-ne0
returns-then-slopes-ne0 c = other_first c.args.shape c.if-shape-ne17.false c.if-shape-ne4.false c.if-slopes-ne0.true

pub returns-then-slopes-ne1 : goal.returns-then-slopes-ne1
returns-then-slopes-ne1 c = other_second c.args.shape c.if-shape-ne17.false c.if-shape-ne4.false c.if-slopes-ne0.false c.if-slopes-ne1.true

pub returns : goal.returns
returns c = by_third c.args.shape c.if-shape-ne17.false c.if-shape-ne4.false c.if-slopes-ne0.false c.if-slopes-ne1.false
