-- `gtb::is_order` meets its contract: the table is that of the specification.
use mathlib.Core.Path.{◌∙◌}
use borrow.Author.Rules.{rules}
use lib.Dec.{eqb}
use Rattle.std.proofs.Common.{tests}
use Rattle.std.proofs.lemmas.Iterator.{YieldsList-from_slice}
use Rattle.std.proofs.lemmas.Iterator.Search.{any_from_yields_List}
use Rattle.gtb.specs.Shape.{orders, is_order}
use Rattle.gtb.proofs.Lists.{any_entry}
use Rattle.gtb.proofs.is_order.Goals as goal

pub returns : goal.returns
unfolding is_order orders
returns c =
    any_from_yields_List (λ x. eqb x c.args.q) _ _ _ c.any.ensures.ran (YieldsList-from_slice orders (cc)) (λ x b q k. search (rules, tests))
    ∙ any_entry (λ x. eqb x c.args.q) orders
