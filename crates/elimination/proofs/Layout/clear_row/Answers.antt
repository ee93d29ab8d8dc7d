-- `elimination::Layout::clear_row` meets its contract.
use mathlib.Core.Path.{sym, ◌∙◌}
use borrow.Author.Rules.{rules}
use Rattle.elimination.specs.Packed.{cell_of}
use Rattle.elimination.proofs.Columns.{joined_none, joined_as, single_no, single_yes}
use Rattle.elimination.proofs.Layout.clear_row.Goals as goal

pub returns-then-not-has : goal.returns-then-not-has
unfolding cell_of
returns-then-not-has c = joined_none _ (search rules)
    (single_no (λ t. cell_of c.args.self.width c.args.scratch.now t c.args.k) c.args.i (sym c.has.ensures ∙ c.if-not-has.true))

pub returns : goal.returns
unfolding cell_of
returns c = joined_as _ c.add_row.ensures
    (single_yes (λ t. cell_of c.args.self.width c.args.scratch.now t c.args.k) c.args.i (sym c.has.ensures ∙ c.if-not-has.false))
