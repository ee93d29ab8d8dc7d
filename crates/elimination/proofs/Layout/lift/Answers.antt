-- `elimination::Layout::lift` meets its contract.
use mathlib.Core.Bool.{not}
use lib.Dec.{eqb}
use borrow.Author.Rules.{rules}
use borrow.Author.Tests.{eq-eqb, ne_eqb}
use Rattle.parity.proofs.Tests.{and_no_right, not_of_true, not_of_false}
use Rattle.elimination.specs.Steps.{lifted}
use Rattle.elimination.proofs.Columns.{joined_none, joined_as, single_yes}
use Rattle.elimination.proofs.Layout.lift.Goals as goal

pub returns-then-from-u : goal.returns-then-from-u
returns-then-from-u c = let a = c.args in
    joined_none (lifted a.u a.from) (search rules) (λ t. and_no_right (eqb t a.u) (not_of_true (eq-eqb a.from a.u c.if-from-u.true)))

pub returns : goal.returns
returns c = let a = c.args in
    joined_as (lifted a.u a.from) c.add_row.ensures (single_yes (λ t. not (eqb a.from a.u)) a.u (not_of_false (ne_eqb a.from a.u c.if-from-u.false)))
