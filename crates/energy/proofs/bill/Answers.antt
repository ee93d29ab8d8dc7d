-- `energy::bill` meets its contract: each answer follows from the tests passed.
use mathlib.Core.Path.{sym, ◌∙◌}
use Rattle.std.proofs.lemmas.Result.{err_from_is_err_and}
use borrow.Author.Tests.{eq-eqb, ne_eqb}
use Rattle.energy.specs.Energy.{bill_of}
use Rattle.energy.proofs.Paper.{billing_asked}
use Rattle.energy.proofs.bill.Goals as goal

-- the clauses, by their names
both : {A B : Type 0} → A × B → record { billed : A; paper : B }
both x = record { billed = x.0; paper = x.1 }

pub returns-in_err-status : goal.returns-in_err-status
unfolding bill_of
returns-in_err-status c = let e = err_from_is_err_and c.from_residual.result c.from_residual.ensures.1 in rw (e.1, e.2)
    (both (let a = c.args in billing_asked a.session a.prices.now (rw (sym c.status.ensures ∙ c.in_err-status.was))))

pub returns-then-prices-ne-FUNCTIONS : goal.returns-then-prices-ne-FUNCTIONS
unfolding bill_of
returns-then-prices-ne-FUNCTIONS c = both (let a = c.args in billing_asked a.session a.prices.now (rw (sym c.status.ensures ∙ c.in_ok-status.was, ne_eqb _ 256 c.if-prices-ne-FUNCTIONS.true)))

pub returns : goal.returns
unfolding bill_of
returns c = both (let a = c.args in
    billing_asked a.session a.prices.now
    (rw (sym c.status.ensures ∙ c.in_ok-status.was, eq-eqb _ 256 c.if-prices-ne-FUNCTIONS.false) c.priced.ensures))
