-- `coverage::cover` meets its contract: each answer follows from the tests passed.
use mathlib.Core.Path.{sym, ◌∙◌}
use Rattle.std.proofs.lemmas.Result.{err_from_is_err_and}
use borrow.Author.Tests.{eq-eqb, ne_eqb}
use Rattle.coverage.specs.Coverage.{cover_of}
use Rattle.coverage.proofs.Paper.{covering_asked}
use Rattle.coverage.proofs.Marks.{refusing, covering}
use Rattle.coverage.proofs.cover.Goals as goal

-- the clauses, by their names
both : {A B : Type 0} → A × B → record { covered : A; paper : B }
both x = record { covered = x.0; paper = x.1 }

pub returns-in_err-status : goal.returns-in_err-status
unfolding cover_of
returns-in_err-status c = let e = err_from_is_err_and c.from_residual.result c.from_residual.ensures.1 in rw (e.1, e.2)
    (both (covering_asked (refusing _ _ (rw (sym c.status.ensures ∙ c.in_err-status.was)))))

pub returns-then-bytes-ne-FUNCTIONS : goal.returns-then-bytes-ne-FUNCTIONS
unfolding cover_of
returns-then-bytes-ne-FUNCTIONS c = both (covering_asked (refusing _ _ (rw (sym c.status.ensures ∙ c.in_ok-status.was, ne_eqb _ 256 c.if-bytes-ne-FUNCTIONS.true))))

pub returns : goal.returns
unfolding cover_of
returns c = both (covering_asked (covering c.args.session _ (rw (sym c.status.ensures ∙ c.in_ok-status.was, eq-eqb _ 256 c.if-bytes-ne-FUNCTIONS.false)) c.mark.ensures))
