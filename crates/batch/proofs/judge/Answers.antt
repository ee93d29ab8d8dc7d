-- `batch::judge` meets its contract: the tests turn down in the order of `batch_status`.
use mathlib.Core.Path.{◌≡◌, sym, ◌∙◌}
use Rattle.std.proofs.lemmas.Result.{err_from_is_err_and}
use mathlib.Core.Bool.{true}
use lib.Dec.{eqb}
use lib.ListN.{length}
use borrow.Author.Tests.{eq-eqb, ne_eqb}
use Rattle.std.specs.Prelude.{Ok}
use Rattle.gtb.specs.Shape.{scratch_length}
use Rattle.session.specs.Arrival.{the_ways, arrival_status}
use Rattle.session.proofs.Arrive.{admitted}
use Rattle.batch.specs.Batch.{whole_run, batch_status}
use Rattle.batch.proofs.judge.Goals as goal
use Rattle.batch.proofs.judge.Goals.{Else-not-is_run, Else-scratch-scratch_length}

pub returns-in_err-way : goal.returns-in_err-way
unfolding batch_status
returns-in_err-way c = let e = err_from_is_err_and c.from_residual.result c.from_residual.ensures.1 in rw (e.1, e.2) (rw c.in_err-way.ensures)

pub is_run-requires : goal.is_run-requires
is_run-requires c = (admitted _ _ c.in_ok-way.ensures.0).lawful

pub returns-then-not-is_run : goal.returns-then-not-is_run
unfolding batch_status
returns-then-not-is_run c = rw (c.in_ok-way.ensures.0, sym c.is_run.ensures ∙ c.if-not-is_run.true)

pub scratch_length-requires : goal.scratch_length-requires
scratch_length-requires c = (admitted _ _ c.in_ok-way.ensures.0).lawful

-- the run is whole, and the scratch is of its length
whole : (c : Else-not-is_run) → whole_run c.args.session.shape c.args.words.now ≡ true
whole c = sym c.is_run.ensures ∙ c.if-not-is_run.false

roomy : (c : Else-scratch-scratch_length) → eqb (length c.args.scratch.now) (scratch_length c.args.session.shape) ≡ true
roomy c = eq-eqb _ _ (c.if-scratch-scratch_length.false ∙ c.scratch_length.ensures)

pub returns-then-scratch-scratch_length : goal.returns-then-scratch-scratch_length
unfolding batch_status
returns-then-scratch-scratch_length c =
    let s = c.args in
    rw (
      c.in_ok-way.ensures.0,
      whole (goal.at.returns-then-scratch-scratch_length c).Else-not-is_run,
      ne_eqb (length s.scratch.now) (scratch_length s.session.shape) (λ e. c.if-scratch-scratch_length.true (e ∙ sym c.scratch_length.ensures)),
    )

pub returns-then-outcomes-ne-OUTCOMES : goal.returns-then-outcomes-ne-OUTCOMES
unfolding batch_status
returns-then-outcomes-ne-OUTCOMES c =
    let at = goal.at.returns-then-outcomes-ne-OUTCOMES c in
    rw (c.in_ok-way.ensures.0, whole at.Else-not-is_run, roomy at.Else-scratch-scratch_length, ne_eqb (length c.args.outcomes.now) 192 c.if-outcomes-ne-OUTCOMES.true)

pub returns : goal.returns
unfolding batch_status
returns c =
    let at = goal.at.returns c in
    (rw (c.in_ok-way.ensures.0, whole at.Else-not-is_run, roomy at.Else-scratch-scratch_length, eq-eqb (length c.args.outcomes.now) 192 c.if-outcomes-ne-OUTCOMES.false), c.in_ok-way.ensures.1)
