-- `session::status::session_status` meets its contract: the tests turn down in their order.
use mathlib.Core.Path.{ap, subst}
use Rattle.std.specs.Prelude.{Err}
use Rattle.std.proofs.lemmas.Result.{err_from_is_err_and}
use Rattle.gtb.specs.Shape.{Lawful}
use Rattle.session.proofs.status.session_status.Goals as goal

pub returns-in_err-of : goal.returns-in_err-of
returns-in_err-of c = let e = err_from_is_err_and c.from_residual.result c.from_residual.ensures.1 in
    rw (e.1, e.2) (rw c.in_err-of.ensures.0 (ap Err c.in_err-of.ensures.1))

pub returns-then-not-agree : goal.returns-then-not-agree
returns-then-not-agree c =
    let law : Lawful c.args.shape = subst Lawful c.in_ok-of.ensures c.in_ok-of.field-0.lawful in
    rw (law, c.if-not-agree.true)

pub returns : goal.returns
returns c =
    let law : Lawful c.args.shape = subst Lawful c.in_ok-of.ensures c.in_ok-of.field-0.lawful in
    rw (law, c.if-not-agree.false)
