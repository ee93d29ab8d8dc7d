-- `capture::head::start_session` meets its contract.
use mathlib.Core.Path.{sym, ap, ◌∙◌}
use Rattle.session.specs.Session.{begun_session, begun_status}
use Rattle.capture.specs.Judge.{passed}
use Rattle.capture.proofs.head.start_session.Goals as goal

pub returns-in-Ok : goal.returns-in-Ok
returns-in-Ok c = let f = c.fresh.ensures.begun in
    rw (sym f.status ∙ ap begun_status c.in-Ok.is) (c.pass.ensures ∙ ap (passed _) (sym (ap begun_session c.in-Ok.is) ∙ f.session))

pub returns-in-Err : goal.returns-in-Err
returns-in-Err c = let f = c.fresh.ensures.begun in
    rw (sym f.status ∙ ap begun_status c.in-Err.is) c.fail.ensures
