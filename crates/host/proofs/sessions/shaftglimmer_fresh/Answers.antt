-- `host::sessions::shaftglimmer_fresh` meets its contract: each answer follows from the tests passed.
use mathlib.Core.Path.{◌≡◌, sym, ap, ◌∙◌, subst}
use Rattle.paper.specs.Session as paper
use Rattle.gtb.specs.Shape.{of}
use Rattle.gtb.specs.Answer.{status_number}
use Rattle.session.specs.declared.Session.{Session}
use Rattle.session.specs.Session.{plain, fresh_of, begun_session, begun_status}
use lib.ListN.{length}
use borrow.Author.Rules.{rules}
use Rattle.host.proofs.Answers as answers
use Rattle.host.proofs.Paper.{fresh_in, fresh_refused, fresh_done, fresh_sized}
use Rattle.host.proofs.sessions.shaftglimmer_fresh.Goals as goal

pub returns-in-Err : goal.returns-in-Err
returns-in-Err c =
    let loaded = c.load_shape.ensures in
    record {
      made = rw (← loaded) (answers.fresh_refused _ _ (sym c.fresh.ensures.begun.status ∙ ap begun_status c.in-Err.is) c.refused.ensures);
      paper = fresh_in _ loaded _ _ _ (fresh_refused _ _ (ap begun_status c.in-Err.is) c.fresh.ensures.paper c.refused.ensures);
    }

pub returns-in-Ok : goal.returns-in-Ok
returns-in-Ok c =
    let loaded = c.load_shape.ensures in
    let ten : length c.args.shape.now ≡ 10 = search rules in
    let same : begun_session c.fresh.result ≡ c.in-Ok.fresh = ap begun_session c.in-Ok.is in
    let begun : c.in-Ok.fresh ≡ fresh_of c.load_shape.result = sym same ∙ c.fresh.ensures.begun.session in
    let asked : paper.Beginning (of c.load_shape.result) (plain c.in-Ok.fresh) (status_number (begun_status c.fresh.result)) =
    subst (λ (σ : Session). paper.Beginning (of c.load_shape.result) (plain σ) (status_number (begun_status c.fresh.result))) same c.fresh.ensures.paper in
    record {
      made = rw (← loaded) (answers.fresh_done _ _ (sym c.fresh.ensures.begun.status ∙ ap begun_status c.in-Ok.is) begun c.store.ensures);
      paper = fresh_in _ loaded _ _ _ (fresh_done _ _ (fresh_sized _ ten loaded begun) (ap begun_status c.in-Ok.is) asked c.store.ensures);
    }
