-- `session::Session::fresh` meets its contract: what it makes is a fresh session as it stands, and the test of the shape gives the answer.
use Rattle.session.specs.declared.Session.{Session}
use Rattle.session.specs.declared.Unlawful.{Unlawful}
use Rattle.std.specs.Prelude.{Result, Ok, Err}
use mathlib.Core.Path.{◌≡◌, refl, ap, subst}
use Rattle.gtb.specs.Shape.{Lawful}
use Rattle.gtb.specs.declared.Shape.{Shape}
use Rattle.session.specs.Session.{begun_session, begun_status, fresh_of, fresh_status, Beginning}
use Rattle.session.proofs.Paper.{beginning_asked}
use Rattle.session.proofs.Session.fresh.Goals as goal

-- the contract from its two equations
beginning : {s : Shape} {r : Result Session Unlawful} → begun_session r ≡ fresh_of s → begun_status r ≡ fresh_status s → Beginning s r
beginning session status = record { session = session; status = status }

-- the clauses, by their names
both : {A B : Type 0} → A × B → record { begun : A; paper : B }
both x = record { begun = x.0; paper = x.1 }

pub returns-in-Err : goal.returns-in-Err
unfolding fresh_status
returns-in-Err c =
    let (unlawful, refusal) = c.in-Err.ensures in
    both (beginning_asked {r = Err (record { refusal = c.in-Err.refusal; session = c.blank-session.result })} (beginning c.blank-session.ensures (rw unlawful (ap Err refusal))))

pub returns-in-Ok : goal.returns-in-Ok
unfolding fresh_status
returns-in-Ok c =
    let law : Lawful c.args.shape = subst Lawful c.in-Ok.ensures c.in-Ok.field-0.lawful in
    both (beginning_asked {r = Ok c.blank-session.result} (beginning c.blank-session.ensures (rw law refl)))
