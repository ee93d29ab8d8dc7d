-- `session::Session::admit` meets its contract.
use mathlib.Core.Path.{subst}
use mathlib.Core.Bool.{Bool}
use Rattle.session.specs.Session.{consistent, session_status}
use Rattle.session.specs.Arrival.{arrival_status}
use Rattle.session.specs.Named.{Admits}
use Rattle.session.specs.Steps.{arrival_tests}
use Rattle.session.proofs.Session.admit.Goals as goal

pub returns : goal.returns
unfolding arrival_status session_status consistent
returns c = subst (λ (agree : Bool). Admits (arrival_tests c.args.self.shape c.args.way agree) c.args.way c.arrival_status.result) c.agree-agree.ensures c.arrival_status.ensures
