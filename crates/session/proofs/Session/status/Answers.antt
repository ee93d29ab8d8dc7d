-- `session::Session::status` meets its contract.
use mathlib.Core.Path.{ap, ◌∙◌}
use mathlib.Core.Bool.{Bool}
use Rattle.session.specs.Session.{consistent, session_status}
use Rattle.session.specs.Steps.{session_tests}
use Rattle.session.proofs.Session.status.Goals as goal

pub returns : goal.returns
unfolding session_status consistent
returns c = c.session_status.ensures ∙ ap (λ (agree : Bool). session_tests c.args.self.shape agree) c.agree-agree.ensures
