-- `session::Session::blank` meets its contract: what it makes is a fresh session as it stands.
use mathlib.Core.Path.{refl}
use Rattle.session.specs.Session.{fresh_of}
use Rattle.session.proofs.Session.blank.Goals as goal

pub returns : goal.returns
unfolding fresh_of
returns c = refl
