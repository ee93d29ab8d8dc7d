-- The contract of an arrival's private steps at a session that is lent as values.
use Rattle.std.specs.Prelude.{◌≡◌, List, ℕ, length}
use Rattle.gtb.specs.declared.Shape.{Shape}
use Rattle.session.specs.declared.Session.{Session}
use Rattle.session.specs.declared.Outcome.{Outcome}
use Rattle.session.specs.declared.Arrived.{Arrived}
use Rattle.session.specs.Session.{Consistent}
use Rattle.session.specs.Steps.{Openable}
use Rattle.host.specs.Crossing.{session_of}
use Rattle.host.specs.Entries.{session_in}

-- the step's promise holds of the session in the values, and they are written only after a page was taken
pub record AtValues (values : List ℕ) (Promise : Session → Arrived → Type 0) (values' : List ℕ) (r : Outcome) : Type 0 where
  pub after : Session
  pub holds : Promise (session_of values) (record { session = after; outcome = r })
  pub left : values' ≡ session_in values after r

-- past all tests: the session, its shape and the word fit
pub record Fitting (values : List ℕ) (s : Shape) (way : ℕ) (word : List ℕ) : Type 0 where
  pub size : length values ≡ 1292
  pub shape : (session_of values).shape ≡ s
  pub consistent : Consistent (session_of values)
  pub openable : Openable s way word
