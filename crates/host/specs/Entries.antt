-- What the entries answer and leave once numbers and u32 values stand for shapes, answers and sessions.
use Rattle.std.specs.Prelude.{◌≡◌, cond, List, ℕ, eqb, Result, Ok, Err}
use Rattle.gtb.specs.declared.Shape.{Shape}
use Rattle.gtb.specs.declared.Refusal.{Refusal}
use Rattle.gtb.specs.Shape.{lawful}
use Rattle.gtb.specs.Answer.{status_number}
use Rattle.session.specs.declared.Session.{Session}
use Rattle.session.specs.declared.Outcome.{Outcome}
use Rattle.session.specs.declared.Outcome.TheVariants.{Taken, Again, Refused}
use Rattle.session.specs.declared.Arrived.{Arrived}
use Rattle.session.specs.Session.{fresh_of, fresh_status}
use Rattle.session.specs.Arrival.{the_ways, outcome_values, Arriving}
use Rattle.batch.specs.declared.Delivered.{Delivered}
use Rattle.batch.specs.Batch.{Batching}
use Rattle.host.specs.Crossing.{shape_in, session_of, values_of}

-- a length of the shape in the values, 0 where that is refused by 1 or 18
abbrev pub length_in : (Shape → ℕ) → List ℕ → ℕ
length_in size shape = cond (lawful (shape_in shape)) (size (shape_in shape)) 0

-- a fresh session is written; a refusal leaves the values as they were
abbrev pub fresh_in : Shape → List ℕ → Result (Unit {0}) Refusal → List ℕ
fresh_in s session (Ok tt) = values_of (fresh_of s)
fresh_in s session (Err e) = session

pub record FreshCrossing (s : Shape) (session session' : List ℕ) (r : ℕ) : Type 0 where
  pub answer : r ≡ status_number (fresh_status s)
  pub left : session' ≡ fresh_in s session (fresh_status s)

-- a session is written only after a page was taken
abbrev pub session_in : List ℕ → Session → Outcome → List ℕ
session_in session σ (Taken p k) = values_of σ
session_in session σ (Again p k) = session
session_in session σ (Refused e) = session

-- an arrival, by the way that is named
pub record Arrives (session : List ℕ) (way : ℕ) (word scratch session' word' scratch' outcome' : List ℕ) (r : ℕ) : Type 0 where
  pub arrived : Arrived
  pub holds : Arriving the_ways (session_of session) way word scratch word' scratch' arrived
  pub outcome_left : outcome' ≡ outcome_values arrived.outcome
  pub session_left : session' ≡ session_in session arrived.session arrived.outcome
  pub answer : r ≡ status_number (Ok tt)

-- a session is written where it changed, and then it has a page more
abbrev pub bundle_in : List ℕ → Session → List ℕ
bundle_in session σ = cond (eqb σ.pages (session_of session).pages) session (values_of σ)

-- a bundle of words
pub record Delivers (session : List ℕ) (way : ℕ) (words scratch outcomes session' words' scratch' outcomes' : List ℕ) (r : ℕ) : Type 0 where
  pub delivered : Delivered
  pub holds : Batching (session_of session) way words scratch outcomes words' scratch' outcomes' delivered
  pub session_left : session' ≡ bundle_in session delivered.session
  pub answer : r ≡ status_number delivered.status
