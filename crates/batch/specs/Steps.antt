-- Contracts of the bundle's private steps.
use Rattle.std.specs.Prelude.{◌≡◌, Bool, true, List, ℕ, length, Option, Some, None, Ok}
use Rattle.gtb.specs.declared.Shape.{Shape}
use Rattle.gtb.specs.Shape.{scratch_length}
use Rattle.session.specs.declared.Session.{Session}
use Rattle.session.specs.declared.Outcome.{Outcome}
use Rattle.session.specs.declared.Brought.{Brought}
use Rattle.session.specs.Arrival.{Way, outcome_values}
use Rattle.session.specs.Steps.{Admitted, Keeps, Deciding}
use Rattle.batch.specs.Batch.{whole_run}

-- the whole call has passed its tests
pub record Tested (σ : Session) (k : ℕ) (words scratch outcomes : List ℕ) : Type 0 where
  pub admitted : Admitted σ k
  pub run : whole_run σ.shape words ≡ true
  pub scratch_size : length scratch ≡ scratch_length σ.shape
  pub outcomes_size : length outcomes ≡ 192

-- a word is decided, and its answer's values are written down
pub record OneArrival (way : Way) (σ : Session) (word : List ℕ) (σ' : Session) (word' values' : List ℕ) : Type 0 where
  pub answer : Outcome
  pub decides : Deciding way σ word word' (record { session = σ'; outcome = answer })
  pub written : values' ≡ outcome_values answer

-- a look at it, where these are the page marks: decided, and the session as it was; or a page that is new
pub record Looked (way : Way) (s : Shape) (taken : List Bool) (word word' came' symbols' values' : List ℕ) (r : Option Brought) : Type 0 where
  pub known : r ≡ None → (σ : Session) → σ.shape ≡ s → σ.taken ≡ taken → OneArrival way σ word σ word' values'
  pub new : (page : Brought) → r ≡ Some page → Keeps way s word word' came' symbols' (Ok page)
