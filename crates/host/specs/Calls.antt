-- Demand 3 as a program in C meets it: the values that `shaftglimmer_fresh` leaves, then calls, each on the values that the last one left.
use Rattle.session.specs.declared.Session.{Session}
use Rattle.session.specs.declared.Unlawful.{Unlawful}
use Rattle.std.specs.Prelude.{Result, ◌≡◌, true, List, [], ◌∷◌, ◌++◌, ℕ, ◌+◌, ◌*◌, ◌<◌, length, get_or, take, Ok}
use Rattle.gtb.specs.declared.Shape.{Shape}
use Rattle.session.specs.declared.Outcome.{Outcome}
use Rattle.session.specs.Arrival.{the_ways}
use Rattle.session.specs.Recording.{Sheet, Recording, tally, Arrival, Fits}
use Rattle.session.specs.Claim.{Demand3}
use Rattle.batch.specs.Batch.{words_in, arrivals_of, all_values}
use Rattle.host.specs.Crossing.{shape_in, session_of}
use Rattle.host.specs.Entries.{FreshCrossing, Arrives, Delivers}

-- calls of `shaftglimmer_arrive` and `shaftglimmer_arrive_all`: the words that arrived, the three values that each was answered with, and the session's values at the end
pub data Calls : List ℕ → List Arrival → List ℕ → List ℕ → Type 0 where
  none : {values : List ℕ} → Calls values [] [] values
  one : {values values' end : List ℕ} {way : ℕ} {word scratch word' scratch' outcome' : List ℕ} {r : ℕ} {rest : List Arrival} {later : List ℕ}
      → Arrives values way word scratch values' word' scratch' outcome' r → Calls values' rest later end
      → Calls values (record { way = way; word = word; scratch = scratch } ∷ rest) (outcome' ++ later) end
  -- a bundle stands for its words in turn
  bundle : {values values' end : List ℕ} {way : ℕ} {words scratch outcomes words' scratch' outcomes' : List ℕ} {r : ℕ} {rest : List Arrival} {later : List ℕ}
      → Delivers values way words scratch outcomes values' words' scratch' outcomes' r → r ≡ 0 → Calls values' rest later end
      → Calls values (arrivals_of (session_of values).shape way words scratch ++ rest) (take (3 * words_in (session_of values).shape words) outcomes' ++ later) end
  -- one that is turned down whole for none
  turned : {values values' end : List ℕ} {way : ℕ} {words scratch outcomes words' scratch' outcomes' : List ℕ} {r : ℕ} {rest : List Arrival} {later : List ℕ}
      → Delivers values way words scratch outcomes values' words' scratch' outcomes' r → (r ≡ 0 → ⊥) → Calls values' rest later end
      → Calls values rest later end

-- what a fresh session's values stand for
abbrev pub begun_with : List ℕ → Result Session Unlawful
begun_with start = Ok (session_of start)

-- what such calls must show, of a list of arrivals that fits a recording
pub record AtBoundary (s : Shape) (pages : List Sheet) (start : List ℕ) (number : ℕ) (arrivals : List Arrival) (given end : List ℕ) : Type 0 where
  -- the session was made
  pub made : number ≡ 0
  -- the values that the calls answered with are those of demand 3's answers
  pub answers : List Outcome
  pub outcomes : given ≡ all_values answers
  -- all of demand 3 holds of the session in the values
  pub demand : Demand3 the_ways s pages (begun_with start) arrivals answers (session_of end)
  -- the last 256 of the values are the recording's own tally
  pub counts : (f : ℕ) → f < 256 → get_or end (1036 + f) 0 ≡ tally pages (λ p. true) f
  pub size : length end ≡ 1292

-- for every shape of ten values, every recording and every list of arrivals that fits it
abbrev pub ClaimAtBoundary : Type 0
ClaimAtBoundary = (shape blank start : List ℕ) (number : ℕ) (pages : List Sheet) (arrivals : List Arrival) (given end : List ℕ)
    → length shape ≡ 10 → FreshCrossing (shape_in shape) blank start number
    → Recording (shape_in shape) pages → Fits the_ways (shape_in shape) pages arrivals → Calls start arrivals given end
    → AtBoundary (shape_in shape) pages start number arrivals given end
