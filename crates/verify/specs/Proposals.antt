-- Arrivals of proposals in place of the words that were received (RULES 3.4).
use Rattle.std.specs.Prelude.{◌≡◌, ◌⊎◌, List, ℕ, ◌<◌, length, Ok, true}
use Rattle.gtb.specs.declared.Shape.{Shape}
use Rattle.session.specs.declared.Outcome.{Outcome}
use Rattle.session.specs.declared.Outcome.TheVariants.{Taken, Again, Refused}
use Rattle.session.specs.Recording.{Arrival, arrival_at}
use Rattle.session.specs.Claim.{answer_at}
use Rattle.verify.specs.Verify.{verdict_of}

-- both are read the clean way, number 0, with the same scratch, and the second word is a proposal that got yes for the first
pub record Replaced (s : Shape) (a b : Arrival) : Type 0 where
  pub clean : a.way ≡ 0
  pub named : b.way ≡ 0
  pub scratch : b.scratch ≡ a.scratch
  pub yes : verdict_of s a.word b.word ≡ Ok true

-- the second list is the first with such proposals for some of the words, all of them or none, and all else alike
pub record Proposed (s : Shape) (arrivals others : List Arrival) : Type 0 where
  pub size : length others ≡ length arrivals
  pub each : (j : ℕ) → j < length arrivals → (arrival_at others j ≡ arrival_at arrivals j) ⊎ Replaced s (arrival_at arrivals j) (arrival_at others j)

-- an answer without the digits changed
abbrev pub without_number : Outcome → Outcome
without_number (Taken number k) = Taken number 0
without_number (Again number k) = Again number 0
without_number (Refused e) = Refused e

-- the same answers but for the digits changed
pub record AnswersAlike (answers others : List Outcome) : Type 0 where
  pub size : length others ≡ length answers
  pub each : (j : ℕ) → without_number (answer_at others j) ≡ without_number (answer_at answers j)
