-- A bundle of words: the arrivals of a whole run in one call (RULES 5.3).
use Rattle.std.specs.Prelude.{◌≡◌, Bool, ◌&&◌, List, [], ◌∷◌, ◌++◌, ℕ, zero, suc, ◌+◌, ◌-◌, ◌*◌, ◌/◌, ◌<◌, eqb, length, take, drop, replicate, Result, Ok, Err}
use Rattle.parity.specs.Count.{any}
use Rattle.gtb.specs.declared.Shape.{Shape}
use Rattle.gtb.specs.declared.Refusal.{Refusal}
use Rattle.gtb.specs.Shape.{word_length, scratch_length}
use Rattle.gtb.specs.Answer.{unless}
use Rattle.session.specs.declared.Session.{Session}
use Rattle.session.specs.declared.Outcome.{Outcome}
use Rattle.session.specs.Session.{past}
use Rattle.session.specs.Arrival.{way_of, the_ways, arrival_status, outcome_values, word_after}
use Rattle.session.specs.Recording.{Arrival}
use Rattle.session.specs.Claim.{Run, answer_at}
use Rattle.batch.specs.declared.Delivered.{Delivered}

-- how many words the run has
abbrev pub words_in : Shape → List ℕ → ℕ
words_in s words = length words / word_length s

-- a run of 1 to 64 whole words
unfoldable pub whole_run : Shape → List ℕ → Bool
whole_run s words = any 64 (λ i. eqb (length words) ((i + 1) * word_length s))

-- word i
abbrev pub word_at : Shape → List ℕ → ℕ → List ℕ
word_at s words i = take (word_length s) (drop (i * word_length s) words)

-- test 2 for the run, the scratch and the list of outcomes
abbrev pub all_fit : Shape → List ℕ → List ℕ → List ℕ → Bool
all_fit s words scratch outcomes = whole_run s words && eqb (length scratch) (scratch_length s) && eqb (length outcomes) 192

-- the tests for the whole call: an arrival's, 1, 18, 11, 16, then 2
unfoldable pub batch_status : Session → ℕ → List ℕ → List ℕ → List ℕ → Result (Unit {0}) Refusal
batch_status σ k words scratch outcomes =
    past (arrival_status the_ways σ k) Err (unless (all_fit σ.shape words scratch outcomes) (Err Refusal.Length) (Ok tt))

-- word i as an arrival, with the way and the scratch
abbrev pub arrival_of : Shape → ℕ → List ℕ → List ℕ → ℕ → Arrival
arrival_of s k words scratch i = record { way = k; word = word_at s words i; scratch = scratch }

-- the first m words as arrivals, first word first
unfoldable pub first_arrivals : Shape → ℕ → List ℕ → List ℕ → ℕ → List Arrival
first_arrivals s k words scratch zero = []
first_arrivals s k words scratch (suc m) = first_arrivals s k words scratch m ++ (arrival_of s k words scratch m ∷ [])

-- all of them
abbrev pub arrivals_of : Shape → ℕ → List ℕ → List ℕ → List Arrival
arrivals_of s k words scratch = first_arrivals s k words scratch (words_in s words)

-- three values an answer
unfoldable pub all_values : List Outcome → List ℕ
all_values [] = []
all_values (answer ∷ rest) = outcome_values answer ++ all_values rest

-- zeros past the run: 192 in all
unfoldable pub values_of : List Outcome → List ℕ
values_of answers = all_values answers ++ replicate (192 - 3 * length answers) 0

-- a run of the single arrivals, first word first, and what they leave
pub record Arrivals (σ : Session) (k : ℕ) (words scratch words' scratch' outcomes' : List ℕ) (end : Session) : Type 0 where
  pub answers : List Outcome
  pub run : Run the_ways σ (arrivals_of σ.shape k words scratch) answers end
  pub size : length words' ≡ length words
  pub word : (i : ℕ) → i < words_in σ.shape words
      → word_at σ.shape words' i ≡ word_after (word_at σ.shape words i) ((way_of k).word σ.shape (word_at σ.shape words i)) (answer_at answers i)
  pub outcomes_left : outcomes' ≡ values_of answers
  pub scratch_left : scratch' ≡ replicate (length scratch) 0

-- the call
pub record Batching (σ : Session) (k : ℕ) (words scratch outcomes words' scratch' outcomes' : List ℕ) (r : Delivered) : Type 0 where
  pub status : r.status ≡ batch_status σ k words scratch outcomes
  -- turned down: nothing has changed
  pub refused : (e : Refusal) → r.status ≡ Err e
      → (r.session ≡ σ) × (words' ≡ words) × (scratch' ≡ scratch) × (outcomes' ≡ outcomes)
  -- otherwise a run of the single arrivals
  pub done : r.status ≡ Ok tt → Arrivals σ k words scratch words' scratch' outcomes' r.session

-- bundles one after the other, each with its own way and of its own size: the arrivals and answers of all that are not turned down whole
pub data Batches : Session → List Arrival → List Outcome → Session → Type 0 where
  none : {σ : Session} → Batches σ [] [] σ
  more : {σ end : Session} {k : ℕ} {words scratch outcomes words' scratch' outcomes' : List ℕ} {r : Delivered} {rest : List Arrival} {answers : List Outcome}
      → (bundle : Batching σ k words scratch outcomes words' scratch' outcomes' r) → (whole : r.status ≡ Ok tt) → Batches r.session rest answers end
      → Batches σ (arrivals_of σ.shape k words scratch ++ rest) ((bundle.done whole).answers ++ answers) end
  turned : {σ end : Session} {k : ℕ} {words scratch outcomes words' scratch' outcomes' : List ℕ} {r : Delivered} {e : Refusal} {rest : List Arrival} {answers : List Outcome}
      → Batching σ k words scratch outcomes words' scratch' outcomes' r → r.status ≡ Err e → Batches r.session rest answers end
      → Batches σ rest answers end
