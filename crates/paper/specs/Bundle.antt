-- A bundle of words in one call (RULES 5.3, request N9).
use Rattle.std.specs.Prelude.{◌≡◌, List, [], ◌∷◌, ◌++◌, ◌⊎◌, ◌≢◌, ℕ, zero, suc, ◌+◌, ◌*◌, ◌<◌, ◌≤◌, length, take, drop}
use Rattle.paper.specs.Answers.{Test, Judged, refusal, at, zeros}
use Rattle.paper.specs.Square.{Shape, InLists, WrongSlopes, N}
use Rattle.paper.specs.Writing.{scratch_length}
use Rattle.paper.specs.Reading.{TooFew}
use Rattle.paper.specs.Session.{Session, WrongFigures, Arrival, Arrived, Arriving}

-- word i of a run
abbrev pub word_at : Shape → List ℕ → ℕ → List ℕ
word_at s words i = take (N s) (drop (i * N s) words)

-- a run of m words, from 1 to 64
abbrev pub RunOf : Shape → List ℕ → ℕ → Type 0
RunOf s words m = (1 ≤ m) × (m ≤ 64) × (length words ≡ m * N s)

abbrev pub bundle_tests : Session → ℕ → List ℕ → List ℕ → List ℕ → List Test
bundle_tests session way words scratch outcomes =
    (1, 2 < way)
    ∷ (1, ¬ InLists session.shape)
    ∷ (18, WrongSlopes session.shape)
    ∷ (11, WrongFigures session)
    ∷ (16, TooFew session.shape way)
    ∷ (2, (((m : ℕ) → ¬ RunOf session.shape words m) ⊎ (length scratch ≢ scratch_length session.shape)) ⊎ (length outcomes ≢ 192))
    ∷ []

-- word i arrives at session i, and leaves `left i`; so the words and the outcomes are left, with zeros past the run
pub record Delivered (session : Session) (way : ℕ) (words scratch : List ℕ) (session' : Session) (words' scratch' outcomes' : List ℕ) : Type 0 where
  pub number : ℕ
  pub run : RunOf session.shape words number
  pub before : ℕ → Session
  pub left : ℕ → Arrived
  pub first : before 0 ≡ session
  pub each : (i : ℕ) → i < number → Arriving (before i) (record { way = way; word = word_at session.shape words i; scratch = scratch }) (left i)
  pub next : (i : ℕ) → i < number → before (suc i) ≡ (left i).session
  pub last : before number ≡ session'
  pub size : length words' ≡ length words
  pub word : (i : ℕ) → i < number → word_at session.shape words' i ≡ (left i).word
  pub list : length outcomes' ≡ 192
  pub outcome : (i c : ℕ) → i < number → c < 3 → at outcomes' (3 * i + c) ≡ at (left i).answer c
  pub rest : (j : ℕ) → 3 * number ≤ j → at outcomes' j ≡ 0
  pub used : scratch' ≡ zeros scratch

-- a refusal of the whole call changes nothing, not even the scratch
abbrev pub Bundling : Session → ℕ → List ℕ → List ℕ → List ℕ → Session → List ℕ → List ℕ → List ℕ → ℕ → Type 0
Bundling session way words scratch outcomes session' words' scratch' outcomes' answer =
    Judged (bundle_tests session way words scratch outcomes)
    (λ k. (answer ≡ refusal k) × (session' ≡ session) × (words' ≡ words) × (scratch' ≡ scratch) × (outcomes' ≡ outcomes))
    ((answer ≡ 0) × Delivered session way words scratch session' words' scratch' outcomes')

-- the m words of a run from word i on, as arrivals
abbrev pub arrivals_from : Shape → ℕ → List ℕ → List ℕ → ℕ → ℕ → List Arrival
arrivals_from s way words scratch i zero = []
arrivals_from s way words scratch i (suc m) = record { way = way; word = word_at s words i; scratch = scratch } ∷ arrivals_from s way words scratch (suc i) m

-- bundles one after the other, with the arrivals of all; one that is refused whole leaves the session as it was and brings none
pub data Bundles : Session → List Arrival → Session → Type 0 where
  none : {session : Session} → Bundles session [] session
  more : {session next end : Session} {way : ℕ} {words scratch words' scratch' outcomes' : List ℕ} {rest : List Arrival}
      → (d : Delivered session way words scratch next words' scratch' outcomes') → Bundles next rest end
      → Bundles session (arrivals_from session.shape way words scratch 0 d.number ++ rest) end
