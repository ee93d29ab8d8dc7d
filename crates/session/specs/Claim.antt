-- What must come of a list of arrivals: the claim of demand 3 (RULES 5; demand 3 is RULES 12).
use Rattle.std.specs.Prelude.{Result, ◌≡◌, ◌↔◌, Bool, true, false, ◌||◌, List, [], ◌∷◌, ℕ, ◌+◌, ◌*◌, ◌<◌, ◌≤◌, eqb, length, get_or, take, Ok}
use Rattle.parity.specs.Count.{any, count, lowest_not}
use Rattle.gtb.specs.declared.Shape.{Shape}
use Rattle.gtb.specs.declared.Refusal.{Refusal}
use Rattle.session.specs.declared.Session.{Session}
use Rattle.session.specs.declared.Unlawful.{Unlawful}
use Rattle.session.specs.declared.Outcome.{Outcome}
use Rattle.session.specs.declared.Outcome.TheVariants.{Taken, Again, Refused}
use Rattle.session.specs.declared.Arrived.{Arrived}
use Rattle.session.specs.Session.{begun_session, begun_status, Consistent, Beginning, count_of, counted_of}
use Rattle.session.specs.Arrival.{by_session, Ways, AllSound, Opened, Page, Bad, opened, Arriving}
use Rattle.session.specs.Recording.{Sheet, sheet_at, Recording, tally, Arrival, arrival_at, opened_at, TurnedDown, Brings, Fits}

-- ---- a run: sessions and answers, each arrival related to the next by what an arrival ensures
pub data Run (ways : Ways) : Session → List Arrival → List Outcome → Session → Type 0 where
  stop : {σ : Session} → Run ways σ [] [] σ
  step : {σ end : Session} {a : Arrival} {rest : List Arrival} {answers : List Outcome} {r : Arrived} {word' scratch' : List ℕ}
      → Arriving ways σ a.way a.word a.scratch word' scratch' r → Run ways r.session rest answers end
      → Run ways σ (a ∷ rest) (r.outcome ∷ answers) end

-- what was brought is the page with this number
abbrev pub has_number : ℕ → Opened → Bool
has_number number (Page p marks k) = eqb p number
has_number number (Bad e) = false

-- the page with this number has come unrefused among the first m arrivals
unfoldable pub come : Ways → Shape → List Arrival → ℕ → ℕ → Bool
come ways s arrivals m number = any m (λ j. has_number number (opened_at ways s arrivals j))

-- ---- the plain machine: a set of page numbers and a count per function
pub record Machine : Type 0 where
  pub pages : ℕ → Bool
  pub counts : ℕ → ℕ

-- before any arrival
abbrev pub empty_machine : Machine
empty_machine = record { pages = λ p. false; counts = λ f. 0 }

-- a page that is in the set leaves it as it is; another is put in and its marks counted
abbrev pub machine_page : Machine → ℕ → List ℕ → Bool → Machine
machine_page m number marks true = m
machine_page m number marks false = record { pages = λ p. m.pages p || eqb p number; counts = λ f. m.counts f + count_of f marks }

-- a refused arrival leaves it as it is
abbrev pub machine_step : Machine → Opened → Machine
machine_step m (Page number marks k) = machine_page m number marks (m.pages number)
machine_step m (Bad e) = m

-- fed, in turn, the page of each arrival that isn't refused
abbrev pub machine : Ways → Shape → Machine → List Arrival → Machine
machine ways s m [] = m
machine ways s m (a ∷ rest) = machine ways s (machine_step m (opened ways s a.way a.word a.scratch)) rest

-- the session holds what the machine holds
pub record Agrees (σ : Session) (m : Machine) : Type 0 where
  pub taken : (p : ℕ) → p < 1024 → get_or σ.taken p false ≡ m.pages p
  pub calls : (f : ℕ) → f < 256 → get_or σ.calls f 0 ≡ m.counts f

-- the answer to arrival j
abbrev pub answer_at : List Outcome → ℕ → Outcome
answer_at answers j = get_or answers j (Refused Refusal.Shape)

-- ---- what every list of arrivals must show, from a session on that `Session::fresh` made
pub record EveryList (ways : Ways) (s : Shape) (start : Session) (arrivals : List Arrival) (answers : List Outcome) (end : Session) : Type 0 where
  pub agrees : Agrees end (machine ways s empty_machine arrivals)
  pub answered : length answers ≡ length arrivals
  -- the session has that shape still, and is consistent
  pub shape : end.shape ≡ s
  pub consistent : Consistent end
  -- no count is above that of 1,024 pages with nothing but marks for one function
  pub few : (f : ℕ) → f < 256 → get_or end.calls f 0 ≤ 1024 * 898
  -- after every arrival the figures are the number of different pages that have come unrefused, and the lowest number that has not
  pub figures : (m : ℕ) → m ≤ length arrivals → (first : List Outcome) (σ : Session) → Run ways start (take m arrivals) first σ
      → (σ.pages ≡ count 1024 (come ways s arrivals m)) × (σ.lowest ≡ lowest_not 1024 (come ways s arrivals m))
  -- refused exactly if what was handed in turns it down, by that number, and never by 9 or 11
  pub refused : (j : ℕ) → j < length arrivals → (e : Refusal) → answer_at answers j ≡ Refused e → TurnedDown ways s (arrival_at arrivals j) e
  pub turned : (j : ℕ) → j < length arrivals → (e : Refusal) → TurnedDown ways s (arrival_at arrivals j) e → answer_at answers j ≡ Refused e
  pub never : (j : ℕ) → j < length arrivals → (e : Refusal) → by_session e ≡ true → answer_at answers j ≡ Refused e → ⊥

-- the answer is taken
abbrev pub is_taken : Outcome → Bool
is_taken (Taken p k) = true
is_taken (Again p k) = false
is_taken (Refused e) = false

-- taken at a page's first unrefused arrival, again at each later one, with page number and digits changed
abbrev pub answer_to : Bool → ℕ → ℕ → Outcome
answer_to true number k = Again number k
answer_to false number k = Taken number k

-- ---- demand 3, of a list that fits a recording

-- two recordings have the same pages
pub record SameSheets (pages others : List Sheet) : Type 0 where
  pub there : (i : ℕ) → i < length pages → (j : ℕ) × (j < length others) × (sheet_at others j ≡ sheet_at pages i)
  pub back : (j : ℕ) → j < length others → (i : ℕ) × (i < length pages) × (sheet_at pages i ≡ sheet_at others j)

-- what such a list must show, from what `Session::fresh` gave on
pub record Demand3 (ways : Ways) (s : Shape) (pages : List Sheet) (begin : Result Session Unlawful) (arrivals : List Arrival) (answers : List Outcome) (end : Session) : Type 0 where
  -- the session was made
  pub made : begun_status begin ≡ Ok tt
  -- after every prefix the counts are those of the pages that have come unrefused so far
  pub sofar : (m : ℕ) → m ≤ length arrivals → (first : List Outcome) (σ : Session) → Run ways (begun_session begin) (take m arrivals) first σ
      → (first ≡ take m answers) × ((f : ℕ) → f < 256 → get_or σ.calls f 0 ≡ tally pages (λ p. come ways s arrivals m p.number) f)
  -- and a page of the recording has come so far exactly if an arrival so far brings it
  pub came : (m : ℕ) → m ≤ length arrivals → (i : ℕ) → i < length pages
      → (come ways s arrivals m (sheet_at pages i).number ≡ true)
      ↔ ((j : ℕ) × (j < m) × (k : ℕ) × Brings ways s (arrival_at arrivals j) (sheet_at pages i) k)
  -- at the end the counts are the recording's own
  pub whole : (f : ℕ) → f < 256 → get_or end.calls f 0 ≡ tally pages (λ p. true) f
  -- and so a count query answers
  pub counted : (f : ℕ) → f < 256 → counted_of end f ≡ Ok (tally pages (λ p. true) f)
  -- which answer an arrival that brings a page gets
  pub answer : (j : ℕ) → j < length arrivals → (i : ℕ) → i < length pages → (k : ℕ) → Brings ways s (arrival_at arrivals j) (sheet_at pages i) k
      → answer_at answers j ≡ answer_to (come ways s arrivals j (sheet_at pages i).number) (sheet_at pages i).number k
  -- taken is answered as often as the recording has pages
  pub taken : count (length answers) (λ j. is_taken (answer_at answers j)) ≡ length pages
  -- an arrival that is turned down is answered with that number, and what holds of every list holds of this one
  pub every : EveryList ways s (begun_session begin) arrivals answers end
  -- the list fits no other recording of this shape
  pub only : (others : List Sheet) → Recording s others → Fits ways s others arrivals → SameSheets pages others

-- for every recording, every list of arrivals, each by its own way, that fits it, and whatever run of them from what `Session::fresh` ensures on
abbrev pub ClaimOf : Ways → Shape → Type 0
ClaimOf ways s = (pages : List Sheet) (arrivals : List Arrival) (answers : List Outcome) (begin : Result Session Unlawful) (end : Session)
    → Recording s pages → Fits ways s pages arrivals → Beginning s begin → Run ways (begun_session begin) arrivals answers end
    → Demand3 ways s pages begin arrivals answers end

-- the one claim, of any ways of reading that are sound
abbrev pub Claim : Ways → Type 0
Claim ways = (s : Shape) → AllSound ways s → ClaimOf ways s
