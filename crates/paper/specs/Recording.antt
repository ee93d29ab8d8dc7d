-- A recording, the arrivals that fit it, and demand 3 (RULES 5, 12).
use Rattle.std.specs.Prelude.{◌≡◌, Bool, true, cond, List, [], ◌∷◌, ◌⊎◌, ◌↔◌, ◌≢◌, ℕ, zero, suc, ◌-◌, ◌/◌, ◌<◌, ◌≤◌, eqb, length, get_or}
use Rattle.parity.specs.Count.{sum, count}
use Rattle.paper.specs.Answers.{Test, Judged, at}
use Rattle.paper.specs.Square.{Shape, InLists, WrongSlopes}
use Rattle.paper.specs.Writing.{DataDigits, scratch_length}
use Rattle.paper.specs.Reading.{Clean, nonzero, Damaged, Read}
use Rattle.paper.specs.Page.{contents, Page, writable}
use Rattle.paper.specs.Session.{Session, Arrival, Lowest, WrongFigures, marks_for, Beginning, word_tests, Arriving}

-- a page: its number and its marks
pub record Sheet : Type 0 where
  pub number : ℕ
  pub marks : List ℕ

-- page i of a list, arrival j of a list
abbrev pub sheet_at : List Sheet → ℕ → Sheet
sheet_at pages i = get_or pages i (record { number = 0; marks = [] })

abbrev pub arrival_at : List Arrival → ℕ → Arrival
arrival_at arrivals j = get_or arrivals j (record { way = 0; word = []; scratch = [] })

-- pages with different numbers that the page writer accepts, of a shape that a fresh session accepts
pub record Recording (s : Shape) (pages : List Sheet) : Type 0 where
  pub shape : InLists s
  pub slopes : ¬ WrongSlopes s
  pub accepted : (i : ℕ) → i < length pages → Judged (writable s (sheet_at pages i).number (sheet_at pages i).marks) (λ k. ⊥) (Unit {0})
  pub different : (i j : ℕ) → i < length pages → j < length pages → (sheet_at pages i).number ≡ (sheet_at pages j).number → i ≡ j

-- the tally of some of its pages: for function f the number of marks for it
unfoldable pub tally_of : List Sheet → (ℕ → Bool) → ℕ → ℕ
tally_of pages some f = sum (length pages) (λ i. cond (some i) (marks_for f (sheet_at pages i).marks) 0)

-- the damage that a way allows
abbrev pub Allowed : Shape → ℕ → List ℕ → Type 0
Allowed s zero damage = Clean s damage × (nonzero s damage ≤ s.n - 1)
Allowed s (suc zero) damage = nonzero s damage ≤ s.n / 2
Allowed s (suc (suc way)) damage = (3 ≤ s.n) × (nonzero s damage ≤ 2)

-- an arrival is this page with damage to k digits
pub record Brings (s : Shape) (arrival : Arrival) (page : Sheet) (k : ℕ) : Type 0 where
  pub known : arrival.way ≤ 2
  pub v : List ℕ
  pub digits : List ℕ
  pub has : DataDigits s v digits
  pub are : Page s page.number page.marks digits
  pub damage : List ℕ
  pub damaged : Damaged s arrival.word v damage
  pub allowed : Allowed s arrival.way damage
  pub number : nonzero s damage ≡ k
  pub scratch : length arrival.scratch ≡ scratch_length s

-- page i has come among the first m arrivals
abbrev pub Came : Shape → List Sheet → List Arrival → ℕ → ℕ → Type 0
Came s pages arrivals m i = (j : ℕ) × (j < m) × (k : ℕ) × Brings s (arrival_at arrivals j) (sheet_at pages i) k

-- ---- refused by what was handed in beside the session, with number k
abbrev pub beside_tests : Shape → Arrival → List Test
beside_tests s a = (1, 2 < a.way) ∷ (1, ¬ InLists s) ∷ (18, WrongSlopes s) ∷ word_tests s a

abbrev pub TurnedDown : Shape → Arrival → ℕ → Type 0
TurnedDown s a k =
    Judged (beside_tests s a) (λ e. k ≡ e)
    ((v digits : List ℕ) × Read s a.way a.word v × DataDigits s v digits × Judged (contents s digits) (λ e. k ≡ e) ⊥)

-- each arrival is refused or a page of the recording with damage, and each page comes at least once
pub record Fits (s : Shape) (pages : List Sheet) (arrivals : List Arrival) : Type 0 where
  pub each : (j : ℕ) → j < length arrivals
      → ((k : ℕ) × TurnedDown s (arrival_at arrivals j) k) ⊎ ((i : ℕ) × (i < length pages) × (k : ℕ) × Brings s (arrival_at arrivals j) (sheet_at pages i) k)
  pub every : (i : ℕ) → i < length pages → Came s pages arrivals (length arrivals) i

-- ---- what comes of a list

-- session m is what the first m arrivals left of a fresh one, answer j what arrival j got
pub record Run (s : Shape) (arrivals : List Arrival) (session : ℕ → Session) (answer : ℕ → List ℕ) : Type 0 where
  pub first : Beginning s (session 0) 0
  pub next : (j : ℕ) → j < length arrivals → (word' scratch' : List ℕ)
      × Arriving (session j) (arrival_at arrivals j) (record { session = session (suc j); word = word'; scratch = scratch'; answer = answer j })

-- of every list, whether it fits a recording or not
pub record EveryList (s : Shape) (arrivals : List Arrival) (session : ℕ → Session) (answer : ℕ → List ℕ) : Type 0 where
  pub shape : (m : ℕ) → m ≤ length arrivals → (session m).shape ≡ s
  pub figures : (m : ℕ) → m ≤ length arrivals → ¬ WrongFigures (session m)
  pub refused : (j k : ℕ) → j < length arrivals → (answer j ≡ 2 ∷ k ∷ 0 ∷ []) ↔ TurnedDown s (arrival_at arrivals j) k
  pub kept : (j k : ℕ) → j < length arrivals → TurnedDown s (arrival_at arrivals j) k → session (suc j) ≡ session j
  pub never : (j : ℕ) → j < length arrivals → (answer j ≢ 2 ∷ 9 ∷ 0 ∷ []) × (answer j ≢ 2 ∷ 11 ∷ 0 ∷ [])

-- two recordings have the same pages
pub record Same (pages others : List Sheet) : Type 0 where
  pub there : (i : ℕ) → i < length pages → (j : ℕ) × (j < length others) × (sheet_at others j ≡ sheet_at pages i)
  pub back : (j : ℕ) → j < length others → (i : ℕ) × (i < length pages) × (sheet_at pages i ≡ sheet_at others j)

-- of a list that fits this recording
pub record Demand3 (s : Shape) (pages : List Sheet) (arrivals : List Arrival) (session : ℕ → Session) (answer : ℕ → List ℕ) : Type 0 where
  -- at the end the counts are the recording's own tally, and on the way that of the pages that have come
  pub whole : (f : ℕ) → f < 256 → at (session (length arrivals)).calls f ≡ tally_of pages (λ i. true) f
  pub sofar : (m : ℕ) → m ≤ length arrivals → (come : ℕ → Bool)
      × ((i : ℕ) → i < length pages → (come i ≡ true) ↔ Came s pages arrivals m i)
      × ((f : ℕ) → f < 256 → at (session m).calls f ≡ tally_of pages come f)
  -- the figures are how many page numbers have come, and the lowest that has not (N1)
  pub progress : (m : ℕ) → m ≤ length arrivals → (come : ℕ → Bool)
      × ((p : ℕ) → p < 1024 → (come p ≡ true) ↔ ((i : ℕ) × (i < length pages) × ((sheet_at pages i).number ≡ p) × Came s pages arrivals m i))
      × ((session m).pages ≡ count 1024 come) × Lowest come (session m).lowest
  -- a page is taken when it first comes, and comes again from then on
  pub taken : (j i k : ℕ) → j < length arrivals → i < length pages → Brings s (arrival_at arrivals j) (sheet_at pages i) k → ¬ Came s pages arrivals j i
      → answer j ≡ 0 ∷ (sheet_at pages i).number ∷ k ∷ []
  pub again : (j i k : ℕ) → j < length arrivals → i < length pages → Brings s (arrival_at arrivals j) (sheet_at pages i) k → Came s pages arrivals j i
      → answer j ≡ 1 ∷ (sheet_at pages i).number ∷ k ∷ []
  pub often : count (length arrivals) (λ j. eqb (at (answer j) 0) 0) ≡ length pages
  -- the list fits no other recording
  pub only : (others : List Sheet) → Recording s others → Fits s others arrivals → Same pages others
