-- A recording, and the arrivals that fit it (RULES 5).
use Rattle.std.specs.Prelude.{◌≡◌, ◌⊎◌, Bool, true, cond, List, [], ℕ, ◌<◌, length, get_or, Ok}
use Rattle.parity.specs.Count.{sum}
use Rattle.gtb.specs.declared.Shape.{Shape}
use Rattle.gtb.specs.declared.Refusal.{Refusal}
use Rattle.gtb.specs.Shape.{Lawful, scratch_length}
use Rattle.gtb.specs.Square.{at, Word}
use Rattle.gtb.specs.Positions.{Encodes}
use Rattle.correction.specs.Error.{weight, damaged}
use Rattle.page.specs.Page.{write_status, page_symbols}
use Rattle.session.specs.Session.{count_of}
use Rattle.session.specs.Arrival.{Ways, Opened, Bad, opened}

-- ---- recordings

-- a page: its number and its marks
pub record Sheet : Type 0 where
  pub number : ℕ
  pub marks : List ℕ

-- stands where a list has no page
abbrev pub blank : Sheet
blank = record { number = 0; marks = [] }

-- page i
abbrev pub sheet_at : List Sheet → ℕ → Sheet
sheet_at pages i = get_or pages i blank

-- its information symbols
abbrev pub symbols_of : Shape → Sheet → List ℕ
symbols_of s p = page_symbols s p.number p.marks

-- pages with different numbers, of a shape that a fresh session can be made from, each one that the page writer accepts
pub record Recording (s : Shape) (pages : List Sheet) : Type 0 where
  pub lawful : Lawful s
  -- the writer's test 2 is about the length of the lent list: the page's own symbols have length K, so that the tests on page and marks alone decide
  pub accepted : (i : ℕ) → i < length pages → write_status s (sheet_at pages i).number (sheet_at pages i).marks (symbols_of s (sheet_at pages i)) ≡ Ok tt
  pub different : (i j : ℕ) → i < length pages → j < length pages → (sheet_at pages i).number ≡ (sheet_at pages j).number → i ≡ j

-- the tally of those of the pages that pass a test: for function f the number of marks for it
unfoldable pub tally : List Sheet → (Sheet → Bool) → ℕ → ℕ
tally pages some f = sum (length pages) (λ i. cond (some (sheet_at pages i)) (count_of f (sheet_at pages i).marks) 0)

-- ---- arrivals

-- the way that the caller names, and what it lends
pub record Arrival : Type 0 where
  pub way : ℕ
  pub word : List ℕ
  pub scratch : List ℕ

-- stands where a list has no arrival
abbrev pub nothing : Arrival
nothing = record { way = 0; word = []; scratch = [] }

-- arrival j
abbrev pub arrival_at : List Arrival → ℕ → Arrival
arrival_at arrivals j = get_or arrivals j nothing

-- what arrival j brings
abbrev pub opened_at : Ways → Shape → List Arrival → ℕ → Opened
opened_at ways s arrivals j = opened ways s (arrival_at arrivals j).way (arrival_at arrivals j).word (arrival_at arrivals j).scratch

-- turned down by what was handed in alone
pub record TurnedDown (ways : Ways) (s : Shape) (a : Arrival) (e : Refusal) : Type 0 where
  pub by : opened ways s a.way a.word a.scratch ≡ Bad e

-- by a way that there is: the stored word with the page's data digits, damage to k digits XORed on that this way allows, and a scratch of the right length
pub record Brings (ways : Ways) (s : Shape) (a : Arrival) (p : Sheet) (k : ℕ) : Type 0 where
  pub known : ways.known a.way ≡ true
  pub stored : List ℕ
  pub encodes : Encodes s (symbols_of s p) stored
  pub error : List ℕ
  pub damage : Word s error
  pub allowed : (ways.named a.way).Allowed s (at error)
  pub changed : weight s (at error) ≡ k
  pub word : a.word ≡ damaged stored error
  pub scratch : length a.scratch ≡ scratch_length s

-- each arrival is turned down or brings a page of the recording, and each page comes at least once
pub record Fits (ways : Ways) (s : Shape) (pages : List Sheet) (arrivals : List Arrival) : Type 0 where
  pub each : (j : ℕ) → j < length arrivals
      → ((e : Refusal) × TurnedDown ways s (arrival_at arrivals j) e)
      ⊎ ((i : ℕ) × (i < length pages) × (k : ℕ) × Brings ways s (arrival_at arrivals j) (sheet_at pages i) k)
  pub every : (i : ℕ) → i < length pages → (j : ℕ) × (j < length arrivals) × (k : ℕ) × Brings ways s (arrival_at arrivals j) (sheet_at pages i) k
