-- What crosses to C (RULES 7.3).
use Rattle.std.specs.Prelude.{◌≡◌, not, List, [], ◌∷◌, ◌++◌, map, ◌⊎◌, ◌≢◌, ℕ, ◌+◌, ◌*◌, ◌<◌, ◌≤◌, eqb, length, take, drop}
use Rattle.paper.specs.Answers.{Judged, refusal, at}
use Rattle.paper.specs.Square.{Shape, InLists, N}
use Rattle.paper.specs.Writing.{K}
use Rattle.paper.specs.Reading.{Reading}
use Rattle.paper.specs.Page.{PageReading, Marks}
use Rattle.paper.specs.Session.{Session, fresh, fresh_tests, Arrival, Arriving}
use Rattle.paper.specs.Bundle.{Delivered, Bundling, arrivals_from}

-- ---- the pair over bytes: the shape is three numbers, with the slopes 0, 1, 2, ..

-- four bytes a digit, low byte first
pub record Bytes (digits bytes : List ℕ) : Type 0 where
  pub size : length bytes ≡ 4 * length digits
  pub each : (j : ℕ) → j < length digits
      → at digits j ≡ at bytes (4 * j) + 256 * at bytes (4 * j + 1) + 65536 * at bytes (4 * j + 2) + 16777216 * at bytes (4 * j + 3)

abbrev pub ReadingBytes : Shape → List ℕ → List ℕ → ℕ → Type 0
ReadingBytes s bytes bytes' answer =
    Judged ((1, ¬ InLists s) ∷ (2, length bytes ≢ 4 * N s) ∷ [])
    (λ k. (answer ≡ refusal k) × (bytes' ≡ bytes))
    ((word word' : List ℕ) × Bytes word bytes × Bytes word' bytes' × Reading s 0 word word' answer)

abbrev pub PageBytes : Shape → List ℕ → ℕ → Type 0
PageBytes s bytes answer =
    Judged ((1, ¬ InLists s) ∷ (2, length bytes ≢ 4 * K s) ∷ [])
    (λ k. answer ≡ refusal k)
    ((digits : List ℕ) × Bytes digits bytes × PageReading s digits answer)

-- ---- every other entry is over u32 values

-- a shape is ten
abbrev pub shape_in : List ℕ → Shape
shape_in values = record { q = at values 0; n = at values 1; b = at values 2; slopes = drop 3 values }

-- a session is 1,292: shape, pages taken, lowest page not taken, page marks, of which any but 0 is yes, and counts
abbrev pub session_in : List ℕ → Session
session_in values = record {
  shape = shape_in (take 10 values);
  taken = map (λ x. not (eqb x 0)) (take 1024 (drop 12 values));
  calls = drop 1036 values;
  pages = at values 10;
  lowest = at values 11;
}

-- a session as it is written: its marks are 0 and 1
pub record Written (session : Session) (values : List ℕ) : Type 0 where
  pub size : length values ≡ 1292
  pub same : session_in values ≡ session
  pub marks : (p : ℕ) → p < 1024 → at values (12 + p) ≤ 1

-- a length of a shape is 0 where the shape is refused
abbrev pub LengthOf : (Shape → ℕ) → Shape → ℕ → Type 0
LengthOf size s answer = Judged (fresh_tests s) (λ k. answer ≡ 0) (answer ≡ size s)

-- the marks are copied to the front of a list as long as the digits
abbrev pub MarksCopied : Shape → List ℕ → List ℕ → List ℕ → ℕ → Type 0
MarksCopied s digits list list' answer =
    Judged ((2, length list ≢ length digits) ∷ [])
    (λ k. (answer ≡ refusal k) × (list' ≡ list))
    ((marks : List ℕ) × Marks s digits marks × (answer ≡ length marks) × (list' ≡ marks ++ drop (length marks) list))

abbrev pub FreshValues : Shape → List ℕ → List ℕ → ℕ → Type 0
FreshValues s values values' answer = Judged (fresh_tests s) (λ k. (answer ≡ refusal k) × (values' ≡ values)) ((answer ≡ 0) × Written (fresh s) values')

-- a session is written only after a page was taken
abbrev pub Returned : List ℕ → Session → List ℕ → Type 0
Returned values session' values' =
    ((session'.pages ≡ at values 10) × (session' ≡ session_in values) × (values' ≡ values)) ⊎ ((session'.pages ≢ at values 10) × Written session' values')

-- an arrival answers 0; what became of it is the outcome
abbrev pub ArrivingValues : List ℕ → Arrival → List ℕ → List ℕ → List ℕ → List ℕ → ℕ → Type 0
ArrivingValues values a values' word' scratch' outcome' answer =
    (session' : Session) × Arriving (session_in values) a (record { session = session'; word = word'; scratch = scratch'; answer = outcome' })
    × Returned values session' values' × (answer ≡ 0)

abbrev pub BundlingValues : List ℕ → ℕ → List ℕ → List ℕ → List ℕ → List ℕ → List ℕ → List ℕ → List ℕ → ℕ → Type 0
BundlingValues values way words scratch outcomes values' words' scratch' outcomes' answer =
    (session' : Session) × Bundling (session_in values) way words scratch outcomes session' words' scratch' outcomes' answer
    × Returned values session' values'

-- calls one after the other, each on the values that the last one left: the words that arrived, and the values of their outcomes;
-- a bundle that is refused whole leaves the values as they were and brings none
pub data Calls : List ℕ → List Arrival → List ℕ → List ℕ → Type 0 where
  none : {values : List ℕ} → Calls values [] [] values
  word : {values values' end word' scratch' outcome' later : List ℕ} {a : Arrival} {rest : List Arrival} {answer : ℕ}
      → ArrivingValues values a values' word' scratch' outcome' answer → Calls values' rest later end
      → Calls values (a ∷ rest) (outcome' ++ later) end
  bundle : {values values' end words scratch words' scratch' outcomes' later : List ℕ} {way : ℕ} {session' : Session} {rest : List Arrival}
      → (d : Delivered (session_in values) way words scratch session' words' scratch' outcomes') → Returned values session' values' → Calls values' rest later end
      → Calls values (arrivals_from (session_in values).shape way words scratch 0 d.number ++ rest) (take (3 * d.number) outcomes' ++ later) end
