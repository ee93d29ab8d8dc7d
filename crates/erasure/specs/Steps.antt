-- What the private steps of filling in establish.
use Rattle.std.specs.Prelude.{◌≡◌, Bool, false, not, ◌&&◌, List, Option, Some, None, ℕ, ◌+◌, ◌*◌, ◌<◌, ◌≤◌, eqb, ltb, length, Result, Ok, Err}
use Rattle.std.specs.Bool.{xor}
use Rattle.parity.specs.Count.{count, all}
use Rattle.parity.specs.Lists.{Begins}
use Rattle.elimination.specs.declared.Outcome.{Outcome}
use Rattle.elimination.specs.declared.Outcome.TheVariants as outcome
use Rattle.elimination.specs.Packed.{cell_of}
use Rattle.gtb.specs.declared.Shape.{Shape}
use Rattle.gtb.specs.declared.Refusal.{Refusal}
use Rattle.gtb.specs.Shape.{lawful, shape_refusal, word_length, kept_checks, scratch_length}
use Rattle.gtb.specs.Square.{line_of, at, narrow, syndrome}
use Rattle.gtb.specs.Kept.{kept_direction, kept_line}
use Rattle.gtb.specs.Answer.{unless}
use Rattle.correction.specs.Steps.{Toggled}
use Rattle.erasure.specs.Fill.{rising, FilledIn, NoWord, SeveralWords, Decision}

-- place i of the list is above place k
abbrev pub rises : List ℕ → ℕ → ℕ → Bool
rises places i k = ltb (at places k) (at places i)

-- place i is below `size` and above all before it
abbrev pub fits : ℕ → List ℕ → ℕ → Bool
fits size places i = ltb (at places i) size && all i (rises places i)

-- places below `size`, no two the same
pub record Places (size : ℕ) (places : List ℕ) : Type 0 where
  pub below : (k : ℕ) → k < length places → at places k < size
  pub once : (i k : ℕ) → i < length places → k < length places → at places i ≡ at places k → i ≡ k

-- the least number above the first i places
pub record Above (places : List ℕ) (i next : ℕ) : Type 0 where
  pub above : (k : ℕ) → k < i → at places k < next
  pub least : (x : ℕ) → ((k : ℕ) → k < i → at places k < x) → next ≤ x

-- position j is on kept check i
unfoldable pub on_kept : Shape → ℕ → ℕ → Bool
on_kept s i j = eqb (line_of s (kept_direction s i) j) (kept_line s i)

-- kept check i is the check of direction t on position j
abbrev pub is_check : Shape → ℕ → ℕ → ℕ → Bool
is_check s t j i = eqb (kept_direction s i) t && on_kept s i j

-- r is the number of that check, or none if it is not kept
abbrev pub Numbered : Shape → ℕ → ℕ → Option ℕ → Type 0
Numbered s t j (Some r) = (r < kept_checks s) × ((i : ℕ) → i < kept_checks s → eqb i r ≡ is_check s t j i)
Numbered s t j None = (i : ℕ) → i < kept_checks s → is_check s t j i ≡ false

-- a row of S values for each kept check lies in the scratch, and a place has its column there
pub record Table (s : Shape) (S p : ℕ) (scratch : List ℕ) : Type 0 where
  pub width : S ≤ 31
  pub columns : p ≤ 32 * S
  pub space : kept_checks s * S ≤ length scratch

-- of the first r rows the cells with e are toggled
pub record Flipped (S r : ℕ) (e : ℕ → ℕ → Bool) (old new : List ℕ) : Type 0 where
  pub size : length new ≡ length old
  pub cell : (i c : ℕ) → i < r → c < 32 * S → cell_of S new i c ≡ xor (cell_of S old i c) (e i c)

-- the first m values are those of the first m kept checks, in the table `syn`
abbrev pub Asked : Shape → List ℕ → ℕ → List ℕ → Type 0
Asked s syn m values = Begins 248 m (λ i. at syn (kept_direction s i * s.q + kept_line s i)) values

-- the changes that make every kept check zero are the solutions of these rows: row i has the places on kept check i, and asks for its value
pub record Posed (s : Shape) (word places : List ℕ) (S : ℕ) (scratch values : List ℕ) : Type 0 where
  pub cell : (i k : ℕ) → i < kept_checks s → k < length places → cell_of S scratch i k ≡ on_kept s i (at places k)
  pub value : (i : ℕ) → i < kept_checks s → at values i ≡ syndrome s (at word) (kept_direction s i) (kept_line s i)

-- the first k changes are XORed onto the word, each at its place, and r of them are not 0
pub record Applied (places changes : List ℕ) (k : ℕ) (old new : List ℕ) (r : ℕ) : Type 0 where
  pub word : Toggled k (at places) (at changes) old new
  pub changed : r ≡ count k (λ x. not (eqb (at changes x) 0))

-- what an elimination's answer says of the word that came
pub record Solution (s : Shape) (word places : List ℕ) (answer : Outcome) (changes : List ℕ) : Type 0 where
  pub few : answer ≡ outcome.Solved → length places ≤ 248
  pub one : answer ≡ outcome.Solved → (word' : List ℕ) (r : ℕ) → Applied places changes (length places) word word' r
      → FilledIn s word places word' (Ok r)
  pub none : answer ≡ outcome.Unsolvable → NoWord s word places word (Err Refusal.Unfillable)
  pub several : answer ≡ outcome.Ambiguous → SeveralWords s word places word (Err Refusal.Ambiguous)

-- tests 1, 18 and 2
unfoldable pub length_tests : Shape → List ℕ → List ℕ → Result (Unit {0}) Refusal
length_tests s word scratch =
    unless (lawful s) (Err (shape_refusal s)) (unless (eqb (length word) (word_length s) && eqb (length scratch) (scratch_length s)) (Err Refusal.Length) (Ok tt))

-- tests 3 and 12
unfoldable pub value_tests : Shape → List ℕ → List ℕ → Result (Unit {0}) Refusal
value_tests s word places = unless (narrow s.b word) (Err Refusal.Width) (unless (rising (word_length s) places) (Err Refusal.Places) (Ok tt))

-- those, then the work
pub record LateTests (Decided : Type 0) (s : Shape) (word places word' : List ℕ) (r : Result ℕ Refusal) : Type 0 where
  pub tested : (e : Refusal) → value_tests s word places ≡ Err e → (r ≡ Err e) × (word' ≡ word)
  pub decided : value_tests s word places ≡ Ok tt → Decided

abbrev pub PlacesTested : Shape → List ℕ → List ℕ → List ℕ → Result ℕ Refusal → Type 0
PlacesTested s word places word' r = LateTests (Decision s word places word' r) s word places word' r
