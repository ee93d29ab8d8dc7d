-- What the shared steps of reading establish. They see the syndromes in their table alone: check t × q + L at that place.
use Rattle.std.specs.Prelude.{◌≡◌, Bool, true, false, ◌&&◌, List, ℕ, ◌+◌, ◌*◌, ◌%◌, ◌<◌, ◌≤◌, eqb, length, Result, Ok, Err, Option, Some, None}
use Rattle.parity.specs.Xor.{◌⊕◌, xor_sum, when}
use Rattle.parity.specs.Count.{count, any, all}
use Rattle.gtb.specs.declared.Shape.{Shape}
use Rattle.gtb.specs.declared.Refusal.{Refusal}
use Rattle.gtb.specs.Shape.{lawful, shape_refusal, word_length, slope_of}
use Rattle.gtb.specs.Square.{line_of, at, Word, Syndromes}
use Rattle.gtb.specs.Answer.{unless}
use Rattle.gtb.specs.Lent.{word_status}
use Rattle.correction.specs.Answer.{decoded_word}
use Rattle.correction.specs.Error.{check_of, mended}
use Rattle.correction.specs.Reading.{Reader, changes_by, restored_by, accepted_by}

-- tests 1, 18, 16, 2, 3
unfoldable pub tests_of : Shape → Bool → List ℕ → Result (Unit {0}) Refusal
tests_of s suits w = unless (lawful s) (Err (shape_refusal s)) (unless suits (Err Refusal.Directions) (word_status s w))

-- past them: the reader's own test, the answer and the word
pub record Corrects (reader : Reader) (s : Shape) (w w' : List ℕ) (r : Result ℕ Refusal) : Type 0 where
  pub answer : r ≡ unless (accepted_by reader s w) (Err reader.refusal) (Ok (changes_by reader s w))
  pub word : w' ≡ decoded_word w (restored_by reader s w) r

-- `on_check` by the table
abbrev pub check_in : Shape → List ℕ → ℕ → ℕ → ℕ
check_in s syn j t = at syn (check_of s j t)

-- every check is silent
abbrev pub quiet : Shape → List ℕ → Bool
quiet s syn = all (s.n * s.q) (λ e. eqb (at syn e) 0)

-- the first k of 8 places are positions of the word
pub record Within (s : Shape) (k : ℕ) (places : List ℕ) : Type 0 where
  pub few : k ≤ 8
  pub below : (x : ℕ) → x < k → at places x < word_length s

-- k places with an error each are the error that a function gives: to XOR over either is the same
pub record Lists (s : Shape) (error : ℕ → ℕ) (k : ℕ) (places errors : List ℕ) : Type 0 where
  pub sums : (g : ℕ → Bool) → xor_sum (word_length s) (λ j. when (g j) (error j)) ≡ xor_sum k (λ x. when (g (at places x)) (at errors x))

-- these corrections taken off the word: it is mended by the error that they are
pub record Mends (s : Shape) (k : ℕ) (places errors w w' : List ℕ) : Type 0 where
  pub mends : (error : ℕ → ℕ) → Lists s error k places errors → w' ≡ mended s w error

-- the reader accepts the word, and these corrections restore it
pub record Corrections (reader : Reader) (s : Shape) (w : List ℕ) (k : ℕ) (places errors : List ℕ) : Type 0 where
  pub error : ℕ → ℕ
  pub listed : Lists s error k places errors
  pub accepted : accepted_by reader s w ≡ true
  pub changed : changes_by reader s w ≡ k
  pub word : restored_by reader s w ≡ mended s w error

-- what is found from the syndromes of a word: its corrections; or none, if there are none that are accepted, or if not all was looked at
pub record Found (reader : Reader) (s : Shape) (whole : Bool) (syn places errors : List ℕ) (r : Option ℕ) : Type 0 where
  pub within : (k : ℕ) → r ≡ Some k → Within s k places
  pub few : (k : ℕ) → r ≡ Some k → (w : List ℕ) → Word s w → Syndromes s w syn → Corrections reader s w k places errors
  pub many : whole ≡ true → r ≡ None → (w : List ℕ) → Word s w → Syndromes s w syn → accepted_by reader s w ≡ false

-- new is old with value x XORed onto the entry at place x, for each x below k
pub record Toggled (k : ℕ) (place value : ℕ → ℕ) (old new : List ℕ) : Type 0 where
  pub size : length new ≡ length old
  pub entry : (e : ℕ) → at new e ≡ at old e ⊕ xor_sum k (λ x. when (eqb (place x) e) (value x))

-- the table with the first k errors XORed onto the checks on their places
pub record Cancelled (s : Shape) (k : ℕ) (places errors old new : List ℕ) : Type 0 where
  pub size : length new ≡ 248
  pub entry : (t L : ℕ) → t < s.n → L < s.q
      → at new (t * s.q + L) ≡ at old (t * s.q + L) ⊕ xor_sum k (λ x. when (eqb (line_of s t (at places x)) L) (at errors x))

-- a row in the directions 1 .. m - 1: column c is on line c + shift modulo q
pub record Shifts (s : Shape) (row m : ℕ) (shifts : List ℕ) : Type 0 where
  pub size : length shifts ≡ 8
  pub shift : (t : ℕ) → t < m → 1 ≤ t → at shifts t ≡ slope_of s t * row % s.q

-- the first k places are the numbers below m that pass p: to XOR or to look for something over either is the same
pub record Listed (p : ℕ → Bool) (m k : ℕ) (places : List ℕ) : Type 0 where
  pub size : length places ≡ 8
  pub counted : count m p ≡ k
  pub below : (x : ℕ) → x < k → at places x < m
  pub sums : (f : ℕ → ℕ) → xor_sum m (λ j. when (p j) (f j)) ≡ xor_sum k (λ x. f (at places x))
  pub finds : (r : ℕ → Bool) → any m (λ j. p j && r j) ≡ any k (λ x. r (at places x))

-- a search below m that gives up at n: the list, which is shorter than n; or there are n or more
pub record Scanned (p : ℕ → Bool) (n m : ℕ) (r : Option ℕ) (places : List ℕ) : Type 0 where
  pub few : (k : ℕ) → r ≡ Some k → (k < n) × Listed p m k places
  pub many : r ≡ None → n ≤ count m p
