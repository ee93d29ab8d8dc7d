-- A way of reading: one equation and one contract for all of them (RULES 3).
use Rattle.std.specs.Prelude.{◌≡◌, Bool, ◌&&◌, List, ℕ, eqb, leb, length, Result, Ok, Err}
use Rattle.parity.specs.Count.{count}
use Rattle.gtb.specs.declared.Shape.{Shape}
use Rattle.gtb.specs.declared.Refusal.{Refusal}
use Rattle.gtb.specs.Shape.{lawful, shape_refusal, word_length}
use Rattle.gtb.specs.Square.{at, narrow, silent_test}
use Rattle.gtb.specs.Answer.{unless}
use Rattle.correction.specs.Error.{mended}
use Rattle.correction.specs.Answer.{decoded_word}

-- which positions it changes and by what, from the symbols of a word; how many it may change; its answer where that leaves no codeword;
-- and test 16: the shapes that it can be used with
pub record Reader : Type 0 where
  pub found : Shape → (ℕ → ℕ) → ℕ → Bool
  pub change : Shape → (ℕ → ℕ) → ℕ → ℕ
  pub bound : Shape → ℕ
  pub refusal : Refusal
  pub suits : Shape → Bool

-- how many positions change
unfoldable pub changes_by : Reader → Shape → List ℕ → ℕ
changes_by reader s w = count (word_length s) (reader.found s (at w))

-- the word with these changes
unfoldable pub restored_by : Reader → Shape → List ℕ → List ℕ
restored_by reader s w = mended s w (reader.change s (at w))

-- they are few enough, and every syndrome of the word with them is zero
unfoldable pub accepted_by : Reader → Shape → List ℕ → Bool
accepted_by reader s w = leb (changes_by reader s w) (reader.bound s) && silent_test s (at (restored_by reader s w))

-- tests 1, 18, 16, 2, 3, then the reader's own
unfoldable pub read_of : Reader → Shape → List ℕ → Result ℕ Refusal
read_of reader s w =
    unless (lawful s) (Err (shape_refusal s))
    (unless (reader.suits s) (Err Refusal.Directions)
    (unless (eqb (length w) (word_length s)) (Err Refusal.Length)
    (unless (narrow s.b w) (Err Refusal.Width)
    (unless (accepted_by reader s w) (Err reader.refusal) (Ok (changes_by reader s w))))))

-- what an answer may mean: of the word that came, the word given and the number of symbols changed
abbrev pub Meaning : Type 1
Meaning = Shape → List ℕ → List ℕ → ℕ → Type 0

-- reading: the answer and the word by equation, and what they mean; the reader's own refusal means that there is no such codeword
pub record Reads (reader : Reader) (Means : Meaning) (s : Shape) (w w' : List ℕ) (r : Result ℕ Refusal) : Type 0 where
  pub answer : r ≡ read_of reader s w
  pub word : w' ≡ decoded_word w (restored_by reader s w) r
  pub accepted : (k : ℕ) → r ≡ Ok k → Means s w w' k
  pub none : r ≡ Err reader.refusal → (v : List ℕ) (k : ℕ) → Means s w v k → ⊥
