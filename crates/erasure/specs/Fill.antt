-- Filling in the symbols at places that are named as gone: erasures (RULES 3; request N2).
use Rattle.std.specs.Prelude.{◌≡◌, Bool, false, ◌&&◌, List, ◌⊎◌, ℕ, ◌+◌, ◌^◌, ◌<◌, eqb, ltb, length, replicate, Result, Ok, Err}
use Rattle.parity.specs.Count.{any, all}
use Rattle.gtb.specs.declared.Shape.{Shape}
use Rattle.gtb.specs.declared.Refusal.{Refusal}
use Rattle.gtb.specs.Shape.{lawful, shape_refusal, word_length, scratch_length}
use Rattle.gtb.specs.Square.{at, narrow, Codeword}
use Rattle.gtb.specs.Answer.{refusal_number, unless, scratch_after, answer_number}
use Rattle.distance.specs.Distance.{differences}

-- the position is in the list
unfoldable pub is_listed : List ℕ → ℕ → Bool
is_listed places j = any (length places) (λ i. eqb (at places i) j)

-- test 12: each place is a position of the word, and above all before it
unfoldable pub rising : ℕ → List ℕ → Bool
rising size places = all (length places) (λ i. ltb (at places i) size && all i (λ k. ltb (at places k) (at places i)))

-- tests 1, 18, 2, 3, 12
unfoldable pub fill_status : Shape → List ℕ → List ℕ → List ℕ → Result (Unit {0}) Refusal
fill_status s word places scratch =
    unless (lawful s) (Err (shape_refusal s))
    (unless (eqb (length word) (word_length s) && eqb (length scratch) (scratch_length s)) (Err Refusal.Length)
    (unless (narrow s.b word) (Err Refusal.Width)
    (unless (rising (word_length s) places) (Err Refusal.Places) (Ok tt))))

-- v is a codeword, and the word that came at every position that is not listed
pub record Agrees (s : Shape) (word places v : List ℕ) : Type 0 where
  pub codeword : Codeword s v
  pub same : (j : ℕ) → j < word_length s → is_listed places j ≡ false → at v j ≡ at word j

-- one codeword agrees, and no more: it stands in the lent word, and the answer is at how many positions it is not what came
pub record FilledIn (s : Shape) (word places word' : List ℕ) (r : Result ℕ Refusal) : Type 0 where
  pub agrees : Agrees s word places word'
  pub only : (v : List ℕ) → Agrees s word places v → v ≡ word'
  pub answer : r ≡ Ok (differences s word' word)
  pub number : answer_number r ≡ differences s word' word

-- none agrees: 13
pub record NoWord (s : Shape) (word places word' : List ℕ) (r : Result ℕ Refusal) : Type 0 where
  pub none : (v : List ℕ) → Agrees s word places v → ⊥
  pub answer : r ≡ Err Refusal.Unfillable
  pub number : answer_number r ≡ 2 ^ 31 + 13
  pub left : word' ≡ word

-- more than one agrees: 14
pub record SeveralWords (s : Shape) (word places word' : List ℕ) (r : Result ℕ Refusal) : Type 0 where
  pub one : List ℕ
  pub another : List ℕ
  pub agrees : Agrees s word places one
  pub agrees_too : Agrees s word places another
  pub different : one ≡ another → ⊥
  pub answer : r ≡ Err Refusal.Ambiguous
  pub number : answer_number r ≡ 2 ^ 31 + 14
  pub left : word' ≡ word

-- one of the three
abbrev pub Decision : Shape → List ℕ → List ℕ → List ℕ → Result ℕ Refusal → Type 0
Decision s word places word' r = FilledIn s word places word' r ⊎ (NoWord s word places word' r ⊎ SeveralWords s word places word' r)

-- what an entry answers and leaves that is lent a word, places and a scratch: a test refuses, and the word is as it came; or none does, and the rest is decided
pub record TestedFirst (Decided : Type 0) (s : Shape) (word places scratch word' scratch' : List ℕ) (r : Result ℕ Refusal) : Type 0 where
  pub tested : (e : Refusal) → fill_status s word places scratch ≡ Err e
      → (r ≡ Err e) × (answer_number r ≡ 2 ^ 31 + refusal_number e) × (word' ≡ word) × (scratch' ≡ scratch_after e scratch)
  pub decided : fill_status s word places scratch ≡ Ok tt → Decided × (scratch' ≡ replicate (length scratch) 0)

-- what filling in answers and leaves
abbrev pub Filling : Shape → List ℕ → List ℕ → List ℕ → List ℕ → List ℕ → Result ℕ Refusal → Type 0
Filling s word places scratch word' scratch' r = TestedFirst (Decision s word places word' r) s word places scratch word' scratch' r

-- a codeword with one symbol changed, at a position that is not listed, which filling in answers with 13
pub record Spoiled (s : Shape) (places : List ℕ) : Type 0 where
  pub word : List ℕ
  pub stored : List ℕ
  pub codeword : Codeword s stored
  pub changed : differences s stored word ≡ 1
  pub passes : (scratch : List ℕ) → length scratch ≡ scratch_length s → fill_status s word places scratch ≡ Ok tt
  pub gets : (scratch word' scratch' : List ℕ) (r : Result ℕ Refusal) → length scratch ≡ scratch_length s → Filling s word places scratch word' scratch' r
      → r ≡ Err Refusal.Unfillable
