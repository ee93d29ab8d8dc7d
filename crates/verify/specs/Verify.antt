-- Checking a proposal (RULES 3.4): the word that somebody else restored, against the word that was received.
use Rattle.std.specs.Prelude.{◌≡◌, Bool, not, ◌&&◌, ◌||◌, List, ℕ, ◌+◌, ◌-◌, ◌^◌, eqb, leb, length, Result, Ok, Err, true, false}
use Rattle.parity.specs.Xor.{◌⊕◌}
use Rattle.parity.specs.Count.{all}
use Rattle.gtb.specs.declared.Shape.{Shape}
use Rattle.gtb.specs.declared.Refusal.{Refusal}
use Rattle.gtb.specs.Shape.{lawful, shape_refusal, word_length}
use Rattle.gtb.specs.Square.{line_of, at, narrow, syndrome, silent_test}
use Rattle.gtb.specs.Answer.{refusal_number, unless}
use Rattle.correction.specs.Error.{weight}
use Rattle.decoder.specs.Damage.{Explains}

-- the symbols where two words differ, as an error
abbrev pub difference : List ℕ → List ℕ → ℕ → ℕ
difference w v j = at w j ⊕ at v j

-- clean damage as a test: every check with a nonzero error symbol on it has a nonzero syndrome of the error
unfoldable pub unmasked_test : Shape → (ℕ → ℕ) → Bool
unmasked_test s e = all s.n (λ t. all (word_length s) (λ j. eqb (e j) 0 || not (eqb (syndrome s e t (line_of s t j)) 0)))

-- the proposal is a codeword, and unmasked damage to at most n - 1 symbols makes the received word of it
unfoldable pub restores : Shape → List ℕ → List ℕ → Bool
restores s w v = silent_test s (at v) && leb (weight s (difference w v)) (s.n - 1) && unmasked_test s (difference w v)

-- tests 1, 18, 2, 3 over both, then yes or no
unfoldable pub verdict_of : Shape → List ℕ → List ℕ → Result Bool Refusal
verdict_of s w v =
    unless (lawful s) (Err (shape_refusal s))
    (unless (eqb (length w) (word_length s) && eqb (length v) (word_length s)) (Err Refusal.Length)
    (unless (narrow s.b w && narrow s.b v) (Err Refusal.Width)
    (Ok (restores s w v))))

-- as one number: 1 yes, 0 no, or 2^31 plus the refusal's
abbrev pub verdict_number : Result Bool Refusal → ℕ
verdict_number (Ok true) = 1
verdict_number (Ok false) = 0
verdict_number (Err e) = 2 ^ 31 + refusal_number e

-- a proposal checked: the answer by equation, and what it means
pub record Checking (s : Shape) (w v : List ℕ) (r : Result Bool Refusal) : Type 0 where
  pub answer : r ≡ verdict_of s w v
  pub yes : r ≡ Ok true → (k : ℕ) × Explains s w v k
  pub no : r ≡ Ok false → (k : ℕ) → Explains s w v k → ⊥
