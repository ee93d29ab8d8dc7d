-- How far codewords are apart, and how many erasures that allows.
use Rattle.std.specs.Prelude.{◌≡◌, Bool, false, not, List, ℕ, ◌*◌, ◌<◌, ◌≤◌, eqb}
use Rattle.parity.specs.Count.{count}
use Rattle.gtb.specs.declared.Shape.{Shape}
use Rattle.gtb.specs.Shape.{word_length}
use Rattle.gtb.specs.Square.{at, Word, Codeword}

-- at how many places two words of the shape differ
unfoldable pub differences : Shape → List ℕ → List ℕ → ℕ
differences s v w = count (word_length s) (λ j. not (eqb (at v j) (at w j)))

-- so far apart are different codewords at least: twice the number of directions
unfoldable pub minimum_distance : ℕ → ℕ
minimum_distance n = 2 * n

-- different codewords of a shape are that far apart
pub record Distance (s : Shape) : Type 0 where
  pub least : (v w : List ℕ) → Codeword s v → Codeword s w → (v ≡ w → ⊥) → minimum_distance s.n ≤ differences s v w

-- two codewords of the shape that differ at exactly k places
pub record Attained (s : Shape) (k : ℕ) : Type 0 where
  pub one : List ℕ
  pub other : List ℕ
  pub codeword : Codeword s one
  pub codeword_too : Codeword s other
  pub differ : differences s one other ≡ k

-- the places of a list leave no choice: two codewords that are the same off the marked places are the same
pub record Unambiguous (s : Shape) (marked : ℕ → Bool) : Type 0 where
  pub one : (v w : List ℕ) → Codeword s v → Codeword s w → ((j : ℕ) → j < word_length s → marked j ≡ false → at v j ≡ at w j) → v ≡ w

-- the word that came has N symbols below 2^b, and the codeword v is at k positions another, at most `limit` (the damage may be masked)
pub record Near (s : Shape) (limit : ℕ) (w v : List ℕ) (k : ℕ) : Type 0 where
  pub word : Word s w
  pub codeword : Codeword s v
  pub changed : differences s v w ≡ k
  pub few : k ≤ limit
