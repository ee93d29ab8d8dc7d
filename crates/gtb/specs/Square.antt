-- Lines, syndromes and codewords (RULES 1). Position j stands in row j / q, column j % q.
use Rattle.std.specs.Prelude.{◌≡◌, Bool, List, ℕ, zero, suc, ◌+◌, ◌*◌, ◌/◌, ◌%◌, ◌^◌, ◌<◌, eqb, ltb, length}
use Rattle.parity.specs.Xor.{xor_sum, when}
use Rattle.parity.specs.Count.{all}
pub use Rattle.parity.specs.Lists.{at}
use Rattle.gtb.specs.declared.Shape.{Shape}
use Rattle.gtb.specs.Shape.{slope_of, word_length}

-- the line of position j in direction t; line L of direction t is check t × q + L
unfoldable pub line_of : Shape → ℕ → ℕ → ℕ
line_of s zero j = j / s.q
line_of s (suc t) j = (j % s.q + slope_of s (suc t) * (j / s.q)) % s.q

-- each symbol is below 2^b
unfoldable pub narrow : ℕ → List ℕ → Bool
narrow b w = all (length w) (λ j. ltb (at w j) (2 ^ b))

-- a check's value: the XOR of the symbols f j at the positions j on line L of direction t
unfoldable pub syndrome : Shape → (ℕ → ℕ) → ℕ → ℕ → ℕ
syndrome s f t L = xor_sum (word_length s) (λ j. when (eqb (line_of s t j) L) (f j))

-- N symbols below 2^b
pub record Word (s : Shape) (w : List ℕ) : Type 0 where
  pub size : length w ≡ word_length s
  pub width : (j : ℕ) → at w j < 2 ^ s.b

-- every check value is zero
pub record Silent (s : Shape) (f : ℕ → ℕ) : Type 0 where
  pub silent : (t L : ℕ) → t < s.n → L < s.q → syndrome s f t L ≡ 0

-- every check value is zero, as a test
unfoldable pub silent_test : Shape → (ℕ → ℕ) → Bool
silent_test s f = all s.n (λ t. all s.q (λ L. eqb (syndrome s f t L) 0))

-- a stored word
pub record Codeword (s : Shape) (w : List ℕ) : Type 0 where
  pub word : Word s w
  pub checks : Silent s (at w)

-- the syndromes of a word as the code holds them: check t × q + L at that place of 248
pub record Syndromes (s : Shape) (w syn : List ℕ) : Type 0 where
  pub size : length syn ≡ 248
  pub entry : (t L : ℕ) → t < s.n → L < s.q → at syn (t * s.q + L) ≡ syndrome s (at w) t L
