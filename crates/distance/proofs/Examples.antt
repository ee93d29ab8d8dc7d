-- The distance is attained at small shapes: a codeword and the zero word, computed from the definitions.
use mathlib.Core.Path.{◌≡◌, refl}
use mathlib.Core.Bool.{true}
use mathlib.Core.List.{List, [], ◌∷◌}
use Prim.Native.Nat.{ℕ}
use lib.ListN.{length, replicate}
use Rattle.parity.specs.Xor.{◌⊕◌, xor_sum, when}
use Rattle.parity.specs.Count.{bit, sum, count, all}
use Rattle.gtb.specs.declared.Shape.{Shape}
use Rattle.gtb.specs.Shape.{standard, word_length, slope_of}
use Rattle.gtb.specs.Square.{line_of, at, narrow, syndrome, silent_test, Codeword}
use Rattle.gtb.proofs.Words.{narrow_word, test_silent}
use Rattle.distance.specs.Distance.{differences, Attained}

-- a word that passes the computed tests
passes : (s : Shape) (w : List ℕ) → length w ≡ word_length s → narrow s.b w ≡ true → silent_test s (at w) ≡ true → Codeword s w
passes s w size slim quiet = record { word = narrow_word s w size slim; checks = test_silent s (at w) quiet }

abbrev zeros : Shape → List ℕ
zeros s = replicate (word_length s) 0

from_zeros : (s : Shape) (w : List ℕ) (k : ℕ) → Codeword s w → Codeword s (zeros s) → differences s w (zeros s) ≡ k → Attained s k
from_zeros s w k c z d = record { one = w; other = zeros s; codeword = c; codeword_too = z; differ = d }

-- the corners of a rectangle
abbrev corners : List ℕ
corners = 1 ∷ 1 ∷ 0 ∷ 1 ∷ 1 ∷ 0 ∷ 0 ∷ 0 ∷ 0 ∷ []

pub sharp_four : Attained (standard 3 2 1) 4
unfolding differences silent_test narrow all count sum bit syndrome xor_sum when line_of slope_of ◌⊕◌
sharp_four = from_zeros _ corners _ (passes _ corners refl refl refl) (passes _ _ refl refl refl) refl

-- all but one position of each line
abbrev ring : List ℕ
ring = 0 ∷ 1 ∷ 1 ∷ 1 ∷ 0 ∷ 1 ∷ 1 ∷ 1 ∷ 0 ∷ []

pub sharp_six : Attained (standard 3 3 1) 6
unfolding differences silent_test narrow all count sum bit syndrome xor_sum when line_of slope_of ◌⊕◌
sharp_six = from_zeros _ ring _ (passes _ ring refl refl refl) (passes _ _ refl refl refl) refl

-- the eight places of proofs/Sharp, at order 5
abbrev octet : List ℕ
octet = 1 ∷ 1 ∷ 0 ∷ 0 ∷ 0 ∷ 0 ∷ 1 ∷ 0 ∷ 1 ∷ 0 ∷ 1 ∷ 0 ∷ 1 ∷ 0 ∷ 0 ∷ 0 ∷ 0 ∷ 1 ∷ 1 ∷ 0 ∷ 0 ∷ 0 ∷ 0 ∷ 0 ∷ 0 ∷ []

pub sharp_eight : Attained (standard 5 4 1) 8
unfolding differences silent_test narrow all count sum bit syndrome xor_sum when line_of slope_of ◌⊕◌
sharp_eight = from_zeros _ octet _ (passes _ octet refl refl refl) (passes _ _ refl refl refl) refl
