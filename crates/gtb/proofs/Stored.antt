-- Lines, check values and stored words are the paper's.
use mathlib.Core.Path.{◌≡◌, refl, sym, ap, ◌∙◌}
use mathlib.Core.List.{List}
use Prim.Native.Nat.{ℕ, zero, suc, ◌+◌, ◌-◌, ◌*◌, ◌/◌, ◌%◌}
use native.Mathlib.Omega.{arith}
use lib.Dec.{eqb}
use lib.ListN.{get_or}
use Rattle.parity.specs.Xor.{when}
use Rattle.parity.proofs.XorSums as xors
use Rattle.paper.specs.Paper as paper
use Rattle.paper.specs.Square.{line, value}
use Rattle.gtb.specs.declared.Shape.{Shape}
use Rattle.gtb.specs.Shape.{word_length, slope_of, of}
use Rattle.gtb.specs.Square.{line_of, at, syndrome, Word, Codeword}
use Rattle.gtb.proofs.Words.{beyond}

module _ (s : Shape) where
  pub line_same : (t j : ℕ) → line_of s t j ≡ line (of s) t j
  unfolding line_of slope_of line
  line_same zero j = refl
  line_same (suc t) j = let e : suc t - 1 ≡ t = omega arith in ap (λ (x : ℕ). (j % s.q + get_or s.slopes x 0 * (j / s.q)) % s.q) e

  pub value_same : (w : List ℕ) (t L : ℕ) → syndrome s (at w) t L ≡ value (of s) w t L
  unfolding syndrome value
  value_same w t L = xors.cong (word_length s) _ _ (λ j l. ap (λ (x : ℕ). when (eqb x L) (at w j)) (line_same t j))

  pub word_digits : {w : List ℕ} → Word s w → paper.Digits (of s) w
  word_digits h = record { number = h.size; below = λ j l. h.width j }

  pub digits_word : {w : List ℕ} → paper.Digits (of s) w → Word s w
  digits_word {w} h = record { size = h.number; width = beyond s.b w (λ j l. h.below j (rw h.number at l)) }

  pub codeword_stored : {w : List ℕ} → Codeword s w → paper.Stored (of s) w
  codeword_stored {w} h = record { digits = word_digits h.word; zero = λ t L lt lL. sym (value_same w t L) ∙ h.checks.silent t L lt lL }

  pub stored_codeword : {w : List ℕ} → paper.Stored (of s) w → Codeword s w
  stored_codeword {w} h = record { word = digits_word h.digits; checks = record { silent = λ t L lt lL. value_same w t L ∙ h.zero t L lt lL } }
