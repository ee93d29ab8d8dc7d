-- Only the first n - 1 slopes matter: shapes that agree there have the same lines, so the same codewords.
use mathlib.Core.Path.{◌≡◌, refl, sym, ap, ap₂, ◌∙◌}
use mathlib.Core.Bool.{Bool, not, cond, ◌&&◌}
use mathlib.Core.List.{List}
use Prim.Native.Nat.{ℕ, zero, suc, ◌+◌, ◌-◌, ◌*◌, ◌/◌, ◌%◌, ◌<◌}
use native.Mathlib.Omega.{arith}
use lib.Dec.{eqb, ltb}
use Rattle.parity.specs.Xor.{when}
use Rattle.parity.proofs.XorSums.{cong}
use Rattle.parity.proofs.Tests.{all_cong}
use Rattle.gtb.specs.declared.Shape.{Shape}
use Rattle.gtb.specs.declared.Refusal.{Refusal}
use Rattle.gtb.specs.Shape.{word_length, regular, fits_slope, sloped, lawful, shape_refusal, slope_of}
use Rattle.gtb.specs.Square.{line_of, at, syndrome, silent_test, Codeword}
use Rattle.gtb.specs.Positions.{info_position, extract_of, Encodes}
use Rattle.gtb.specs.Alike.{reslope, Alike}

module _ (s : Shape) (slopes : List ℕ) (alike : Alike s slopes) where
  -- test 18 looks at no other slope
  fits_alike : (t : ℕ) → t < s.n - 1 → fits_slope s.q slopes t ≡ fits_slope s.q s.slopes t
  unfolding fits_slope
  fits_alike t l =
      ap₂ (λ (a b : Bool). a && b) (ap (λ (x : ℕ). ltb x s.q) (alike.same t l))
      (all_cong t _ _ (λ u lu. ap₂ (λ (x y : ℕ). not (eqb x y)) (alike.same u (omega arith)) (alike.same t l)))

  regular_alike : regular (reslope s slopes) ≡ regular s
  unfolding regular
  regular_alike = refl

  pub lawful_alike : lawful (reslope s slopes) ≡ lawful s
  unfolding lawful sloped
  lawful_alike = ap₂ (λ (a b : Bool). a && b) regular_alike (all_cong (s.n - 1) _ _ fits_alike)

  pub refusal_alike : shape_refusal (reslope s slopes) ≡ shape_refusal s
  unfolding shape_refusal
  refusal_alike = ap (λ (b : Bool). cond b Refusal.Slope Refusal.Shape) regular_alike

  -- the same lines
  pub line_alike : (t j : ℕ) → t < s.n → line_of (reslope s slopes) t j ≡ line_of s t j
  unfolding line_of slope_of
  line_alike zero j l = refl
  line_alike (suc t) j l = ap (λ (x : ℕ). (j % s.q + x * (j / s.q)) % s.q) (alike.same (suc t - 1) (omega arith))

  -- the same syndromes
  pub syndrome_alike : (f : ℕ → ℕ) (t L : ℕ) → t < s.n → syndrome (reslope s slopes) f t L ≡ syndrome s f t L
  unfolding syndrome
  syndrome_alike f t L l = cong (word_length s) _ _ (λ j lj. ap (λ (x : ℕ). when (eqb x L) (f j)) (line_alike t j l))

  pub silent_alike : (f : ℕ → ℕ) → silent_test (reslope s slopes) f ≡ silent_test s f
  unfolding silent_test
  silent_alike f = all_cong s.n _ _ (λ t lt. all_cong s.q _ _ (λ L lL. ap (λ (x : ℕ). eqb x 0) (syndrome_alike f t L lt)))

  -- so the same codewords, and the same word for given symbols
  pub codeword_alike : (w : List ℕ) → Codeword s w → Codeword (reslope s slopes) w
  codeword_alike w c = record {
    word = record { size = c.word.size; width = c.word.width };
    checks = record { silent = λ t L lt lL. syndrome_alike (at w) t L lt ∙ c.checks.silent t L lt lL };
  }

  pub extract_alike : (w : List ℕ) → extract_of (reslope s slopes) w ≡ extract_of s w
  unfolding extract_of info_position
  extract_alike w = refl

  pub encodes_alike : (symbols w : List ℕ) → Encodes s symbols w → Encodes (reslope s slopes) symbols w
  encodes_alike symbols w e = record { codeword = codeword_alike w e.codeword; information = extract_alike w ∙ e.information }

-- and the other way round
pub alike_back : (s : Shape) (slopes : List ℕ) → Alike s slopes → Alike (reslope s slopes) s.slopes
alike_back s slopes a = record { same = λ t l. sym (a.same t l) }
