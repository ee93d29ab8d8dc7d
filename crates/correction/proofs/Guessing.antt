-- What a codeword near a word tells of the checks: a wrong symbol is on a check that is not silent, and its checks mostly show what is wrong there.
use mathlib.Core.Path.{◌≡◌, refl, sym, ap, ap₂, ◌∙◌}
use mathlib.Core.Bool.{Bool, true, false, not, ◌&&◌}
use mathlib.Core.List.{List}
use mathlib.Core.Logic.Dec
use mathlib.Core.Logic.{⊎_elim}
use Prim.Native.Nat.{ℕ, zero, suc, ◌+◌, ◌-◌, ◌*◌, ◌%◌, ◌^◌, ◌<◌, ◌≤◌}
use native.Mathlib.Decide.{ℕ_discrete}
use native.Mathlib.Nat.{mod-lt, div-lt_iff_lt-mul, div-add-mod'}
use native.Mathlib.Omega.{arith}
use lib.Arith.{digits_lt, digits_div}
use lib.Dec.{eqb, leb}
use lib.Pow.{pow_pos}
use borrow.Author.Tests.{eq-eqb, ne_eqb, eqb-true, le-leb, lt-leb, not-true}
use Rattle.parity.specs.Xor.{when}
use Rattle.parity.specs.Count.{bit, count, any}
use Rattle.parity.proofs.Xors.{when_zero}
use Rattle.parity.proofs.XorSums.{none}
use Rattle.parity.proofs.Tests.{either, clash, and_right, and_both, and_no_left, and_no_right, not_of_true, not_of_false, any_no}
use Rattle.parity.proofs.Sums.{sum_le, sum_exchange, bit_le, bit_true, bit_false, count_le, count_none, count_not}
use Rattle.parity.proofs.Pigeon.{any_count, count_others}
use Rattle.parity.proofs.Modular.{solve}
use Rattle.gtb.specs.declared.Shape.{Shape}
use Rattle.gtb.specs.Shape.{Lawful, word_length, slope_of}
use Rattle.gtb.specs.Square.{line_of, at, syndrome}
use Rattle.gtb.proofs.Bounds.{positive}
use Rattle.gtb.proofs.Slopes.{slope_lt}
use Rattle.gtb.proofs.Lines.{line_zero, line_at, one_line, share_one}
use Rattle.gtb.proofs.Rows.{silent_hidden}
use Rattle.gtb.proofs.Crossing.{others, crossing}
use Rattle.distance.specs.Distance.{Near}
use Rattle.correction.specs.Error.{on_check, shows}
use Rattle.correction.specs.Guesses.{OnRow, number_on, Placed, guessed}
use Rattle.correction.proofs.Near.{error_of, support, outside, error_size, near_private}

-- a check that no other wrong position is on shows the error at j, be it zero or not
pub most_show : {s : Shape} {l k : ℕ} {w v : List ℕ} → Lawful s → Near s l w v k → (j : ℕ) → j < word_length s
    → s.n ≤ shows s.n (on_check s (at w) j) (error_of w v j) + count (word_length s) (λ i. support w v i && not (eqb i j))
unfolding shows
most_show {s} {l} {k} {w} {v} law near j lj =
    omega (
      arith,
      crossing s law (support w v) j lj,
      count_not s.n (others s (support w v) j),
      count_le s.n (λ t. not (others s (support w v) j t)) (λ t. eqb (on_check s (at w) j t) (error_of w v j))
          (λ t lt free. eq-eqb (on_check s (at w) j t) (error_of w v j) (near_private law near j t lj lt (not-true (others s (support w v) j t) free))),
    )

module _ {s : Shape} {w v : List ℕ} {k c : ℕ} (law : Lawful s) (near : Near s k w v c) where
  size : count (word_length s) (support w v) ≡ c
  size = error_size s w v ∙ near.changed

  -- so many checks on a wrong position show what is wrong there
  pub enough : (j : ℕ) → j < word_length s → (error_of w v j ≡ 0 → ⊥) → s.n + 1 ≤ shows s.n (on_check s (at w) j) (error_of w v j) + k
  enough j lj nz =
      omega (arith, most_show law near j lj, size, near.few, count_others (word_length s) (support w v) j lj (not_of_false (ne_eqb (error_of w v j) 0 nz)))

  -- a check is silent if no symbol on it is wrong
  pub line_right : (t L : ℕ) → t < s.n → L < s.q → ((j : ℕ) → j < word_length s → line_of s t j ≡ L → error_of w v j ≡ 0) → syndrome s (at w) t L ≡ 0
  unfolding syndrome when
  line_right t L lt lL right =
      silent_hidden s (at w) (at v) near.codeword.checks t L lt lL
      ∙ none (word_length s) (λ j. when (eqb (line_of s t j) L) (error_of w v j))
      (λ j lj.
      ⊎_elim (λ (e : eqb (line_of s t j) L ≡ true). ap (when (eqb (line_of s t j) L)) (right j lj (eqb-true _ _ e)) ∙ when_zero (eqb (line_of s t j) L))
      (λ (e : eqb (line_of s t j) L ≡ false). ap (λ (b : Bool). when b (error_of w v j)) e)
      (either (eqb (line_of s t j) L)))

  -- ---- at most as many lines of a direction are not silent as symbols are wrong
  on_line : (t L : ℕ) → t < s.n → L < s.q → bit (not (eqb (syndrome s (at w) t L) 0)) ≤ count (word_length s) (λ j. support w v j && eqb (line_of s t j) L)
  on_line t L lt lL =
      ⊎_elim
      (λ (some : any (word_length s) (λ j. support w v j && eqb (line_of s t j) L) ≡ true).
      omega (
        arith,
        bit_le (not (eqb (syndrome s (at w) t L) 0)),
        bit_true some,
        any_count (word_length s) (λ j. support w v j && eqb (line_of s t j) L),
      ))
      (λ (free : any (word_length s) (λ j. support w v j && eqb (line_of s t j) L) ≡ false).
      let silent = line_right t L lt lL (λ j lj e. outside w v j (right j (any_no (word_length s) _ free j lj) e)) in
      omega (arith, bit_false (not_of_true (eq-eqb (syndrome s (at w) t L) 0 silent))))
      (either (any (word_length s) (λ j. support w v j && eqb (line_of s t j) L)))
    where
      right : (j : ℕ) → (support w v j && eqb (line_of s t j) L) ≡ false → line_of s t j ≡ L → support w v j ≡ false
      right j h e =
          ⊎_elim (λ (d : support w v j ≡ true). absurd (clash (and_both d (eq-eqb (line_of s t j) L e)) h)) (λ (d : support w v j ≡ false). d) (either (support w v j))

  one_each : (t j : ℕ) → t < s.n → j < word_length s → count s.q (λ L. support w v j && eqb (line_of s t j) L) ≤ bit (support w v j)
  one_each t j lt lj =
      ⊎_elim
      (λ (e : support w v j ≡ true).
      omega (
        arith,
        bit_true e,
        one_line s law t j lt lj,
        count_le s.q (λ L. support w v j && eqb (line_of s t j) L) (λ L. eqb (line_of s t j) L) (λ L lL h. and_right (support w v j) _ h),
      ))
      (λ (e : support w v j ≡ false). omega (arith, count_none s.q (λ L. support w v j && eqb (line_of s t j) L) (λ L lL. and_no_left _ e)))
      (either (support w v j))

  pub lines_few : (t : ℕ) → t < s.n → count s.q (λ L. not (eqb (syndrome s (at w) t L) 0)) ≤ k
  unfolding count
  lines_few t lt =
      omega (
        arith,
        sum_le s.q (λ L. bit (not (eqb (syndrome s (at w) t L) 0))) (λ L. count (word_length s) (λ j. support w v j && eqb (line_of s t j) L))
            (λ L lL. on_line t L lt lL),
        sum_exchange s.q (word_length s) (λ L j. bit (support w v j && eqb (line_of s t j) L)),
        sum_le (word_length s) (λ j. count s.q (λ L. support w v j && eqb (line_of s t j) L)) (λ j. bit (support w v j)) (λ j lj. one_each t j lt lj),
        size,
        near.few,
      )

-- ---- the guesses
module _ (n : ℕ) (v : ℕ → ℕ) (least t : ℕ) where
  abbrev guess : Bool
  guess = not (eqb (v t) 0) && eqb (shows t v (v t)) 0 && leb least (shows n v (v t))

  no_guess : guess ≡ false → 0 ≡ guessed n v least t
  unfolding guessed
  no_guess h = rw h

  pub silent_guess : v t ≡ 0 → 0 ≡ guessed n v least t
  silent_guess e = no_guess (and_no_left _ (and_no_left _ (not_of_true (eq-eqb (v t) 0 e))))

  pub later_guess : (shows t v (v t) ≡ 0 → ⊥) → 0 ≡ guessed n v least t
  later_guess ne = no_guess (and_no_left _ (and_no_right (not (eqb (v t) 0)) (ne_eqb (shows t v (v t)) 0 ne)))

  pub rare_guess : shows n v (v t) < least → 0 ≡ guessed n v least t
  rare_guess few = no_guess (and_no_right (not (eqb (v t) 0) && eqb (shows t v (v t)) 0) (lt-leb least _ few))

  pub guess_is : (v t ≡ 0 → ⊥) → shows t v (v t) ≡ 0 → least ≤ shows n v (v t) → v t ≡ guessed n v least t
  unfolding guessed
  guess_is ne first many = rw (ne_eqb (v t) 0 ne, eq-eqb (shows t v (v t)) 0 first, le-leb least _ many)

  pub guessed_lt : (b : ℕ) → v t < 2 ^ b → guessed n v least t < 2 ^ b
  unfolding guessed
  guessed_lt b l = ⊎_elim (λ (h : guess ≡ true). rw h l) (λ (h : guess ≡ false). rw h (pow_pos b)) (either guess)

-- ---- the positions on a line
pub number_lt : (s : Shape) → Lawful s → (t p : ℕ) → p < word_length s → number_on s t p < s.q
unfolding number_on
number_lt s law zero p lp = mod-lt p (positive s law)
number_lt s law (suc t) p lp = (div-lt_iff_lt-mul (positive s law)).1 lp

module _ (s : Shape) (law : Lawful s) where
  -- the position in a row on a line
  pub row_position : (u row line : ℕ) → 1 ≤ u → u < s.n → row < s.q → line < s.q
      → OnRow s u row line (row * s.q + (line + (s.q - slope_of s u) * row) % s.q)
  row_position zero row line one lu lr ll = absurd (omega arith)
  row_position (suc u) row line one lu lr ll =
      let c = (line + (s.q - slope_of s (suc u)) * row) % s.q in
      let lc : c < s.q = mod-lt (line + (s.q - slope_of s (suc u)) * row) (positive s law) in
      record {
        below = digits_lt lr lc;
        row_of = line_zero s (row * s.q + c) ∙ digits_div row lc;
        line_is = line_at s u row c lc ∙ solve s.q (slope_of s (suc u)) row line (omega (arith, slope_lt s law (suc u) one lu)) ll;
      }

  -- positions that share two lines are one
  pub same_position : (t u i j : ℕ) → t < u → u < s.n → i < word_length s → j < word_length s → line_of s t i ≡ line_of s t j → line_of s u i ≡ line_of s u j → i ≡ j
  same_position t u i j tu lu li lj a b =
      (Dec.not-not (ℕ_discrete i j)).0 (λ ne. share_one s law i j li lj ne t u (omega arith) lu (λ e. omega arith) a b)

pub placed_row : {s : Shape} (t : ℕ) {L i : ℕ} → L < s.q → i < s.q → t ≡ 0 → Placed s t L i (L * s.q + i)
unfolding number_on
placed_row {s} zero {L} {i} lL li z = record {
  below = digits_lt lL li;
  only = λ p lp e d. sym (div-add-mod' p s.q) ∙ ap₂ (λ (r c : ℕ). r * s.q + c) (sym (line_zero s p) ∙ e) d;
}
placed_row {s} (suc t) lL li z = absurd (omega arith)

pub placed_line : {s : Shape} (t : ℕ) {L i j : ℕ} → Lawful s → t < s.n → (t ≡ 0 → ⊥) → OnRow s t i L j → Placed s t L i j
unfolding number_on
placed_line {s} zero law lt ne h = absurd (ne refl)
placed_line {s} (suc t) law lt ne h = record {
  below = h.below;
  only = λ p lp e d. same_position s law 0 (suc t) p _ (omega arith) lt lp h.below (line_zero s p ∙ d ∙ sym h.row_of) (e ∙ sym h.line_is);
}
