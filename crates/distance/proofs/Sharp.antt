-- The distance is sharp: where n = q, whatever the slopes, and for four directions with the slopes 0, 1, 2, at every order from 5 on.
use mathlib.Core.Path.{◌≡◌, refl, sym, ap, ◌∙◌, subst}
use mathlib.Core.Bool.{Bool, true, ◌&&◌}
use mathlib.Core.List.{List, [], ◌∷◌}
use Prim.Native.Nat.{ℕ, zero, suc, ◌+◌, ◌-◌, ◌*◌, ◌%◌, ◌<◌, ◌≤◌}
use native.Mathlib.Nat.{mod-lt, mul_comm, one-mul, add-mul-mod_self_right}
use native.Mathlib.Omega.{arith}
use lib.Arith.{digits_lt}
use lib.Dec.{eqb, ltb}
use borrow.Author.Tests.{eq-eqb, ne_eqb, eqb-true}
use Rattle.parity.specs.Count.{bit, count}
use Rattle.parity.proofs.Tests.{and_left, and_right}
use Rattle.parity.proofs.Sums.{sum_cong, sum_const, bit_true, bit_false, bit_and, count_sum, count_below}
use Rattle.parity.proofs.Only.{sum_by_value, count_by_value}
use Rattle.parity.proofs.Pigeon.{count_one, left_out, all_ones}
use Rattle.gtb.specs.declared.Shape.{Shape}
use Rattle.gtb.specs.Shape.{Lawful, word_length, slope_of}
use Rattle.gtb.specs.Square.{line_of}
use Rattle.gtb.proofs.Bounds.{bounds, positive}
use Rattle.gtb.proofs.Slopes.{slope_lt}
use Rattle.gtb.proofs.Lines.{along, line_zero, line_suc, line_row, line_at, line_lt, check_size, same_row, share_slopes}
use Rattle.distance.specs.Distance.{minimum_distance, Attained}
use Rattle.distance.proofs.Even.{odd}
use Rattle.parity.proofs.Polynomials.{sum_of}
use Rattle.distance.proofs.Attained.{attained, often, Within, none, more, list_attained}

-- ---- two parallel lines of a slope x that no direction has
module _ (s : Shape) (law : Lawful s) (x : ℕ) (lx : x < s.q) (free : (t : ℕ) → t < s.n - 1 → slope_of s (suc t) ≡ x → ⊥) where
  -- the line of that slope on a place
  abbrev line : ℕ → ℕ
  line j = along s x j % s.q

  line_below : (j : ℕ) → j < word_length s → line j < s.q
  line_below j l = mod-lt (along s x j) (positive s law)

  -- a line of a direction and one of slope x have one place at most in common
  cross_one : (t i j : ℕ) → t < s.n → i < word_length s → j < word_length s → line_of s t i ≡ line_of s t j → line i ≡ line j → i ≡ j
  cross_one zero i j lt li lj e f = same_row s law x i j (sym (line_zero s i) ∙ e ∙ line_zero s j) f
  cross_one (suc t) i j lt li lj e f =
      share_slopes s law x (slope_of s (suc t)) i j lx (slope_lt s law (suc t) (omega arith) lt) (λ e. free t (omega arith) (sym e)) li lj f
      (sym (line_suc s t i) ∙ e ∙ line_suc s t j)

  -- so they have one: the q places of the former are on q lines of slope x
  meet : (t L : ℕ) → t < s.n → L < s.q → (v : ℕ) → v < s.q → count (word_length s) (λ j. eqb (line j) v && eqb (line_of s t j) L) ≡ 1
  meet t L lt l =
      all_ones s.q _
      (λ v lv.
      count_one (word_length s) _
      (λ i j li lj ne a b.
      ne
      (cross_one t i j lt li lj
      (eqb-true _ L (and_right (eqb (line i) v) _ a) ∙ sym (eqb-true _ L (and_right (eqb (line j) v) _ b)))
      (eqb-true _ v (and_left _ _ a) ∙ sym (eqb-true _ v (and_left _ _ b))))))
      (sym (count_by_value (word_length s) s.q (λ j. eqb (line_of s t j) L) line line_below) ∙ check_size s law t L lt l)

  -- on line 0 or line 1 of slope x
  abbrev both : ℕ → Bool
  both j = ltb (line j) 2

  meet_both : (t L : ℕ) → t < s.n → L < s.q → count (word_length s) (λ j. eqb (line_of s t j) L && both j) ≡ 2
  meet_both t L lt l =
      count_sum (word_length s) _ ∙ sum_cong (word_length s) _ _ (λ j lj. bit_and (eqb (line_of s t j) L) (both j))
      ∙ sum_by_value (word_length s) s.q (λ j. eqb (line_of s t j) L) line line_below (λ v. bit (ltb v 2))
      ∙ sum_cong s.q _ _ (λ v lv. ap (λ (k : ℕ). k * bit (ltb v 2)) (meet t L lt l v lv) ∙ one-mul _)
      ∙ sym (count_sum s.q _) ∙ count_below s.q 2 (omega (arith, (bounds s law).q3))

  both_size : count (word_length s) both ≡ 2 * s.q
  both_size =
      let some : 0 < s.n = omega (arith, (bounds s law).n2) in
      count_by_value (word_length s) s.q both (line_of s 0) (λ j l. line_lt s law 0 j some l)
      ∙ sum_cong s.q _ (λ L. 2) (λ L l. meet_both 0 L some l) ∙ sum_const s.q 2 ∙ mul_comm s.q 2

  both_attained : Attained s (2 * s.q)
  both_attained =
      subst (Attained s) both_size (attained s law both (record { even = λ t L lt l. ap (λ (k : ℕ). k % 2) (meet_both t L lt l) }))

-- the directions have n - 1 of the q slopes, so one is left over: at every shape some codewords are 2 q apart
pub two_lines : (s : Shape) → Lawful s → Attained s (2 * s.q)
two_lines s law =
    let (x, lx, free) = left_out (s.n - 1) s.q (λ t. slope_of s (suc t)) (omega (arith, (bounds s law).n2, (bounds s law).nq)) in
    both_attained s law x lx free

pub sharp_full : (s : Shape) → Lawful s → s.n ≡ s.q → Attained s (minimum_distance s.n)
unfolding minimum_distance
sharp_full s law full = subst (Attained s) (omega arith) (two_lines s law)

-- ---- four directions with the slopes 0, 1, 2: eight places, two in each of the first four rows
module _ (s : Shape) (law : Lawful s) (four : s.n ≡ 4) (q5 : 5 ≤ s.q) (e₁ : slope_of s 1 ≡ 0) (e₂ : slope_of s 2 ≡ 1) (e₃ : slope_of s 3 ≡ 2) where
  -- row r, column c
  abbrev place : ℕ → ℕ → ℕ
  place r c = r * s.q + c

  abbrev eight : List ℕ
  eight =
      place 0 0 ∷ place 0 1 ∷ place 1 1 ∷ place 1 (s.q - 2) ∷ place 2 0 ∷ place 2 (s.q - 3) ∷ place 3 (s.q - 2) ∷ place 3 (s.q - 3) ∷ []

  inside : (r c : ℕ) → r < 4 → c < s.q → place r c < word_length s
  inside r c lr lc = digits_lt (omega arith) lc

  eight_within : Within (word_length s) eight
  eight_within =
      more (inside 0 0 (omega arith) (omega arith))
      (more (inside 0 1 (omega arith) (omega arith))
      (more (inside 1 1 (omega arith) (omega arith))
      (more (inside 1 (s.q - 2) (omega arith) (omega arith))
      (more (inside 2 0 (omega arith) (omega arith))
      (more (inside 2 (s.q - 3) (omega arith) (omega arith))
      (more (inside 3 (s.q - 2) (omega arith) (omega arith))
      (more (inside 3 (s.q - 3) (omega arith) (omega arith)) none)))))))

  -- two places on one line: in a row, or where the values in a direction differ by k turns
  in_row : (r c c' : ℕ) → c < s.q → c' < s.q → (L : ℕ) → bit (eqb (line_of s 0 (place r c)) L) ≡ bit (eqb (line_of s 0 (place r c')) L)
  in_row r c c' l l' L = ap (λ (x : ℕ). bit (eqb x L)) (line_row s r c l ∙ sym (line_row s r c' l'))

  in_line : (t r c r' c' k : ℕ) → c < s.q → c' < s.q → c + slope_of s (suc t) * r ≡ c' + slope_of s (suc t) * r' + k * s.q
      → (L : ℕ) → bit (eqb (line_of s (suc t) (place r c)) L) ≡ bit (eqb (line_of s (suc t) (place r' c')) L)
  in_line t r c r' c' k l l' e L =
      ap (λ (x : ℕ). bit (eqb x L))
      (line_at s t r c l ∙ ap (λ (x : ℕ). x % s.q) e ∙ add-mul-mod_self_right _ k s.q ∙ sym (line_at s t r' c' l'))

  -- each direction pairs the eight up
  eight_even : (t L : ℕ) → t < s.n → L < s.q → sum_of eight (λ y. bit (eqb (line_of s t y) L)) % 2 ≡ 0
  unfolding sum_of
  eight_even zero L lt l =
      omega (
        arith,
        in_row 0 0 1 (omega arith) (omega arith) L,
        in_row 1 1 (s.q - 2) (omega arith) (omega arith) L,
        in_row 2 0 (s.q - 3) (omega arith) (omega arith) L,
        in_row 3 (s.q - 2) (s.q - 3) (omega arith) (omega arith) L,
      )
  eight_even (suc zero) L lt l =
      omega (
        arith,
        in_line 0 2 0 0 0 0 (omega arith) (omega arith) (omega arith) L,
        in_line 0 1 1 0 1 0 (omega arith) (omega arith) (omega arith) L,
        in_line 0 3 (s.q - 2) 1 (s.q - 2) 0 (omega arith) (omega arith) (omega arith) L,
        in_line 0 3 (s.q - 3) 2 (s.q - 3) 0 (omega arith) (omega arith) (omega arith) L,
      )
  eight_even (suc (suc zero)) L lt l =
      omega (
        arith,
        in_line 1 3 (s.q - 3) 0 0 1 (omega arith) (omega arith) (omega arith) L,
        in_line 1 3 (s.q - 2) 0 1 1 (omega arith) (omega arith) (omega arith) L,
        in_line 1 2 0 1 1 0 (omega arith) (omega arith) (omega arith) L,
        in_line 1 2 (s.q - 3) 1 (s.q - 2) 0 (omega arith) (omega arith) (omega arith) L,
      )
  eight_even (suc (suc (suc zero))) L lt l =
      omega (
        arith,
        in_line 2 1 (s.q - 2) 0 0 1 (omega arith) (omega arith) (omega arith) L,
        in_line 2 2 (s.q - 3) 0 1 1 (omega arith) (omega arith) (omega arith) L,
        in_line 2 3 (s.q - 3) 1 1 1 (omega arith) (omega arith) (omega arith) L,
        in_line 2 3 (s.q - 2) 2 0 1 (omega arith) (omega arith) (omega arith) L,
      )
  eight_even (suc (suc (suc (suc t)))) L lt l = absurd (omega arith)

  -- the first of them is no other one
  first : odd (often eight (place 0 0)) ≡ true
  unfolding often
  first =
      let no : (r c : ℕ) → 0 < place r c → bit (eqb (place 0 0) (place r c)) ≡ 0 = λ r c l. bit_false (ne_eqb (place 0 0) (place r c) (λ e. omega arith)) in
      eq-eqb (often eight (place 0 0) % 2) 1
      (omega (
        arith,
        bit_true (eq-eqb (place 0 0) (place 0 0) refl),
        no 0 1 (omega arith),
        no 1 1 (omega arith),
        no 1 (s.q - 2) (omega arith),
        no 2 0 (omega arith),
        no 2 (s.q - 3) (omega arith),
        no 3 (s.q - 2) (omega arith),
        no 3 (s.q - 3) (omega arith),
      ))

  eight_attained : Attained s (2 * s.n)
  unfolding sum_of
  eight_attained = list_attained s law eight eight_within eight_even (omega arith) (place 0 0) (inside 0 0 (omega arith) (omega arith)) first

-- the order is odd, so from 5 on
pub sharp_shipped : (s : Shape) → Lawful s → s.n ≡ 4 → slope_of s 1 ≡ 0 → slope_of s 2 ≡ 1 → slope_of s 3 ≡ 2 → Attained s (minimum_distance s.n)
unfolding minimum_distance
sharp_shipped s law four e₁ e₂ e₃ =
    subst (Attained s) (omega arith) (eight_attained s law four (omega (arith, (bounds s law).nq, (bounds s law).order.odd)) e₁ e₂ e₃)
