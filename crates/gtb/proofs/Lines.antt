-- Lines: their numbers, the positions on them, and where two of them cross.
use mathlib.Core.Path.{◌≡◌, refl, sym, ap, ap₂, ◌∙◌}
use Prim.Native.Nat.{ℕ, zero, suc, ◌+◌, ◌*◌, ◌/◌, ◌%◌, ◌≤◌, ◌<◌}
use native.Mathlib.Nat.{mod-lt, mod-mod, mod-eq_of_lt, le_of_lt, div-add-mod', div-lt_iff_lt-mul}
use native.Mathlib.Omega.{arith}
use lib.Arith.{digits_div, digits_mod}
use lib.Dec.{eqb}
use borrow.Author.Tests.{eq-eqb, eqb-true}
use Rattle.parity.specs.Count.{count}
use Rattle.parity.proofs.Modular.{cancel_add, solve, solve_only, cross}
use Rattle.parity.proofs.Sums.{sum_exchange, sum_rows, count_sum}
use Rattle.parity.proofs.Only.{Only, only_count, each_once}
use Rattle.gtb.specs.declared.Shape.{Shape}
use Rattle.gtb.specs.Shape.{Lawful, word_length, slope_of}
use Rattle.gtb.specs.Square.{line_of}
use Rattle.gtb.proofs.Bounds.{bounds, positive}
use Rattle.gtb.proofs.Slopes.{slope_lt, slope_apart}
use Rattle.gtb.specs.Rows.{shift_of}

-- the two cases of a line's number
pub line_zero : (s : Shape) (j : ℕ) → line_of s 0 j ≡ j / s.q
unfolding line_of
line_zero s j = refl

pub line_suc : (s : Shape) (t j : ℕ) → line_of s (suc t) j ≡ (j % s.q + slope_of s (suc t) * (j / s.q)) % s.q
unfolding line_of
line_suc s t j = refl

-- the lines of the position in row r, column c
pub line_row : (s : Shape) (r c : ℕ) → c < s.q → line_of s 0 (r * s.q + c) ≡ r
line_row s r c l = line_zero s (r * s.q + c) ∙ digits_div r l

pub line_at : (s : Shape) (t r c : ℕ) → c < s.q → line_of s (suc t) (r * s.q + c) ≡ (c + slope_of s (suc t) * r) % s.q
line_at s t r c l =
    line_suc s t (r * s.q + c)
    ∙ ap₂ (λ (x y : ℕ). (x + slope_of s (suc t) * y) % s.q) (digits_mod r l) (digits_div r l)

-- a line of direction 0 has one position in each column
pub column_only : (s : Shape) (c L : ℕ) → c < s.q → L < s.q → Only s.q (λ r. eqb (line_of s 0 (r * s.q + c)) L) L
column_only s c L lc lL = record {
  below = lL;
  passes = eq-eqb _ L (line_row s L c lc);
  alone = λ r lr e. sym (line_row s r c lc) ∙ eqb-true _ L e;
}

-- a line of direction t + 1 has one position in each row
pub row_only : (s : Shape) → Lawful s → (t r L : ℕ) → suc t < s.n → L < s.q
    → Only s.q (λ c. eqb (line_of s (suc t) (r * s.q + c)) L) ((L + shift_of s t * r) % s.q)
unfolding shift_of
row_only s h t r L lt lL = record {
  below = below;
  passes = eq-eqb _ L (line_at s t r _ below ∙ solve s.q (slope_of s (suc t)) r L slope lL);
  alone = λ c l e. solve_only s.q (slope_of s (suc t)) r L c slope l (sym (line_at s t r c l) ∙ eqb-true _ L e);
}
  where
    slope : slope_of s (suc t) ≤ s.q
    slope = le_of_lt (slope_lt s h (suc t) (omega arith) lt)

    below : (L + shift_of s t * r) % s.q < s.q
    below = mod-lt _ (positive s h)

-- lines are numbered from 0 to q - 1
pub line_lt : (s : Shape) → Lawful s → (t j : ℕ) → t < s.n → j < word_length s → line_of s t j < s.q
line_lt s h zero j lt lj = rw line_zero ((div-lt_iff_lt-mul (positive s h)).1 lj)
line_lt s h (suc t) j lt lj = rw line_suc (mod-lt _ (positive s h))

-- each position is on one line of each direction
pub line_only : (s : Shape) → Lawful s → (t j : ℕ) → t < s.n → j < word_length s → Only s.q (λ L. eqb (line_of s t j) L) (line_of s t j)
line_only s h t j lt lj = record {
  below = line_lt s h t j lt lj;
  passes = eq-eqb (line_of s t j) (line_of s t j) refl;
  alone = λ L l e. sym (eqb-true _ L e);
}

pub one_line : (s : Shape) → Lawful s → (t j : ℕ) → t < s.n → j < word_length s → count s.q (λ L. eqb (line_of s t j) L) ≡ 1
one_line s h t j lt lj = only_count _ _ (line_of s t j) (line_only s h t j lt lj)

-- each line has q positions: in direction 0 one in each column, in the others one in each row
pub check_size : (s : Shape) → Lawful s → (t L : ℕ) → t < s.n → L < s.q → count (word_length s) (λ j. eqb (line_of s t j) L) ≡ s.q
check_size s h zero L lt lL =
    count_sum _ _ ∙ sum_rows _ _ _ ∙ sum_exchange _ _ _
    ∙ each_once _ _ (λ c r. eqb (line_of s 0 (r * s.q + c)) L) (λ c lc. only_count _ _ L (column_only s c L lc lL))
check_size s h (suc t) L lt lL =
    count_sum _ _ ∙ sum_rows _ _ _
    ∙ each_once _ _ (λ r c. eqb (line_of s (suc t) (r * s.q + c)) L) (λ r lr. only_count _ _ _ (row_only s h t r L lt lL))

-- ---- lines of any slope x, also of one that no direction has: on the line of a position, this has one value modulo q
abbrev pub along : Shape → ℕ → ℕ → ℕ
along s x j = j % s.q + x * (j / s.q)

-- two positions of a row are on different lines of a slope
pub same_row : (s : Shape) → Lawful s → (x i j : ℕ) → i / s.q ≡ j / s.q → along s x i % s.q ≡ along s x j % s.q → i ≡ j
same_row s h x i j row line =
    sym (div-add-mod' i s.q) ∙ ap₂ (λ (r c : ℕ). r * s.q + c) row column ∙ div-add-mod' j s.q
  where
    column : i % s.q ≡ j % s.q
    column =
        sym (mod-mod i s.q)
        ∙ cancel_add s.q (i % s.q) (j % s.q) (x * (i / s.q)) (positive s h) (line ∙ ap (λ (r : ℕ). (j % s.q + x * r) % s.q) (sym row))
        ∙ mod-mod j s.q

-- two positions that share lines of two slopes are the same
pub share_slopes : (s : Shape) → Lawful s → (x y i j : ℕ) → x < s.q → y < s.q → (x ≡ y → ⊥) → i < word_length s → j < word_length s
    → along s x i % s.q ≡ along s x j % s.q → along s y i % s.q ≡ along s y j % s.q → i ≡ j
share_slopes s h x y i j lx ly ne li lj ex ey =
    same_row s h x i j
    (sym (low i li) ∙ cross s.q (bounds s h).order x y lx ly ne (i % s.q) (i / s.q) (j % s.q) (j / s.q) ex ey ∙ low j lj) ex
  where
    low : (j : ℕ) → j < word_length s → j / s.q % s.q ≡ j / s.q
    low j l = mod-eq_of_lt ((div-lt_iff_lt-mul (positive s h)).1 l)

-- two different positions share at most one line
pub share_one : (s : Shape) → Lawful s → (i j : ℕ) → i < word_length s → j < word_length s → (i ≡ j → ⊥) → (t u : ℕ) → t < s.n → u < s.n → (t ≡ u → ⊥)
    → line_of s t i ≡ line_of s t j → line_of s u i ≡ line_of s u j → ⊥
share_one s h i j li lj ne zero zero lt lu tu et eu = tu refl
share_one s h i j li lj ne zero (suc u) lt lu tu et eu =
    ne (same_row s h _ i j (sym (line_zero s i) ∙ et ∙ line_zero s j) (sym (line_suc s u i) ∙ eu ∙ line_suc s u j))
share_one s h i j li lj ne (suc t) zero lt lu tu et eu =
    ne (same_row s h _ i j (sym (line_zero s i) ∙ eu ∙ line_zero s j) (sym (line_suc s t i) ∙ et ∙ line_suc s t j))
share_one s h i j li lj ne (suc t) (suc u) lt lu tu et eu =
    ne
    (share_slopes s h _ _ i j (slope_lt s h (suc t) (omega arith) lt) (slope_lt s h (suc u) (omega arith) lu)
    (slope_apart s h (suc t) (suc u) (omega arith) lt (omega arith) lu tu) li lj
    (sym (line_suc s t i) ∙ et ∙ line_suc s t j) (sym (line_suc s u i) ∙ eu ∙ line_suc s u j))
