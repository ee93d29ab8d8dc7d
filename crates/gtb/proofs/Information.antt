-- The information positions in closed form: row and column, rising order, completeness, and how many there are.
use mathlib.Core.Path.{◌≡◌, refl, sym, ap, ap₂, ◌∙◌}
use mathlib.Core.Bool.{Bool, true, false, not, ◌&&◌}
use mathlib.Core.Logic.{⊎_elim}
use Prim.Native.Nat.{ℕ, ◌+◌, ◌-◌, ◌*◌, ◌/◌, ◌%◌, ◌<◌, ◌≤◌}
use native.Mathlib.Nat.{mod-lt, mul_comm, mul-one, mul-add, suc-mul, div-lt_iff_lt-mul, le-div_iff_mul-le, div-mul-le_self, div-add-mod', eq-or-lt_of_le}
use native.Mathlib.Omega.{arith}
use lib.Arith.{digits_lt, digits_div, digits_mod}
use lib.Dec.{leb}
use borrow.Author.Tests.{leb-true, le-leb, lt-leb}
use Rattle.parity.specs.Xor.{when}
use Rattle.parity.specs.Count.{bit, sum, count}
use Rattle.parity.proofs.Tests.{and_left, and_right, and_both}
use Rattle.parity.proofs.Sums.{sum_cong, sum_none, sum_split, sum_rows, sum_const, count_sum, count_not}
use Rattle.gtb.specs.declared.Shape.{Shape}
use Rattle.gtb.specs.Shape.{Lawful, word_length, info_length}
use Rattle.gtb.specs.Positions.{info_position, is_information}
use Rattle.gtb.proofs.Bounds.{bounds, positive}

-- which information symbol stands there
unfoldable pub info_index : Shape → ℕ → ℕ
info_index s j = (j / s.q - (s.n - 1)) * (s.q - 1) + (j % s.q - 1)

-- a position by its row and column
pub position : (s : Shape) (j : ℕ) → j / s.q * s.q + j % s.q ≡ j
position s j = div-add-mod' j s.q

module _ (s : Shape) (h : Lawful s) where
  -- its row and its column are below q
  pub row_lt : (j : ℕ) → j < word_length s → j / s.q < s.q
  row_lt j l = (div-lt_iff_lt-mul (positive s h)).1 l

  pub column_lt : (j : ℕ) → j % s.q < s.q
  column_lt j = mod-lt j (positive s h)

  -- where the test holds
  pub is_information_lem : (r c : ℕ) → s.n - 1 ≤ r → 1 ≤ c → c < s.q → is_information s (r * s.q + c) ≡ true
  unfolding is_information
  is_information_lem r c lr lc l =
      and_both (ap (leb (s.n - 1)) (digits_div r l) ∙ le-leb (s.n - 1) r lr) (ap (leb 1) (digits_mod r l) ∙ le-leb 1 c lc)

  -- and only there
  pub information_row : (j : ℕ) → is_information s j ≡ true → s.n - 1 ≤ j / s.q
  unfolding is_information
  information_row j e = leb-true (s.n - 1) (j / s.q) (and_left _ _ e)

  information_column : (j : ℕ) → is_information s j ≡ true → 1 ≤ j % s.q
  unfolding is_information
  information_column j e = leb-true 1 (j % s.q) (and_right (leb (s.n - 1) (j / s.q)) _ e)

  -- functions that are equal by row and column are equal at an information position
  pub by_cell : (f g : ℕ → ℕ) → ((r c : ℕ) → s.n - 1 ≤ r → r < s.q → 1 ≤ c → c < s.q → f (r * s.q + c) ≡ g (r * s.q + c))
      → (j : ℕ) → j < word_length s → is_information s j ≡ true → f j ≡ g j
  by_cell f g agree j l e =
      ap f (sym (position s j)) ∙ agree (j / s.q) (j % s.q) (information_row j e) (row_lt j l) (information_column j e) (column_lt j)
      ∙ ap g (position s j)

  -- ---- row and column of information symbol k, which lie in the square
  pub info_column_lt : (k : ℕ) → 1 + k % (s.q - 1) < s.q
  info_column_lt k = let b = bounds s h in let m : k % (s.q - 1) < s.q - 1 = mod-lt k (omega arith) in omega arith

  info_row : (k : ℕ) → info_position s k / s.q ≡ s.n - 1 + k / (s.q - 1)
  unfolding info_position
  info_row k = digits_div _ (info_column_lt k)

  info_column : (k : ℕ) → info_position s k % s.q ≡ 1 + k % (s.q - 1)
  unfolding info_position
  info_column k = digits_mod _ (info_column_lt k)

  pub info_row_lt : (k : ℕ) → k < info_length s → s.n - 1 + k / (s.q - 1) < s.q
  info_row_lt k l =
      let b = bounds s h in
      let pos : 0 < s.q - 1 = omega arith in
      let d : k / (s.q - 1) < s.q + 1 - s.n = (div-lt_iff_lt-mul pos).1 (rw (mul_comm (s.q - 1) (s.q + 1 - s.n)) at l) in
      omega arith

  -- its position is one of the N, an information position, and gives k back
  pub info_lt : (k : ℕ) → k < info_length s → info_position s k < word_length s
  unfolding info_position
  info_lt k l = digits_lt (info_row_lt k l) (info_column_lt k)

  pub info_is : (k : ℕ) → k < info_length s → is_information s (info_position s k) ≡ true
  unfolding info_position
  info_is k l = is_information_lem (s.n - 1 + k / (s.q - 1)) (1 + k % (s.q - 1)) (omega arith) (omega arith) (info_column_lt k)

  pub info_index_lem : (k : ℕ) → info_index s (info_position s k) ≡ k
  unfolding info_index
  info_index_lem k =
      ap₂ (λ (x y : ℕ). (x - (s.n - 1)) * (s.q - 1) + (y - 1)) (info_row k) (info_column k)
      ∙ ap₂ (λ (x y : ℕ). x * (s.q - 1) + y) (omega arith) (omega arith)
      ∙ div-add-mod' k (s.q - 1)

  -- ---- rising order, and none is left out
  pub info_rising : (k l : ℕ) → k < l → l < info_length s → info_position s k < info_position s l
  unfolding info_position
  info_rising k l lt ll =
      ⊎_elim
      (λ (e : k / (s.q - 1) ≡ l / (s.q - 1)).
      let same_row = ap (λ (x : ℕ). (s.n - 1 + x) * s.q) e in
      let same_turn = ap (λ (x : ℕ). x * (s.q - 1)) e in
      omega (arith, div-add-mod' k (s.q - 1), div-add-mod' l (s.q - 1)))
      (λ (below : k / (s.q - 1) < l / (s.q - 1)).
      let rows : s.n - 1 + k / (s.q - 1) < s.n - 1 + l / (s.q - 1) = omega arith in
      omega (arith, digits_lt rows (info_column_lt k)))
      (eq-or-lt_of_le ordered)
    where
      pos : 0 < s.q - 1
      pos = let b = bounds s h in omega arith

      ordered : k / (s.q - 1) ≤ l / (s.q - 1)
      ordered = (le-div_iff_mul-le pos).1 (omega (arith, div-mul-le_self k (s.q - 1)))

  pub info_complete : (j : ℕ) → j < word_length s → is_information s j ≡ true → (k : ℕ) × (k < info_length s) × (info_position s k ≡ j)
  unfolding info_position info_index
  info_complete j l e = (
    info_index s j,
    rw (mul_comm (s.q - 1) (s.q + 1 - s.n)) (digits_lt row column),
    ap₂ (λ (x y : ℕ). (s.n - 1 + x) * s.q + (1 + y)) (digits_div (j / s.q - (s.n - 1)) column) (digits_mod (j / s.q - (s.n - 1)) column)
        ∙ ap₂ (λ (x y : ℕ). x * s.q + y) (omega (arith, information_row j e)) (omega (arith, information_column j e))
        ∙ position s j,
  )
    where
      row : j / s.q - (s.n - 1) < s.q + 1 - s.n
      row = let b = bounds s h in omega (arith, row_lt j l, information_row j e)

      column : j % s.q - 1 < s.q - 1
      column = let b = bounds s h in omega (arith, column_lt j, information_column j e)

-- ---- how many
-- k for each number from a on
sum_from : (a n k : ℕ) → a ≤ n → sum n (λ i. when (leb a i) k) ≡ (n - a) * k
unfolding when
sum_from a n k l =
    ap (λ (x : ℕ). sum x (λ i. when (leb a i) k)) (omega arith)
    ∙ sum_split a (n - a) _
    ∙ ap₂ (λ (x y : ℕ). x + y)
    (sum_none _ _ (λ i li. ap (λ (t : Bool). when t k) (lt-leb a i li)))
    (sum_cong _ _ _ (λ i li. ap (λ (t : Bool). when t k) (le-leb a (a + i) (omega arith))) ∙ sum_const (n - a) k)
    ∙ omega arith

-- two tests, one inside the other
bit_and : (a b : Bool) → bit (a && b) ≡ when a (when b 1)
unfolding bit when
bit_and true true = refl
bit_and true false = refl
bit_and false b = refl

-- a test in front of every term
when_sum : (t : Bool) (n k : ℕ) (f : ℕ → ℕ) → sum n f ≡ k → sum n (λ i. when t (f i)) ≡ when t k
unfolding when
when_sum true n k f e = e
when_sum false n k f e = sum_none _ _ (λ i l. refl)

-- what the information positions leave
left_over : (q n : ℕ) → 1 ≤ q → 1 ≤ n → n ≤ q → (x : ℕ) → (q - 1) * (q + 1 - n) + x ≡ q * q → x ≡ n * q - (n - 1)
left_over q n lq ln l x e = omega (arith, row, whole, ap (λ (k : ℕ). q * k) parts ∙ mul-add q (q + 1 - n) (n - 1), mul_comm q (n - 1))
  where
    row : q * (q + 1 - n) ≡ (q - 1) * (q + 1 - n) + (q + 1 - n)
    row = ap (λ (k : ℕ). k * (q + 1 - n)) (omega arith) ∙ suc-mul (q - 1) (q + 1 - n)

    whole : n * q ≡ (n - 1) * q + q
    whole = ap (λ (k : ℕ). k * q) (omega arith) ∙ suc-mul (n - 1) q

    parts : q ≡ q + 1 - n + (n - 1)
    parts = omega arith

module _ (s : Shape) (h : Lawful s) where
  -- the test by row and column
  by_place : (r c : ℕ) → c < s.q → bit (is_information s (r * s.q + c)) ≡ when (leb (s.n - 1) r) (when (leb 1 c) 1)
  unfolding is_information
  by_place r c l =
      ap₂ (λ (x y : ℕ). bit (leb (s.n - 1) x && leb 1 y)) (digits_div r l) (digits_mod r l) ∙ bit_and (leb (s.n - 1) r) (leb 1 c)

  pub information_count : count (word_length s) (is_information s) ≡ info_length s
  information_count =
      let b = bounds s h in
      count_sum _ _ ∙ sum_rows _ _ _ ∙ sum_cong _ _ _ row ∙ sum_from (s.n - 1) s.q (s.q - 1) (omega arith) ∙ mul_comm _ _
      ∙ ap (λ (x : ℕ). (s.q - 1) * x) (omega arith)
    where
      row : (r : ℕ) → r < s.q → sum s.q (λ c. bit (is_information s (r * s.q + c))) ≡ when (leb (s.n - 1) r) (s.q - 1)
      row r l =
          let b = bounds s h in
          sum_cong _ _ _ (by_place r) ∙ when_sum (leb (s.n - 1) r) _ _ _ (sum_from 1 s.q 1 (omega arith) ∙ mul-one (s.q - 1))

  pub parity_count : count (word_length s) (λ j. not (is_information s j)) ≡ s.n * s.q - (s.n - 1)
  parity_count =
      let b = bounds s h in
      left_over s.q s.n (omega arith) (omega arith) (omega arith) _ (rw information_count at (count_not (word_length s) (is_information s)))
