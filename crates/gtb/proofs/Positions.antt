-- The information positions are exactly the positions whose column of the check matrix depends on lower ones (RULES 2).
use mathlib.Core.Path.{◌≡◌, refl, sym, ap, ap₂, ◌∙◌}
use mathlib.Core.Bool.{Bool, true, false, cond}
use mathlib.Core.Logic.{⊎_elim}
use Prim.Native.Nat.{ℕ, zero, suc, ◌+◌, ◌-◌, ◌*◌, ◌/◌, ◌%◌, ◌<◌, ◌≤◌}
use native.Mathlib.Nat.{eq-zero-or-pos, le-div_iff_mul-le, le_refl}
use native.Mathlib.Omega.{arith}
use lib.Arith.{digits_lt}
use lib.Dec.{eqb, ltb, leb}
use borrow.Author.Tests.{lt-ltb, le-ltb, eq-eqb, ne_eqb, leb-false}
use Rattle.parity.specs.Xor.{◌⊕◌, xor_sum, when}
use Rattle.parity.specs.Count.{bit}
use Rattle.parity.proofs.Xors.{self, zero_r, eq_of_zero}
use Rattle.parity.proofs.XorSums.{xs_suc, cong, none, split}
use Rattle.parity.proofs.Tests.{either, and_both}
use Rattle.parity.proofs.Sums.{bit_le, bit_true, bit_false}
use Rattle.gtb.specs.declared.Shape.{Shape}
use Rattle.gtb.specs.Shape.{Lawful, word_length}
use Rattle.gtb.specs.Square.{line_of, syndrome, Silent}
use Rattle.gtb.specs.Positions.{column, Dependent, info_position, is_information, InformationPositions}
use Rattle.gtb.proofs.Bounds.{positive}
use Rattle.gtb.proofs.Rows.{syndrome_cong}
use Rattle.gtb.proofs.Information.{position, row_lt, column_lt, information_row, by_cell, info_lt, info_is, info_rising, info_complete, information_count, parity_count}
use Rattle.gtb.proofs.Silence.{row_zero, silent_zero, silent_exists}

-- a sum whose last nonzero term is that of j
up_to : (n j : ℕ) (f : ℕ → ℕ) → j < n → ((i : ℕ) → j < i → i < n → f i ≡ 0) → xor_sum n f ≡ xor_sum j f ⊕ f j
up_to n j f l z =
    ap (λ (k : ℕ). xor_sum k f) (omega arith) ∙ split (suc j) (n - suc j) f
    ∙ ap₂ (λ (x y : ℕ). x ⊕ y) (xs_suc j f) (none _ _ (λ i li. z (suc j + i) (omega arith) (omega arith)))
    ∙ zero_r _

-- two tests change places
when_bit : (a b : Bool) → when a (bit b) ≡ when b (bit a)
unfolding when bit
when_bit true true = refl
when_bit true false = refl
when_bit false true = refl
when_bit false false = refl

-- a word of zeros and ones whose last one is at j: its syndrome is the XOR of the columns at its ones
last_one : (s : Shape) (j : ℕ) → j < word_length s → (p : ℕ → Bool) → p j ≡ true → ((i : ℕ) → j < i → i < word_length s → p i ≡ false)
    → (t L : ℕ) → syndrome s (λ i. bit (p i)) t L ≡ xor_sum j (λ i. when (p i) (column s i t L)) ⊕ column s j t L
unfolding syndrome when
last_one s j l p one zeros t L =
    cong (word_length s) _ term (λ i li. when_bit (eqb (line_of s t i) L) (p i))
    ∙ up_to (word_length s) j term l (λ i lt li. ap (λ (b : Bool). when b (column s i t L)) (zeros i lt li))
    ∙ ap (λ (b : Bool). xor_sum j term ⊕ when b (column s j t L)) one
  where
    term : ℕ → ℕ
    term i = when (p i) (column s i t L)

-- ---- an information position is Dependent
-- a number below 2 by the test whether it is 1
below_two : (x : ℕ) → x < 2 → bit (eqb x 1) ≡ x
below_two zero l = bit_false (ne_eqb 0 1 (λ e. omega arith))
below_two (suc zero) l = bit_true (eq-eqb 1 1 refl)
below_two (suc (suc x)) l = absurd (omega arith)

-- a silent word of zeros and ones whose last one is at j gives column j as a sum of lower ones
dependent_of : (s : Shape) (f : ℕ → ℕ) → Silent s f → ((i : ℕ) → f i < 2)
    → (j : ℕ) → j < word_length s → f j ≡ 1 → ((i : ℕ) → j < i → i < word_length s → f i ≡ 0) → Dependent s j
dependent_of s f quiet small j l one zeros = record {
  chosen = λ i. eqb (f i) 1;
  sum = λ t L lt lL.
      sym
      (eq_of_zero _ _
      (sym
      (last_one s j l (λ i. eqb (f i) 1) (eq-eqb (f j) 1 one) (λ i lt li. ne_eqb (f i) 1 (λ e. omega (arith, zeros i lt li))) t L)
      ∙ syndrome_cong s _ f t L (λ i li. below_two (f i) (small i)) ∙ quiet.silent t L lt lL));
}

-- a silent word that is zero on the information positions after j, itself in a lower row, is zero after j
zero_after : (s : Shape) → Lawful s → (f : ℕ → ℕ) → Silent s f → (j : ℕ) → s.n - 1 ≤ j / s.q
    → ((r c : ℕ) → s.n - 1 ≤ r → r < s.q → 1 ≤ c → c < s.q → j < r * s.q + c → f (r * s.q + c) ≡ 0)
    → (i : ℕ) → j < i → i < word_length s → f i ≡ 0
zero_after s h f quiet j low z i lt l =
    ap f (sym (position s i))
    ∙ ⊎_elim
    (λ (e : i % s.q ≡ 0).
    row_zero s h f quiet (i / s.q) (row_lt s h i l)
    (λ c pos lc. z (i / s.q) c lower (row_lt s h i l) pos lc (omega (arith, position s i)))
    (i % s.q) (column_lt s h i))
    (λ (pos : 0 < i % s.q). z (i / s.q) (i % s.q) lower (row_lt s h i l) pos (column_lt s h i) (omega (arith, position s i)))
    (eq-zero-or-pos (i % s.q))
  where
    lower : s.n - 1 ≤ i / s.q
    lower = (le-div_iff_mul-le (positive s h)).1 (omega (arith, (le-div_iff_mul-le (positive s h)).0 low))

-- the silent word that is 1 there and 0 on the other information positions shows it
information_dependent : (s : Shape) → Lawful s → (j : ℕ) → j < word_length s → is_information s j ≡ true → Dependent s j
information_dependent s h j l e =
    let g : ℕ → ℕ = λ i. bit (eqb i j) in
    let (f, quiet, same, small) = silent_exists s h 1 g (λ i. omega (arith, bit_le (eqb i j))) in
    dependent_of s f quiet small j l (by_cell s h f g same j l e ∙ bit_true (eq-eqb j j refl))
    (zero_after s h f quiet j (information_row s h j e)
    (λ r c lr lq pos lc lt. same r c lr lq pos lc ∙ bit_false (ne_eqb (r * s.q + c) j (λ here. omega arith))))

-- ---- a Dependent position is an information position
-- the last nonzero symbol of a silent word stands on an information position
last_nonzero : (s : Shape) → Lawful s → (f : ℕ → ℕ) → Silent s f
    → (j : ℕ) → j < word_length s → (f j ≡ 0 → ⊥) → ((i : ℕ) → j < i → f i ≡ 0) → is_information s j ≡ true
unfolding is_information
last_nonzero s h f quiet j l nonzero zeros =
    and_both
    (⊎_elim (λ t. t) (λ up. absurd (nonzero (in_upper (leb-false (s.n - 1) (j / s.q) up)))) (either (leb (s.n - 1) (j / s.q))))
    (⊎_elim (λ t. t) (λ left. absurd (nonzero (in_first (leb-false 1 (j % s.q) left)))) (either (leb 1 (j % s.q))))
  where
    in_upper : j / s.q < s.n - 1 → f j ≡ 0
    in_upper up =
        silent_zero s h f quiet
        (λ r c lr lq pos lc.
        let below : j / s.q < r = omega arith in
        zeros (r * s.q + c) (omega (arith, position s j, digits_lt below (column_lt s h j))))
        j l

    in_first : j % s.q < 1 → f j ≡ 0
    in_first left =
        ap f (sym (position s j))
        ∙ row_zero s h f quiet (j / s.q) (row_lt s h j l) (λ c pos lc. zeros (j / s.q * s.q + c) (omega (arith, position s j)))
        (j % s.q) (column_lt s h j)

-- the chosen positions below j, and j
ones : ℕ → (ℕ → Bool) → ℕ → Bool
ones j chosen i = cond (ltb i j) (chosen i) (eqb i j)

ones_below : (j : ℕ) (chosen : ℕ → Bool) (i : ℕ) → i < j → ones j chosen i ≡ chosen i
unfolding ones
ones_below j chosen i l = ap (λ (b : Bool). cond b (chosen i) (eqb i j)) (lt-ltb i j l)

ones_here : (j : ℕ) (chosen : ℕ → Bool) → ones j chosen j ≡ true
unfolding ones
ones_here j chosen = ap (λ (b : Bool). cond b (chosen j) (eqb j j)) (le-ltb j j (le_refl j)) ∙ eq-eqb j j refl

ones_after : (j : ℕ) (chosen : ℕ → Bool) (i : ℕ) → j < i → ones j chosen i ≡ false
unfolding ones
ones_after j chosen i l = ap (λ (b : Bool). cond b (chosen i) (eqb i j)) (le-ltb i j (omega arith)) ∙ ne_eqb i j (λ e. omega arith)

-- as a word they are silent
dependent_information : (s : Shape) → Lawful s → (j : ℕ) → j < word_length s → Dependent s j → is_information s j ≡ true
dependent_information s h j l d =
    last_nonzero s h (λ i. bit (p i)) quiet j l (λ z. omega (arith, bit_true (ones_here j d.chosen)))
    (λ i lt. bit_false (ones_after j d.chosen i lt))
  where
    p : ℕ → Bool
    p = ones j d.chosen

    quiet : Silent s (λ i. bit (p i))
    quiet = record {
      silent = λ t L lt lL.
          last_one s j l p (ones_here j d.chosen) (λ i li ln. ones_after j d.chosen i li) t L
          ∙ ap (λ (x : ℕ). x ⊕ column s j t L)
          (cong _ _ _ (λ i li. ap (λ (b : Bool). when b (column s i t L)) (ones_below j d.chosen i li))
          ∙ sym (d.sum t L lt lL))
          ∙ self (column s j t L);
    }

-- ---- all together
pub information_positions : (s : Shape) → Lawful s → InformationPositions s
information_positions s h = record {
  lower = info_lt s h;
  rising = info_rising s h;
  dependent = λ k l. information_dependent s h (info_position s k) (info_lt s h k l) (info_is s h k l);
  complete = λ j l d. info_complete s h j l (dependent_information s h j l d);
  exact = λ j l. (information_dependent s h j l, dependent_information s h j l);
  information = information_count s h;
  parity = parity_count s h;
}
