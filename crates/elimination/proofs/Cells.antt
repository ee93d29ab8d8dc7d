-- Rows of packed bits, XORed value by value.
use mathlib.Core.Path.{◌≡◌, refl, sym, ap, ap₂, ◌∙◌}
use mathlib.Core.Bool.{Bool, true, false, xor, ◌&&◌}
use mathlib.Core.List.{List}
use mathlib.Core.Logic.{◌⊎◌, inl, inr, ⊎_elim}
use Prim.Native.Nat.{ℕ, zero, suc, ◌+◌, ◌*◌, ◌/◌, ◌%◌, ◌^◌, ◌<◌, ◌≤◌}
use native.Mathlib.Nat.{mod-lt, mul-le-mul_right, suc-mul, zero-lt-suc}
use native.Mathlib.Decide.{dec_lt}
use native.Mathlib.Omega.{arith}
use lib.Bits.{bit_xor, xor_shr, xor_mod}
use lib.Dec.{eqb}
use lib.ListN.{length, set, length-set}
use lib.Seq.{get_or-set_same, get_or-set_other}
use borrow.Author.Count.{below_more}
use borrow.Author.Tests.{eqb-true, eqb-false}
use Rattle.parity.specs.Xor.{◌⊕◌, when}
use Rattle.parity.specs.Lists.{at}
use Rattle.parity.proofs.Xors.{zero_r}
use Rattle.parity.proofs.Tests.{either, and_no_left}
use Rattle.elimination.specs.Packed.{bit_at, cell_of}
use Rattle.elimination.specs.Steps.{RunAdded}
use Rattle.elimination.proofs.Systems.{xor_none}

-- one bit of each
low_bits : (x y : ℕ) → x < 2 → y < 2 → eqb (bit_xor x y) 1 ≡ xor (eqb x 1) (eqb y 1)
unfolding xor
low_bits zero zero lx ly = refl
low_bits zero (suc zero) lx ly = refl
low_bits (suc zero) zero lx ly = refl
low_bits (suc zero) (suc zero) lx ly = refl
low_bits zero (suc (suc y)) lx ly = absurd (omega arith)
low_bits (suc zero) (suc (suc y)) lx ly = absurd (omega arith)
low_bits (suc (suc x)) y lx ly = absurd (omega arith)

pub bit_at_xor : (a b k : ℕ) → bit_at (a ⊕ b) k ≡ xor (bit_at a k) (bit_at b k)
unfolding bit_at ◌⊕◌
bit_at_xor a b k =
    ap (λ (x : ℕ). eqb (x % 2) 1) (xor_shr a b k)
    ∙ ap (λ (x : ℕ). eqb x 1) (xor_mod (a / 2 ^ k) (b / 2 ^ k) 1)
    ∙ low_bits (a / 2 ^ k % 2) (b / 2 ^ k % 2) (mod-lt (a / 2 ^ k) (zero-lt-suc 1)) (mod-lt (b / 2 ^ k) (zero-lt-suc 1))

-- a run of values, one after the other: none yet
pub added_none : (to from first : ℕ) (xs : List ℕ) → RunAdded to from first first xs xs
added_none to from first xs = record { size = refl; inside = λ w l m. absurd (omega arith); outside = λ e l. refl }

-- one more
pub added_more : {to from first w : ℕ} {old new : List ℕ} (last : ℕ) → RunAdded to from first w old new → first ≤ w → w < last
    → to + last ≤ length old → (from + last ≤ to) ⊎ (to + last ≤ from)
    → RunAdded to from first (w + 1) old (set new (to + w) (at new (to + w) ⊕ at new (from + w)))
added_more {to} {from} {first} {w} {old} {new} last h lf lw room apart = record {
  size = length-set new (to + w) v ∙ h.size;
  inside = λ x lf' lx.
      below_more (λ x. first ≤ x → at after (to + x) ≡ at old (to + x) ⊕ at old (from + x)) w
      (λ x l m. other (to + x) (omega arith) ∙ h.inside x m l)
      (λ m.
      get_or-set_same new (to + w) v 0 (omega (arith, h.size))
      ∙ ap₂ (λ (a b : ℕ). a ⊕ b) (h.outside (to + w) (inr (omega arith)))
      (h.outside (from + w) (⊎_elim (λ l. inl (omega arith)) (λ l. inr (omega arith)) apart)))
      x lx lf';
  outside = λ e l.
      other e (⊎_elim (λ a. omega arith) (λ a. omega arith) l)
      ∙ h.outside e (⊎_elim (λ a. inl a) (λ a. inr (omega arith)) l);
}
  where
    v : ℕ
    v = at new (to + w) ⊕ at new (from + w)

    after : List ℕ
    after = set new (to + w) v

    other : (e : ℕ) → (e ≡ to + w → ⊥) → at after e ≡ at new e
    other e ne = get_or-set_other new (to + w) e v 0 ne

-- a row ends where the next ones begin
pub row_before : (S t i : ℕ) → t < i → t * S + S ≤ i * S
row_before S t i l = rw (suc-mul t S) at (mul-le-mul_right S l)

-- what p columns need of two rows does not overlap
pub rows_apart : (S p s i : ℕ) → p ≤ 32 * S → (i ≡ s → ⊥) → (s * S + (p + 31) / 32 ≤ i * S) ⊎ (i * S + (p + 31) / 32 ≤ s * S)
rows_apart S p s i l ne =
    elim (dec_lt s i) [
      | yes a ↦ inl (omega (arith, row_before S s i a))
      | no a ↦ let b : i < s = omega (arith, ne) in inr (omega (arith, row_before S i s b))
    ]

module _ (S s i : ℕ) {p k : ℕ} {old new : List ℕ} (fits : p ≤ 32 * S) (lk : k < p)
    (zeros : (j : ℕ) → j < k → cell_of S old s j ≡ false) (h : RunAdded (i * S) (s * S) (k / 32) ((p + 31) / 32) old new) where
  -- row i itself
  same_row : (j : ℕ) → j < p → cell_of S new i j ≡ xor (cell_of S old i j) (cell_of S old s j)
  unfolding cell_of
  same_row j l =
      elim (dec_lt (j / 32) (k / 32)) [
        | yes a ↦ ap (λ (x : ℕ). bit_at x (j % 32)) (h.outside (i * S + j / 32) (inl (omega arith))) ∙ sym (xor_none (cell_of S old i j) (zeros j (omega arith)))
        | no a ↦
            ap (λ (x : ℕ). bit_at x (j % 32)) (h.inside (j / 32) (omega arith) (omega arith))
            ∙ bit_at_xor (at old (i * S + j / 32)) (at old (s * S + j / 32)) (j % 32)
      ]

  -- the others
  other_row : (t j : ℕ) → (t ≡ i → ⊥) → j < p → cell_of S new t j ≡ cell_of S old t j
  unfolding cell_of
  other_row t j ne l =
      let w : j / 32 < S = omega (arith, fits) in
      ap (λ (x : ℕ). bit_at x (j % 32))
      (h.outside (t * S + j / 32)
      (elim (dec_lt t i) [
        | yes a ↦ inl (omega (arith, row_before S t i a))
        | no a ↦ let b : i < t = omega (arith, ne) in inr (omega (arith, row_before S i t b, fits))
      ]))

  pub added_cell : (t j : ℕ) → j < p → cell_of S new t j ≡ xor (cell_of S old t j) (eqb t i && cell_of S old s j)
  added_cell t j l =
      ⊎_elim
      (λ (y : eqb t i ≡ true).
      ap (λ (n : ℕ). cell_of S new n j) (eqb-true t i y) ∙ same_row j l
      ∙ ap₂ (λ (n : ℕ) (b : Bool). xor (cell_of S old n j) (b && cell_of S old s j)) (sym (eqb-true t i y)) (sym y))
      (λ (f : eqb t i ≡ false).
      other_row t j (eqb-false t i f) l ∙ sym (xor_none (cell_of S old t j) (and_no_left (cell_of S old s j) f)))
      (either (eqb t i))

-- one value is XORed onto another
pub added_value : (xs : List ℕ) (i v t : ℕ) → i < length xs → at (set xs i (at xs i ⊕ v)) t ≡ at xs t ⊕ when (eqb t i) v
unfolding when
added_value xs i v t l =
    ⊎_elim
    (λ (y : eqb t i ≡ true).
    let q : t ≡ i = eqb-true t i y in
    rw (y, q) (get_or-set_same xs i (at xs i ⊕ v) 0 l))
    (λ (f : eqb t i ≡ false). rw f (get_or-set_other xs i t (at xs i ⊕ v) 0 (eqb-false t i f) ∙ sym (zero_r (at xs t))))
    (either (eqb t i))
