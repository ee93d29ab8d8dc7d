-- The positions of a row: their numbers, and their checks by the shifts of the row.
use mathlib.Core.Path.{◌≡◌, refl, sym, ap, ◌∙◌}
use mathlib.Core.List.{List}
use Prim.Native.Nat.{ℕ, zero, suc, ◌+◌, ◌*◌, ◌%◌, ◌<◌, ◌≤◌}
use native.Mathlib.Nat.{suc-mul, mod-lt, add-mod-mod, ne_of_lt}
use native.Mathlib.Numerals.{add-one}
use native.Mathlib.Omega.{arith}
use lib.Arith.{digits_lt, digits_div}
use lib.ListN.{length, set, length-set}
use lib.Seq.{get_or-set_same, get_or-set_other}
use borrow.Author.Count.{below_more}
use Rattle.gtb.specs.declared.Shape.{Shape}
use Rattle.gtb.specs.Shape.{Lawful, word_length, slope_of}
use Rattle.gtb.specs.Square.{line_of, at}
use Rattle.gtb.proofs.Bounds.{positive}
use Rattle.gtb.proofs.Lines.{line_at}
use Rattle.correction.specs.Error.{check_of}
use Rattle.correction.specs.Steps.{Shifts}
use Rattle.correction.proofs.CheckNumbers.{check_row}

-- position row × q + c is in the word
pub in_word : (s : Shape) {row c : ℕ} → row < s.q → c < s.q → row * s.q + c < word_length s
in_word s lr lc = digits_lt lr lc

pub next_row : (row q : ℕ) → (row + 1) * q ≡ row * q + q
next_row row q = ap (λ (x : ℕ). x * q) (add-one row) ∙ suc-mul row q

-- the row's own check
pub own_check : (s : Shape) (row : ℕ) {c : ℕ} → c < s.q → row ≡ check_of s (row * s.q + c) 0
own_check s row {c} l = sym (digits_div row l) ∙ check_row s 0 (row * s.q + c) refl

-- ---- the list of the shifts
pub shifts_none : (s : Shape) (row : ℕ) {shifts : List ℕ} → length shifts ≡ 8 → Shifts s row 1 shifts
shifts_none s row e = record { size = e; shift = λ t l one. absurd (omega arith) }

pub shifts_more : {s : Shape} {row t : ℕ} {shifts : List ℕ} (v : ℕ)
    → t < 8 → v ≡ slope_of s t * row % s.q → Shifts s row t shifts → Shifts s row (t + 1) (set shifts t v)
shifts_more {s} {row} {t} {shifts} v l e h = record {
  size = length-set shifts t v ∙ h.size;
  shift = below_more (λ u. 1 ≤ u → at (set shifts t v) u ≡ slope_of s u * row % s.q) t
      (λ u lu one. get_or-set_other shifts t u v 0 (ne_of_lt lu) ∙ h.shift u lu one)
      (λ one. get_or-set_same shifts t v 0 (rw h.size l) ∙ e);
}

-- ---- the checks on a position
module _ {s : Shape} {row : ℕ} {shifts : List ℕ} (given : Shifts s row s.n shifts) where
  pub shift_lt : Lawful s → (t : ℕ) → t < s.n → 1 ≤ t → at shifts t < s.q
  shift_lt h t lt one = rw (given.shift t lt one) (mod-lt (slope_of s t * row) (positive s h))

  -- its check in a direction from 1 on
  shift_line : (t c : ℕ) → c < s.q → t < s.n → 1 ≤ t → (c + at shifts t) % s.q ≡ line_of s t (row * s.q + c)
  shift_line zero c lc lt one = absurd (omega arith)
  shift_line (suc t) c lc lt one =
      ap (λ (x : ℕ). (c + x) % s.q) (given.shift (suc t) lt one) ∙ add-mod-mod c (slope_of s (suc t) * row) s.q ∙ sym (line_at s t row c lc)

  pub shift_check : (t c : ℕ) {x : ℕ} → c < s.q → t < s.n → 1 ≤ t → x ≡ (c + at shifts t) % s.q → t * s.q + x ≡ check_of s (row * s.q + c) t
  shift_check t c lc lt one e = ap (λ (y : ℕ). t * s.q + y) (e ∙ shift_line t c lc lt one)
