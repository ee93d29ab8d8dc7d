-- The numbers of the checks, and their bounds.
use mathlib.Core.Path.{◌≡◌, refl, sym, ap, ap₂, ◌∙◌}
use Prim.Native.Nat.{ℕ, zero, suc, ◌+◌, ◌*◌, ◌/◌, ◌%◌, ◌<◌, ◌≤◌}
use native.Mathlib.Nat.{le_refl, suc-mul, zero-mul, zero-add, mul-le-mul, lt_of_lt_of_le}
use native.Mathlib.Omega.{arith}
use lib.Arith.{digits_lt}
use Rattle.gtb.specs.declared.Shape.{Shape}
use Rattle.gtb.specs.Shape.{Lawful, word_length, slope_of}
use Rattle.gtb.specs.Square.{line_of}
use Rattle.gtb.proofs.Bounds.{bounds}
use Rattle.gtb.proofs.Slopes.{slope_lt}
use Rattle.gtb.proofs.Lines.{line_lt, line_zero, line_suc}
use Rattle.correction.specs.Error.{check_of}

-- the table holds all n × q checks
pub checks_fit : (s : Shape) → Lawful s → s.n * s.q ≤ 248
checks_fit s h = mul-le-mul (bounds s h).n8 (bounds s h).q31

pub check_lt : (s : Shape) → Lawful s → (t L : ℕ) → t < s.n → L < s.q → t * s.q + L < 248
check_lt s h t L lt lL = lt_of_lt_of_le (digits_lt lt lL) (checks_fit s h)

-- and the q of each direction
pub lines_fit : (s : Shape) → Lawful s → (t : ℕ) → t < s.n → t * s.q + s.q ≤ 248
lines_fit s h t l = omega (arith, checks_fit s h, suc-mul t s.q, mul-le-mul {n₁ = suc t} {m₁ = s.q} {n₂ = s.n} {m₂ = s.q} l (le_refl s.q))

-- check_number: direction 0, and the others
pub check_row : (s : Shape) (t j : ℕ) → t ≡ 0 → j / s.q ≡ check_of s j t
check_row s t j e = rw e (sym (ap₂ (λ (x y : ℕ). x + y) (zero-mul s.q) (line_zero s j) ∙ zero-add (j / s.q)))

pub check_line : (s : Shape) (t j : ℕ) → (t ≡ 0 → ⊥) → t * s.q + (j % s.q + slope_of s t * (j / s.q)) % s.q ≡ check_of s j t
check_line s zero j ne = absurd (ne refl)
check_line s (suc t) j ne = ap (λ (x : ℕ). suc t * s.q + x) (sym (line_suc s t j))

-- slope × row fits
pub offset_le : (s : Shape) → Lawful s → (t row : ℕ) → 1 ≤ t → t < s.n → row < s.q → slope_of s t * row ≤ 961
offset_le s h t row one lt lr =
    let b = bounds s h in
    let slope = slope_lt s h t one lt in
    mul-le-mul {n₂ = 31} {m₂ = 31} (omega arith) (omega arith)

-- a position's check number is below 248
pub check_fits : (s : Shape) → Lawful s → (t j : ℕ) → t < s.n → j < word_length s → check_of s j t < 248
check_fits s h t j lt lj = check_lt s h t (line_of s t j) lt (line_lt s h t j lt lj)
