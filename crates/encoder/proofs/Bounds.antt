-- The shifts and the places of the rows of a lawful shape, in the code's numbers.
use mathlib.Core.List.{List}
use Prim.Native.Nat.{ℕ, suc, ◌+◌, ◌*◌, ◌-◌, ◌≤◌, ◌<◌}
use native.Mathlib.Nat.{suc-mul, mul-le-mul_right}
use native.Mathlib.Omega.{arith}
use lib.ListN.{length}
use Rattle.gtb.specs.declared.Shape.{Shape}
use Rattle.gtb.specs.Shape.{Lawful, word_length}
use Rattle.gtb.proofs.Bounds.{bounds}
use Rattle.gtb.proofs.Slopes.{slope_lt}
use Rattle.gtb.specs.Rows.{shift_of}
use Rattle.gtb.proofs.Turns.{row_in}
use Rattle.gtb.proofs.Sizes.{direction_room}

-- a shift is at least 1 and at most q
pub shift_bounds : (s : Shape) → Lawful s → (t : ℕ) → suc t < s.n → (1 ≤ shift_of s t) × (shift_of s t ≤ s.q)
unfolding shift_of
shift_bounds s h t l = let below = slope_lt s h (suc t) (omega arith) l in (omega arith, omega arith)

-- row r and the next lie in the word w, which is short
abbrev pub Room : ℕ → ℕ → List ℕ → Type 0
Room q r w = (r * q + q + q ≤ length w) × (length w ≤ 961)

pub rows_fit : (s : Shape) (r : ℕ) → suc r < s.q → r * s.q + s.q + s.q ≤ word_length s
rows_fit s r l = omega (arith, row_in (suc r) s.q l, suc-mul r s.q)

-- the upper rows lie in the word, and their syndromes, after those of direction 0, among the 248
pub upper_fits : (s : Shape) → Lawful s → ((s.n - 1) * s.q ≤ word_length s) × (s.q + (s.n - 1) * s.q ≤ 248)
upper_fits s h =
    let b = bounds s h in
    (mul-le-mul_right s.q (omega arith), omega (arith, direction_room s h (s.n - 1) (omega arith)))
