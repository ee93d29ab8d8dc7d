-- What stands in front of a run.
use mathlib.Core.Path.{◌≡◌, ap, ◌∙◌}
use mathlib.Core.List.{List}
use Prim.Native.Nat.{ℕ, zero, suc, ◌+◌, ◌<◌}
use native.Mathlib.Nat.{add-zero}
use native.Mathlib.Omega.{arith}
use lib.ListN.{length, set, length-set}
use lib.Seq.{get_or-set_same, get_or-set_other}
use Rattle.parity.specs.Xor.{xor_sum}
use Rattle.gtb.specs.Square.{at}
use Rattle.gtb.specs.Rows.{lower_row}
use Rattle.parity.specs.Lists.{Written}

-- a lower row: its symbols are written, then their XOR in front
pub written_lower : (a n : ℕ) (g : ℕ → ℕ) (w w' : List ℕ) (v : ℕ) → a < length w → v ≡ xor_sum n g → Written (a + 1) n g w w' → Written a (n + 1) (lower_row n g) w (set w' a v)
unfolding lower_row
written_lower a n g w w' v fits is h = record {
  size = length-set w' a v ∙ h.size;
  inside = inner;
  below = λ j l. get_or-set_other w' a j v 0 (λ e. omega arith) ∙ h.below j (omega arith);
  above = λ j l. get_or-set_other w' a j v 0 (λ e. omega arith) ∙ h.above j (omega arith);
}
  where
    inner : (i : ℕ) → i < n + 1 → at (set w' a v) (a + i) ≡ lower_row n g i
    inner zero l = ap (at (set w' a v)) (add-zero a) ∙ get_or-set_same w' a v 0 (omega (arith, h.size)) ∙ is
    inner (suc i) l = get_or-set_other w' a (a + suc i) v 0 (λ e. omega arith) ∙ ap (at w') (omega arith) ∙ h.inside i (omega arith)
