-- What a written row leaves of the rows of a word.
use mathlib.Core.Path.{◌≡◌}
use mathlib.Core.List.{List}
use Prim.Native.Nat.{ℕ, suc, ◌+◌, ◌*◌, ◌%◌, ◌≤◌, ◌<◌}
use native.Mathlib.Nat.{mod-lt, suc-mul, mul-le-mul_right}
use native.Mathlib.Decide.{dec_lt}
use native.Mathlib.Omega.{arith}
use lib.Arith.{digits_lt}
use Rattle.gtb.specs.Square.{at}
use Rattle.gtb.specs.Rows.{row_of}
use Rattle.encoder.specs.Steps.{row}
use Rattle.parity.specs.Lists.{Written}

module _ (q : ℕ) (pos : 0 < q) (t : ℕ) (f : ℕ → ℕ) (w w' : List ℕ) (h : Written (t * q) q f w w') where
  -- the row that was written
  pub written_row : (c : ℕ) → row q w' t c ≡ f (c % q)
  unfolding row_of
  written_row c = h.inside (c % q) (mod-lt c pos)

  -- each other row
  pub written_other : (r : ℕ) → (r ≡ t → ⊥) → (c : ℕ) → row q w' r c ≡ row q w r c
  unfolding row_of
  written_other r ne c = side (dec_lt r t)
    where
      side : Dec (r < t) → at w' (r * q + c % q) ≡ at w (r * q + c % q)
      side (yes l) = h.below (r * q + c % q) (digits_lt l (mod-lt c pos))
      side (no l) =
          let after : suc t * q ≤ r * q = mul-le-mul_right q (omega arith) in
          h.above (r * q + c % q) (omega (arith, suc-mul t q))
