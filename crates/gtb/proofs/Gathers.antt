-- The symbols on the information positions, copied row by row.
use mathlib.Core.Path.{◌≡◌, ap, ◌∙◌}
use mathlib.Core.List.{List}
use Prim.Native.Nat.{ℕ, ◌+◌, ◌-◌, ◌*◌, ◌/◌, ◌%◌, ◌<◌}
use native.Mathlib.Nat.{add_assoc, mul_comm, suc-mul}
use native.Mathlib.Numerals.{add-one}
use native.Mathlib.Decide.{dec_lt}
use native.Mathlib.Omega.{arith}
use lib.ListN.{length}
use lib.Arith.{digits_div, digits_mod}
use Rattle.parity.proofs.Lists.{is_tabulate}
use Rattle.gtb.specs.declared.Shape.{Shape}
use Rattle.gtb.specs.Shape.{info_length}
use Rattle.gtb.specs.Square.{at}
use Rattle.gtb.specs.Positions.{info_position, extract_of}
use Rattle.parity.specs.Lists.{Written}

-- the symbols of i lower rows are copied; row m is the first, and each has p symbols
pub record RowsGathered (q m p i : ℕ) (w xs xs' : List ℕ) : Type 0 where
  pub size : length xs' ≡ length xs
  pub entry : (k : ℕ) → k < i * p → at xs' k ≡ at w ((m + k / p) * q + (1 + k % p))

module _ (q m p : ℕ) (w xs : List ℕ) where
  -- place j of row i
  in_row : (i j : ℕ) → j < p → (m + i) * q + 1 + j ≡ (m + (i * p + j) / p) * q + (1 + (i * p + j) % p)
  in_row i j l = rw (digits_div i l, digits_mod i l) (add_assoc ((m + i) * q) 1 j)

  pub gathered_more : (i : ℕ) (xs' xs'' : List ℕ) → RowsGathered q m p i w xs xs' → Written (i * p) p (λ j. at w ((m + i) * q + 1 + j)) xs' xs'' → RowsGathered q m p (i + 1) w xs xs''
  gathered_more i xs' xs'' so_far row = record { size = row.size ∙ so_far.size; entry = λ k l. side k l (dec_lt k (i * p)) }
    where
      side : (k : ℕ) → k < (i + 1) * p → Dec (k < i * p) → at xs'' k ≡ at w ((m + k / p) * q + (1 + k % p))
      side k l (yes before) = row.below k before ∙ so_far.entry k before
      side k l (no after) =
          let below : k < i * p + p = rw (add-one i, suc-mul) at l in
          let here : k ≡ i * p + (k - i * p) = omega arith in
          rw here (row.inside (k - i * p) (omega arith) ∙ ap (at w) (in_row i (k - i * p) (omega arith)))

pub gathered_all : (s : Shape) (w xs xs' : List ℕ) → length xs ≡ info_length s → RowsGathered s.q (s.n - 1) (s.q - 1) (s.q + 1 - s.n) w xs xs' → xs' ≡ extract_of s w
unfolding extract_of info_position
gathered_all s w xs xs' len h =
    is_tabulate (info_length s) (λ k. at w (info_position s k)) xs' (h.size ∙ len) (λ k l. h.entry k (rw (mul_comm (s.q + 1 - s.n) (s.q - 1)) l))
