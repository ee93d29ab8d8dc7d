-- The rows of a square as functions on a cycle: syndromes are their values at the shifts.
use mathlib.Core.Path.{◌≡◌, sym, ap, ◌∙◌}
use Prim.Native.Nat.{ℕ, zero, suc, ◌+◌, ◌-◌, ◌*◌, ◌%◌, ◌^◌, ◌≤◌, ◌<◌}
use native.Mathlib.Nat.{add-mod_right, mod-eq_of_lt, mod-add-mod, mod-lt}
use native.Mathlib.Omega.{arith}
use Rattle.parity.specs.Xor.{xor_sum}
use Rattle.parity.specs.Cyclic.{Cyclic, eval}
use Rattle.parity.proofs.Xors.{self}
use Rattle.parity.proofs.XorSums.{cong, first, bound}
use Rattle.gtb.specs.declared.Shape.{Shape}
use Rattle.gtb.specs.Shape.{Lawful}
use Rattle.gtb.specs.Square.{syndrome, Silent}
use Rattle.gtb.proofs.Bounds.{positive}
use Rattle.gtb.specs.Rows.{shift_of, row_of, lower_row}
use Rattle.gtb.proofs.Rows.{syndrome_row, syndrome_rows}

pub row_period : (q : ℕ) (f : ℕ → ℕ) (r c : ℕ) → row_of q f r (c + q) ≡ row_of q f r c
unfolding row_of
row_period q f r c = ap (λ (k : ℕ). f (r * q + k)) (add-mod_right c q)

pub row_total : (q : ℕ) (f : ℕ → ℕ) (r : ℕ) → xor_sum q (row_of q f r) ≡ xor_sum q (λ c. f (r * q + c))
unfolding row_of
row_total q f r = cong _ _ _ (λ c l. ap (λ (k : ℕ). f (r * q + k)) (mod-eq_of_lt l))

module _ (s : Shape) (h : Lawful s) (f : ℕ → ℕ) where
  -- a syndrome is the value of the rows at a shift
  pub syndrome_eval : (t : ℕ) → suc t < s.n → (c : ℕ) → syndrome s f (suc t) (c % s.q) ≡ eval s.q (row_of s.q f) (shift_of s t) c
  unfolding eval row_of
  syndrome_eval t l c =
      syndrome_rows s h f t (c % s.q) l (mod-lt c (positive s h))
      ∙ cong _ _ _ (λ r lr. ap (λ (k : ℕ). f (r * s.q + k)) (mod-add-mod c s.q (shift_of s t * r)))

  -- rows of zero total that vanish at each shift make a silent square
  pub rows_silent : ((r : ℕ) → r < s.q → xor_sum s.q (row_of s.q f r) ≡ 0)
      → ((t : ℕ) → suc t < s.n → (c : ℕ) → eval s.q (row_of s.q f) (shift_of s t) c ≡ 0) → Silent s f
  rows_silent total roots = record { silent = quiet }
    where
      quiet : (t L : ℕ) → t < s.n → L < s.q → syndrome s f t L ≡ 0
      quiet zero L lt l = syndrome_row s h f L l ∙ sym (row_total s.q f L) ∙ total L l
      quiet (suc t) L lt l = ap (syndrome s f (suc t)) (sym (mod-eq_of_lt l)) ∙ syndrome_eval t lt L ∙ roots t lt L

-- ---- a row below the first n - 1
pub lower_cyclic : (q : ℕ) (g : ℕ → ℕ) → 1 ≤ q → Cyclic q (λ c. lower_row (q - 1) g (c % q))
unfolding lower_row
lower_cyclic q g pos = record {
  period = λ c. ap (lower_row (q - 1) g) (add-mod_right c q);
  total =
      cong _ _ _ (λ c l. ap (lower_row (q - 1) g) (mod-eq_of_lt l))
      ∙ ap (λ (k : ℕ). xor_sum k (lower_row (q - 1) g)) (omega arith) ∙ first (q - 1) (lower_row (q - 1) g) ∙ self (xor_sum (q - 1) g);
}

pub lower_width : (n k : ℕ) (g : ℕ → ℕ) → ((i : ℕ) → g i < 2 ^ k) → (c : ℕ) → lower_row n g c < 2 ^ k
unfolding lower_row
lower_width n k g small zero = bound k n g (λ i l. small i)
lower_width n k g small (suc c) = small c
