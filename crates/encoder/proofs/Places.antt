-- The symbols put down, one lower row at a time.
use mathlib.Core.Path.{◌≡◌, sym, ap, ◌∙◌}
use mathlib.Core.List.{List}
use mathlib.Core.Logic.{⊎_elim}
use Prim.Native.Nat.{ℕ, ◌+◌, ◌-◌, ◌*◌, ◌%◌, ◌<◌}
use native.Mathlib.Nat.{eq-or-lt_of_le, zero-add, mod-lt}
use native.Mathlib.Omega.{arith}
use lib.Arith.{digits_lt}
use lib.ListN.{length}
use Rattle.gtb.specs.declared.Shape.{Shape}
use Rattle.gtb.specs.Shape.{Lawful, word_length}
use Rattle.gtb.specs.Square.{at}
use Rattle.gtb.proofs.Bounds.{positive}
use Rattle.gtb.specs.Rows.{row_of, lower_row}
use Rattle.encoder.specs.Steps.{row, Placed}
use Rattle.parity.specs.Lists.{Written}
use Rattle.encoder.proofs.Rows.{written_row, written_other}

-- i lower rows are put down, row m the first; each has p symbols
pub record Placing (q m p i : ℕ) (xs w w' : List ℕ) : Type 0 where
  pub size : length w' ≡ length w
  pub upper : (r : ℕ) → r < m → (c : ℕ) → row q w' r c ≡ row q w r c
  pub lower : (k : ℕ) → k < i → (c : ℕ) → row q w' (m + k) c ≡ lower_row p (λ j. at xs (k * p + j)) (c % q)

module _ (q m p : ℕ) (xs w : List ℕ) where
  pub placing_more : (i : ℕ) (w' w'' : List ℕ) → 0 < q → p + 1 ≡ q → Placing q m p i xs w w'
      → Written ((m + i) * q) (p + 1) (lower_row p (λ j. at xs (i * p + j))) w' w'' → Placing q m p (i + 1) xs w w''
  placing_more i w' w'' pos width so_far lent = record {
    size = lent.size ∙ so_far.size;
    upper = λ r l c. other r (λ e. omega arith) c ∙ so_far.upper r l c;
    lower = λ k l c.
        ⊎_elim (λ (e : k ≡ i). rw e (written_row q pos (m + i) (lower_row p (λ j. at xs (i * p + j))) w' w'' written c))
        (λ (l' : k < i). other (m + k) (λ e. omega arith) c ∙ so_far.lower k l' c) (eq-or-lt_of_le (omega arith));
  }
    where
      written : Written ((m + i) * q) q (lower_row p (λ j. at xs (i * p + j))) w' w''
      written = rw width at lent

      other : (r : ℕ) → (r ≡ m + i → ⊥) → (c : ℕ) → row q w'' r c ≡ row q w' r c
      other = written_other q pos (m + i) (lower_row p (λ j. at xs (i * p + j))) w' w'' written

pub placing_all : (s : Shape) → Lawful s → (xs w₀ w w' : List ℕ) → length w₀ ≡ word_length s → Written 0 ((s.n - 1) * s.q) (λ i. 0) w₀ w
    → Placing s.q (s.n - 1) (s.q - 1) (s.q - (s.n - 1)) xs w w' → Placed s xs w'
unfolding row_of
placing_all s h xs w₀ w w' size zeros p = record {
  size = p.size ∙ zeros.size ∙ size;
  upper = λ r l c. p.upper r (omega arith) c ∙ cleared (r * s.q + c % s.q) (digits_lt (omega arith) (mod-lt c (positive s h)));
  lower = λ i l c. p.lower i (omega arith) c;
}
  where
    cleared : (j : ℕ) → j < (s.n - 1) * s.q → at w j ≡ 0
    cleared j l = ap (at w) (sym (zero-add j)) ∙ zeros.inside j l
