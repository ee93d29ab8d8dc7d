-- Cells of the rows in the scratch, toggled.
use mathlib.Core.Path.{◌≡◌, refl, sym, ap, ap₂, ◌∙◌}
use mathlib.Core.Bool.{Bool, true, false, beq, xor, ◌&&◌}
use mathlib.Core.List.{List}
use mathlib.Core.Logic.{⊎_elim}
use Prim.Native.Nat.{ℕ, ◌+◌, ◌*◌, ◌/◌, ◌%◌, ◌^◌, ◌<◌, ◌≤◌}
use native.Mathlib.Nat.{one-mul, zero-div}
use native.Mathlib.Omega.{arith}
use lib.Arith.{digits_div, digits_mod}
use lib.Dec.{eqb, lit<}
use lib.Pow.{shl_exact}
use lib.ListN.{length, set, length-set, replicate}
use borrow.Author.Tests.{eqb-true, eqb-false, eq-eqb}
use Rattle.parity.specs.Xor.{◌⊕◌, when}
use Rattle.parity.specs.Count.{all}
use Rattle.parity.specs.Lists.{at}
use Rattle.parity.proofs.Tests.{either, agree, same_eqb, and_left, and_right, all_elim}
use Rattle.parity.proofs.Lists.{at_zeros}
use Rattle.elimination.specs.Packed.{bit_at, cell_of}
use Rattle.elimination.proofs.Cells.{bit_at_xor, row_before, added_value}
use Rattle.elimination.proofs.Systems.{xor_none}
use Rattle.erasure.specs.Steps.{Flipped}

-- ---- one bit
bit_zero : (k : ℕ) → bit_at 0 k ≡ false
unfolding bit_at
bit_zero k = ap (λ (x : ℕ). eqb (x % 2) 1) (zero-div (2 ^ k))

-- one value of 32 bits with one bit
abbrev right : ℕ → ℕ → Bool
right a c = beq (bit_at (2 ^ a) c) (eqb c a)

all_right : all 32 (λ a. all 32 (right a)) ≡ true
unfolding all bit_at
all_right = refl

bit_power : (a c : ℕ) → a < 32 → c < 32 → bit_at (2 ^ a) c ≡ eqb c a
bit_power a c la lc = agree _ _ (all_elim 32 (right a) (all_elim 32 (λ a. all 32 (right a)) all_right a la) c lc)

-- the code's way to write it
pub one_shifted : (a : ℕ) → a < 32 → 1 * 2 ^ a % 2 ^ 32 ≡ 2 ^ a
one_shifted a l = shl_exact 1 a 32 (lit< tt) (omega arith) ∙ one-mul (2 ^ a)

-- ---- one cell
module _ (S : ℕ) (old : List ℕ) (row k : ℕ) (lk : k < 32 * S) where
  -- where the cell stands
  abbrev place : ℕ → ℕ → ℕ
  place i c = i * S + c / 32

  same_place : (i c : ℕ) → c < 32 * S → place i c ≡ place row k → (i ≡ row) × (c / 32 ≡ k / 32)
  same_place i c lc e =
      let l : c / 32 < S = omega arith in
      let m : k / 32 < S = omega arith in
      (sym (digits_div i l) ∙ ap (λ (x : ℕ). x / S) e ∙ digits_div row m, sym (digits_mod i l) ∙ ap (λ (x : ℕ). x % S) e ∙ digits_mod row m)

  marked : (i c : ℕ) → c < 32 * S → bit_at (when (eqb (place i c) (place row k)) (2 ^ (k % 32))) (c % 32) ≡ (eqb i row && eqb c k)
  unfolding when
  marked i c lc =
      ⊎_elim
      (λ (y : eqb (place i c) (place row k) ≡ true).
      let (er, ec) = same_place i c lc (eqb-true _ _ y) in
      ap (λ (b : Bool). bit_at (when b (2 ^ (k % 32))) (c % 32)) y
      ∙ bit_power (k % 32) (c % 32) (omega arith) (omega arith)
      ∙ same_eqb (c % 32) (k % 32) c k (λ e. omega arith) (λ e. omega arith)
      ∙ sym (ap (λ (b : Bool). b && eqb c k) (eq-eqb i row er)))
      (λ (f : eqb (place i c) (place row k) ≡ false).
      ap (λ (b : Bool). bit_at (when b (2 ^ (k % 32))) (c % 32)) f ∙ bit_zero (c % 32)
      ∙ sym
      (⊎_elim
      (λ (y : (eqb i row && eqb c k) ≡ true).
      absurd
      (eqb-false _ _ f
      (ap₂ place (eqb-true i row (and_left _ _ y)) (eqb-true c k (and_right (eqb i row) _ y)))))
      (λ n. n) (either (eqb i row && eqb c k))))
      (either (eqb (place i c) (place row k)))

  pub flipped_one : (rows : ℕ) → place row k < length old
      → Flipped S rows (λ i c. eqb i row && eqb c k) old (set old (place row k) (at old (place row k) ⊕ 2 ^ (k % 32)))
  unfolding cell_of
  flipped_one rows l = record {
    size = length-set old (place row k) (at old (place row k) ⊕ 2 ^ (k % 32));
    cell = λ i c li lc.
        ap (λ (x : ℕ). bit_at x (c % 32)) (added_value old (place row k) (2 ^ (k % 32)) (place i c) l)
        ∙ bit_at_xor (at old (place i c)) (when (eqb (place i c) (place row k)) (2 ^ (k % 32))) (c % 32)
        ∙ ap (xor (bit_at (at old (place i c)) (c % 32))) (marked i c lc);
  }

-- the value is in the scratch
pub cell_inside : (S rows row k size : ℕ) → row < rows → k < 32 * S → rows * S ≤ size → row * S + k / 32 < size
cell_inside S rows row k size lr lk le = omega (arith, row_before S row rows lr)

-- ---- several
xor_assoc : (a b c : Bool) → xor (xor a b) c ≡ xor a (xor b c)
unfolding xor
xor_assoc true true true = refl
xor_assoc true true false = refl
xor_assoc true false true = refl
xor_assoc true false false = refl
xor_assoc false true true = refl
xor_assoc false true false = refl
xor_assoc false false true = refl
xor_assoc false false false = refl

pub flipped_none : (S r : ℕ) (e : ℕ → ℕ → Bool) (xs : List ℕ) → ((i c : ℕ) → i < r → e i c ≡ false) → Flipped S r e xs xs
flipped_none S r e xs none = record { size = refl; cell = λ i c li lc. sym (xor_none (cell_of S xs i c) (none i c li)) }

pub flipped_then : {S r : ℕ} {e e' : ℕ → ℕ → Bool} (e'' : ℕ → ℕ → Bool) {old mid new : List ℕ} → Flipped S r e old mid → Flipped S r e' mid new
    → ((i c : ℕ) → i < r → e'' i c ≡ xor (e i c) (e' i c)) → Flipped S r e'' old new
flipped_then {S} {e = e} {e'} e'' {old} a b both = record {
  size = b.size ∙ a.size;
  cell = λ i c li lc.
      b.cell i c li lc ∙ ap (λ (x : Bool). xor x (e' i c)) (a.cell i c li lc) ∙ xor_assoc (cell_of S old i c) (e i c) (e' i c)
      ∙ ap (xor (cell_of S old i c)) (sym (both i c li));
}

pub flipped_as : {S r : ℕ} {e : ℕ → ℕ → Bool} (e' : ℕ → ℕ → Bool) {old new : List ℕ} → Flipped S r e old new
    → ((i c : ℕ) → i < r → e' i c ≡ e i c) → Flipped S r e' old new
flipped_as {S} e' {old} h same = record {
  size = h.size;
  cell = λ i c li lc. h.cell i c li lc ∙ ap (xor (cell_of S old i c)) (sym (same i c li));
}

-- from zeros
pub flipped_zeros : {S r : ℕ} (n : ℕ) {e : ℕ → ℕ → Bool} {new : List ℕ} → Flipped S r e (replicate n 0) new
    → (i c : ℕ) → i < r → c < 32 * S → cell_of S new i c ≡ e i c
unfolding cell_of xor
flipped_zeros {S} n {e} h i c li lc =
    h.cell i c li lc ∙ ap (λ (b : Bool). xor b (e i c)) (ap (λ (x : ℕ). bit_at x (c % 32)) (at_zeros n (i * S + c / 32)) ∙ bit_zero (c % 32))
    ∙ none (e i c)
  where
    none : (b : Bool) → xor false b ≡ b
    none true = refl
    none false = refl
