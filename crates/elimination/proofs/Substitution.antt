-- Unknown after unknown, the last one first.
use mathlib.Core.Path.{◌≡◌, refl, sym, ap, ap₂, ◌∙◌}
use mathlib.Core.Bool.{Bool}
use mathlib.Core.List.{List}
use Prim.Native.Nat.{ℕ, ◌+◌, ◌<◌, ◌≤◌}
use native.Mathlib.Decide.{dec_lt}
use native.Mathlib.Numerals.{add-one}
use native.Mathlib.Omega.{arith}
use lib.Dec.{eqb}
use lib.ListN.{length, set, length-set}
use lib.Seq.{get_or-set_same, get_or-set_other}
use borrow.Author.Count.{below_more}
use Rattle.parity.specs.Xor.{◌⊕◌, xor_sum, when}
use Rattle.parity.specs.Lists.{at}
use Rattle.parity.proofs.Xors.{assoc, self, zero_r}
use Rattle.elimination.specs.System.{row_sum, Solves}
use Rattle.elimination.specs.Packed.{cell_of}
use Rattle.elimination.specs.Steps.{TakenOff, Substituted}
use Rattle.elimination.proofs.Sums.{row_unit}

-- ---- an unknown is taken off the rows before its own
pub taken_none : {S k : ℕ} {scratch xs : List ℕ} → length xs ≡ 248 → TakenOff S k 0 scratch xs xs
taken_none size = record { size = size; taken = λ t l. absurd (omega arith); others = λ t l. refl }

pub taken_more : {S k i v : ℕ} {scratch old new : List ℕ} → i < 248 → v ≡ when (cell_of S scratch i k) (at old k)
    → TakenOff S k i scratch old new → TakenOff S k (i + 1) scratch old (set new i (at new i ⊕ v))
taken_more {S} {k} {i} {v} {scratch} {old} {new} li e h = record {
  size = length-set new i x ∙ h.size;
  taken =
      below_more (λ t. at (set new i x) t ≡ at old t ⊕ when (cell_of S scratch t k) (at old k)) i
      (λ t l. get_or-set_other new i t x 0 (λ z. omega arith) ∙ h.taken t l)
      (get_or-set_same new i x 0 (omega (arith, h.size)) ∙ ap₂ (λ (a b : ℕ). a ⊕ b) (h.others i (omega arith)) e);
  others = λ t l. get_or-set_other new i t x 0 (λ z. omega arith) ∙ h.others t (omega arith);
}
  where
    x : ℕ
    x = at new i ⊕ v

-- ---- all of them
row_more : (k : ℕ) (a : ℕ → Bool) (x : ℕ → ℕ) → row_sum (k + 1) a x ≡ row_sum k a x ⊕ when (a k) (x k)
unfolding row_sum xor_sum
row_more k a x = rw (add-one k)

-- row k, of which only column k is left, gives unknown k
pub substituted_more : {S p k n : ℕ} {scratch old mid new : List ℕ} → ((i j : ℕ) → i < p → j ≤ i → cell_of S scratch i j ≡ eqb i j) → k < p → n ≡ k + 1
    → Substituted S p n scratch old mid → TakenOff S k k scratch mid new → Substituted S p k scratch old new
substituted_more {S} {p} {k} {n} {scratch} {old} {mid} {new} unit lk e before t = record {
  size = t.size;
  known = λ x s j l lp.
      t.others j l ∙ elim (dec_lt k j) [
        | yes a ↦ h.known x s j (omega arith) lp
        | no a ↦ let e : j ≡ k = omega arith in ap (at mid) e ∙ own x s ∙ ap x (sym e)
      ];
  rest = λ x s. record {
    row = λ i l.
        sym
        (t.taken i l
        ∙ ap₂ (λ (a b : ℕ). a ⊕ when (cell_of S scratch i k) b) (sym ((h.rest x s).row i (omega arith)) ∙ row_more k (cell_of S scratch i) x) (own x s)
        ∙ assoc (row_sum k (cell_of S scratch i) x) (when (cell_of S scratch i k) (x k)) (when (cell_of S scratch i k) (x k))
        ∙ ap (λ (a : ℕ). row_sum k (cell_of S scratch i) x ⊕ a) (self (when (cell_of S scratch i k) (x k)))
        ∙ zero_r (row_sum k (cell_of S scratch i) x));
  };
}
  where
    h : Substituted S p (k + 1) scratch old mid
    h = rw e at before

    own : (x : ℕ → ℕ) → Solves p p (cell_of S scratch) (at old) x → at mid k ≡ x k
    own x s =
        sym ((h.rest x s).row k (omega arith))
        ∙ row_unit (k + 1) k (cell_of S scratch k) x (omega arith) (λ j l. unit k j lk (omega arith))
