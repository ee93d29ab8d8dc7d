-- Values XORed onto the entries of a list, one at a time.
use mathlib.Core.Path.{◌≡◌, refl, sym, ap, ◌∙◌}
use mathlib.Core.Logic.{⊎_elim}
use mathlib.Core.Bool.{true, false}
use mathlib.Core.List.{List}
use Prim.Native.Nat.{ℕ, ◌+◌, ◌<◌}
use lib.Dec.{eqb}
use lib.ListN.{length, set, length-set}
use lib.Seq.{get_or-set_same, get_or-set_other, ext_get_or}
use borrow.Author.Tests.{eqb-true, eqb-false}
use Rattle.parity.specs.Xor.{◌⊕◌, xor_sum, when}
use Rattle.parity.proofs.Xors.{assoc, self, zero_r}
use Rattle.parity.proofs.XorSums.{xs_zero, more}
use Rattle.parity.proofs.Tests.{either}
use Rattle.gtb.specs.Square.{at}
use Rattle.correction.specs.Steps.{Toggled}

-- one entry
toggle : (xs : List ℕ) (i v e : ℕ) → i < length xs → at (set xs i (at xs i ⊕ v)) e ≡ at xs e ⊕ when (eqb i e) v
unfolding when
toggle xs i v e l =
    ⊎_elim
    (λ (t : eqb i e ≡ true). let same : i ≡ e = eqb-true i e t in rw (t, ← same) (get_or-set_same xs i (at xs i ⊕ v) 0 l))
    (λ (f : eqb i e ≡ false). rw f (get_or-set_other xs i e (at xs i ⊕ v) 0 (λ q. eqb-false i e f (sym q)) ∙ sym (zero_r (at xs e))))
    (either (eqb i e))

-- before the first
pub toggled_none : (place value : ℕ → ℕ) (xs : List ℕ) → Toggled 0 place value xs xs
toggled_none place value xs = record {
  size = refl;
  entry = λ e. sym (ap (λ (x : ℕ). at xs e ⊕ x) (xs_zero (λ x. when (eqb (place x) e) (value x))) ∙ zero_r (at xs e));
}

-- one turn of a loop
pub toggled_more : {k : ℕ} {place value : ℕ → ℕ} {old new : List ℕ} (i : ℕ)
    → Toggled k place value old new → i ≡ place k → i < length old → Toggled (k + 1) place value old (set new i (at new i ⊕ value k))
toggled_more {k} {place} {value} {old} {new} i h e l = record {
  size = length-set new i (at new i ⊕ value k) ∙ h.size;
  entry = λ x.
      toggle new i (value k) x (rw h.size l)
      ∙ ap (λ (y : ℕ). y ⊕ when (eqb i x) (value k)) (h.entry x)
      ∙ assoc (at old x) (xor_sum k (λ y. when (eqb (place y) x) (value y))) (when (eqb i x) (value k))
      ∙ ap (λ (y : ℕ). at old x ⊕ (xor_sum k (λ y. when (eqb (place y) x) (value y)) ⊕ when (eqb y x) (value k))) e
      ∙ ap (λ (y : ℕ). at old x ⊕ y) (more k (λ y. when (eqb (place y) x) (value y)) refl);
}

-- taken off again
pub toggled_back : {k : ℕ} {place value : ℕ → ℕ} {old mid new : List ℕ} → Toggled k place value old mid → Toggled k place value mid new → new ≡ old
toggled_back {k} {place} {value} {old} {mid} {new} a b =
    ext_get_or 0 new old (b.size ∙ a.size)
    (λ e l.
    let x : ℕ = xor_sum k (λ i. when (eqb (place i) e) (value i)) in
    b.entry e ∙ ap (λ (y : ℕ). y ⊕ x) (a.entry e) ∙ assoc (at old e) x x ∙ ap (λ (y : ℕ). at old e ⊕ y) (self x) ∙ zero_r (at old e))
