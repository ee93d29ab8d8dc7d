-- Laws of `Added`: the entries of a stretch take up values one after the other, and round after round.
use mathlib.Core.List.{List}
use mathlib.Core.Path.{◌≡◌, ◌∙◌, refl, sym, ap, ap₂, subst, subst₂}
use Prim.Native.Nat.{ℕ, ◌+◌, ◌<◌}
use native.Mathlib.Nat.{zero-add}
use native.Mathlib.Omega.{arith}
use lib.ListN.{length, set}
use Rattle.parity.specs.Xor.{◌⊕◌, xor_sum}
use Rattle.parity.specs.Lists.{at}
use Rattle.parity.proofs.Xors.{assoc, zero_r}
use Rattle.parity.proofs.XorSums.{xs_zero, more}
use Rattle.parity.proofs.Writes.{written_more}
use Rattle.syndrome.specs.Sweep.{Added}

-- entry after entry: one more
pub added_more : (base n : ℕ) (f : ℕ → ℕ) (old new : List ℕ) → Added base n f old new → base + n < length old
    → Added base (n + 1) f old (set new (base + n) (at new (base + n) ⊕ f n))
added_more base n f old new h room =
    written_more base n (λ i. at old (base + i) ⊕ f i) old new (at new (base + n) ⊕ f n) room (ap (λ (x : ℕ). x ⊕ f n) (h.above (base + n) (omega arith))) h

-- the same from entry 0 on, with a value v that is f n
pub added_entry : (n : ℕ) (f : ℕ → ℕ) {v : ℕ} (old new : List ℕ) → Added 0 n f old new → v ≡ f n → n < length old
    → Added 0 (n + 1) f old (set new n (at new n ⊕ v))
added_entry n f old new h same room =
    subst₂ (λ (m x : ℕ). Added 0 (n + 1) f old (set new m (at new m ⊕ x))) (zero-add n) (sym same)
    (added_more 0 n f old new h (omega arith))

-- round after round over one stretch: none yet
pub rounds_none : (base n : ℕ) (f : ℕ → ℕ → ℕ) (xs : List ℕ) → Added base n (λ i. xor_sum 0 (f i)) xs xs
rounds_none base n f xs = record {
  size = refl;
  inside = λ i l. sym (ap (λ (x : ℕ). at xs (base + i) ⊕ x) (xs_zero (f i)) ∙ zero_r (at xs (base + i)));
  below = λ e l. refl;
  above = λ e l. refl;
}

-- one more
pub rounds_more : (base n k : ℕ) (f : ℕ → ℕ → ℕ) (g : ℕ → ℕ) (old mid new : List ℕ) → Added base n (λ i. xor_sum k (f i)) old mid
    → Added base n g mid new → ((i : ℕ) → g i ≡ f i k) → Added base n (λ i. xor_sum (k + 1) (f i)) old new
rounds_more base n k f g old mid new first second same = record {
  size = second.size ∙ first.size;
  inside = λ i l.
      second.inside i l ∙ ap₂ (λ (x y : ℕ). x ⊕ y) (first.inside i l) (same i)
      ∙ assoc (at old (base + i)) (xor_sum k (f i)) (f i k)
      ∙ ap (λ (x : ℕ). at old (base + i) ⊕ x) (more k (f i) refl);
  below = λ e l. second.below e l ∙ first.below e l;
  above = λ e l. second.above e l ∙ first.above e l;
}

-- all m
pub rounds_end : {base n k m : ℕ} (f : ℕ → ℕ → ℕ) {old new : List ℕ} → Added base n (λ i. xor_sum k (f i)) old new → k ≡ m
    → Added base n (λ i. xor_sum m (f i)) old new
rounds_end {base} {n} f {old} {new} h e = subst (λ (j : ℕ). Added base n (λ i. xor_sum j (f i)) old new) e h
