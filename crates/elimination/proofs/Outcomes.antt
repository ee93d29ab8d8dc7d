-- The three answers of an elimination.
use mathlib.Core.Path.{◌≡◌, refl, sym, ap, ◌∙◌}
use mathlib.Core.Bool.{Bool}
use mathlib.Core.List.{List}
use Prim.Native.Nat.{ℕ, ◌+◌, ◌-◌, ◌<◌, ◌≤◌}
use native.Mathlib.Omega.{arith}
use Rattle.parity.specs.Xor.{◌⊕◌}
use Rattle.parity.specs.Lists.{at}
use Rattle.parity.proofs.Xors.{self, twice}
use Rattle.elimination.specs.declared.Outcome.{Outcome}
use Rattle.elimination.specs.declared.Outcome.TheVariants.{Solved, Unsolvable, Ambiguous}
use Rattle.elimination.specs.System.{Impossible, Unique, Several}
use Rattle.elimination.specs.Outcome.{Eliminated}
use Rattle.elimination.specs.Steps.{Progress, Substituted}
use Rattle.elimination.proofs.Ends.{end_none, end_one, end_several}

never : {A : Type 0} → ◌≡◌ {A = ℕ} 0 1 → A
never z = absurd (omega arith)

module _ {r S p u : ℕ} {old values new left : List ℕ} (h : Progress r S p p u old values new left) where
  -- a value is left in a row without columns
  pub answer_none : (i : ℕ) × (u ≤ i) × (i < r) × (at left i ≡ 0 → ⊥) → Eliminated r S p old values Unsolvable left
  answer_none (i, lu, lr, ne) = record {
    size = h.sizes;
    solved = λ q. never (cc);
    unsolvable = λ q. end_none h.kept h.reduced i lu lr ne;
    ambiguous = λ q. never (cc);
  }

  module _ (none : (i : ℕ) → i < r - u → at left (u + i) ≡ 0) where
    zero : (i : ℕ) → u ≤ i → i < r → at left i ≡ 0
    zero i lu lr = let e : u + (i - u) ≡ i = omega arith in rw e at (none (i - u) (omega arith))

    pub answer_several : u < p → Eliminated r S p old values Ambiguous left
    answer_several l = record {
      size = h.sizes;
      solved = λ q. never (cc);
      unsolvable = λ q. never (cc);
      ambiguous = λ q. end_several h.kept h.reduced zero l;
    }

    pub answer_one : {last : List ℕ} → p ≤ u → Substituted S p 0 new left last → Eliminated r S p old values Solved last
    answer_one {last} l t = record {
      size = t.size;
      solved = λ q. end_one h.kept h.reduced zero (at last) l (λ x s k. t.known x s k (omega arith));
      unsolvable = λ q. never (cc);
      ambiguous = λ q. never (cc);
    }

-- the three exclude one another
module _ {p r : ℕ} {m : ℕ → ℕ → Bool} {v : ℕ → ℕ} where
  one_or_none : {x : ℕ → ℕ} → Unique p r m v x → Impossible p r m v → ⊥
  one_or_none {x} a b = b.none x a.solves

  one_or_several : {x : ℕ → ℕ} → Unique p r m v x → Several p r m v → ⊥
  one_or_several a b =
      let k = b.place in
      let same : b.one k ≡ b.one k ⊕ b.change k =
      a.only b.one b.solves k b.inside ∙ sym (a.only (λ k. b.one k ⊕ b.change k) b.other k b.inside) in
      let z : ◌≡◌ {A = ℕ} 0 1 = sym (self (b.one k)) ∙ ap (λ (n : ℕ). b.one k ⊕ n) same ∙ twice (b.one k) (b.change k) ∙ b.differs in
      omega arith

  none_or_several : Impossible p r m v → Several p r m v → ⊥
  none_or_several a b = a.none b.one b.solves

-- the contract leaves one answer
pub answer_only : {r S p : ℕ} {scratch values left left' : List ℕ} (a b : Outcome)
    → Eliminated r S p scratch values a left → Eliminated r S p scratch values b left' → a ≡ b
answer_only Solved Solved h k = refl
answer_only Solved Unsolvable h k = absurd (one_or_none (h.solved refl) (k.unsolvable refl))
answer_only Solved Ambiguous h k = absurd (one_or_several (h.solved refl) (k.ambiguous refl))
answer_only Unsolvable Solved h k = absurd (one_or_none (k.solved refl) (h.unsolvable refl))
answer_only Unsolvable Unsolvable h k = refl
answer_only Unsolvable Ambiguous h k = absurd (none_or_several (h.unsolvable refl) (k.ambiguous refl))
answer_only Ambiguous Solved h k = absurd (one_or_several (k.solved refl) (h.ambiguous refl))
answer_only Ambiguous Unsolvable h k = absurd (none_or_several (k.unsolvable refl) (h.ambiguous refl))
answer_only Ambiguous Ambiguous h k = refl
