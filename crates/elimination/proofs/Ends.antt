-- What the last column leaves says of the system given.
use mathlib.Core.Path.{◌≡◌, sym, ap, ap₂, ◌∙◌}
use mathlib.Core.Bool.{Bool}
use mathlib.Core.Logic.{inl}
use Prim.Native.Nat.{ℕ, ◌<◌, ◌≤◌}
use native.Mathlib.Decide.{dec_lt}
use native.Mathlib.Omega.{arith}
use lib.Pow.{pow_pos}
use Rattle.parity.specs.Xor.{◌⊕◌, when}
use Rattle.parity.proofs.Xors.{zero_r}
use Rattle.elimination.specs.System.{row_sum, Solves, Impossible, Unique, Several}
use Rattle.elimination.specs.Steps.{Kept, Reduced}
use Rattle.elimination.proofs.Sums.{row_cong, row_add, row_none}

-- m and v are given, m' and v' are left after u pivots
module _ {p r u : ℕ} {m : ℕ → ℕ → Bool} {v : ℕ → ℕ} {m' : ℕ → ℕ → Bool} {v' : ℕ → ℕ} (kept : Kept p r m v m' v') (h : Reduced p r p u m') where
  -- the rows from u on ask for their value of nothing
  empty : (i : ℕ) (x : ℕ → ℕ) → u ≤ i → i < r → row_sum p (m' i) x ≡ 0
  empty i x lu lr = row_none p (m' i) x (λ k l. inl (h.zeros i k lu lr l))

  pub end_none : (i : ℕ) → u ≤ i → i < r → (v' i ≡ 0 → ⊥) → Impossible p r m v
  end_none i lu lr ne = record { none = λ x s. ne (sym ((kept.to x s).row i lr) ∙ empty i x lu lr) }

  module _ (zero : (i : ℕ) → u ≤ i → i < r → v' i ≡ 0) where
    -- the first u rows decide
    whole : (x : ℕ → ℕ) → Solves p u m' v' x → Solves p r m v x
    whole x s =
        kept.from x
        (record { row = λ i l. elim (dec_lt i u) [ yes a ↦ s.row i a | no a ↦ empty i x (omega arith) l ∙ sym (zero i (omega arith) l) ] })

    -- the one solution of the first p rows, row i of which has column i first
    pub end_one : (v'' : ℕ → ℕ) → p ≤ u → ((x : ℕ → ℕ) → Solves p p m' v' x → (k : ℕ) → k < p → v'' k ≡ x k) → Unique p r m v v''
    end_one v'' l found =
        let q : u ≡ p = omega (arith, h.few) in
        let x = h.extends v' (λ j. 0) in
        let first : (y : ℕ → ℕ) → Solves p u m' v' y → Solves p p m' v' y = λ y s. record { row = λ i li. s.row i (omega arith) } in
        let same : (k : ℕ) → k < p → v'' k ≡ x.x k = found x.x (first x.x x.solves) in
        record {
          solves =
              whole v''
              (record { row = λ i li. row_cong p (m' i) (m' i) v'' x.x (λ k lk. ap (when (m' i k)) (same k lk)) ∙ x.solves.row i li });
          only = λ y s k lk. sym (found y (record { row = λ i li. (kept.to y s).row i (omega (arith, h.fits)) }) k lk);
          narrow = λ b hb.
              record {
                below = λ k lk.
                    rw (same k lk) (x.narrow b (record { below = λ i li. (kept.narrow b hb).below i (omega (arith, h.fits)) }) (λ j. pow_pos b) k);
              };
          fits = omega (arith, h.fits);
        }

    pub end_several : u < p → Several p r m v
    end_several l =
        let x = h.extends v' (λ j. 0) in
        let q = h.free l in
        record {
          one = x.x;
          solves = whole x.x x.solves;
          narrow = λ b hb.
              record {
                below = λ i li.
                    x.narrow b (record { below = λ i li. (kept.narrow b hb).below i (omega (arith, h.fits)) }) (λ j. pow_pos b) i;
              };
          change = q.h;
          other =
              whole (λ k. x.x k ⊕ q.h k)
              (record {
                row = λ i li.
                    row_add p (m' i) x.x q.h ∙ ap₂ (λ (a b : ℕ). a ⊕ b) (x.solves.row i li) (q.solves.row i li) ∙ zero_r (v' i);
              });
          small = record { below = λ k lk. q.small k };
          place = q.place;
          inside = q.inside;
          differs = q.set;
        }
