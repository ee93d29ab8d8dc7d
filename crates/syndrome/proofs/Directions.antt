-- The syndromes direction by direction: each sweep completes one.
use borrow.Author.Count.{below_more}
use mathlib.Core.List.{List}
use mathlib.Core.Path.{◌≡◌, ◌∙◌, sym, ap, subst, subst⁻¹}
use Prim.Native.Nat.{ℕ, zero, suc, ◌+◌, ◌-◌, ◌*◌, ◌%◌, ◌≤◌, ◌<◌}
use native.Mathlib.Nat.{zero-mul, one-mul, suc-mul, not-suc-le-zero}
use native.Mathlib.Numerals.{add-one}
use native.Mathlib.Omega.{arith}
use lib.Arith.{lt-one, digits_lt}
use lib.ListN.{replicate}
use Rattle.parity.specs.Xor.{◌⊕◌, xor_sum}
use Rattle.parity.proofs.Xors.{zero_l}
use Rattle.parity.proofs.Lists.{at_zeros}
use Rattle.gtb.specs.declared.Shape.{Shape}
use Rattle.gtb.specs.Shape.{Lawful, slope_of}
use Rattle.gtb.specs.Square.{at, syndrome, Syndromes}
use Rattle.syndrome.specs.Sweep.{Added, Directions}
use Rattle.gtb.specs.Rows.{shift_of}
use Rattle.gtb.proofs.Rows.{syndrome_row, syndrome_rows}

-- what a sweep of direction t with the slope k does
abbrev Swept : Shape → List ℕ → ℕ → ℕ → List ℕ → List ℕ → Type 0
Swept s w t k old new =
    Added (t * s.q) s.q (λ L. xor_sum s.q (λ r. at w (r * s.q + (L + (s.q - k) * r) % s.q))) old new

-- what an entry holds that was 0 and has taken up v
taken_up : {x y v : ℕ} → y ≡ x ⊕ v → x ≡ 0 → y ≡ v
taken_up {v = v} h z = h ∙ ap (λ (k : ℕ). k ⊕ v) z ∙ zero_l v

module _ (s : Shape) (lawful : Lawful s) (w : List ℕ) where
  -- direction 0, on entries that are 0
  pub direction_first : (new : List ℕ) → Added 0 s.q (λ r. xor_sum s.q (λ i. at w (r * s.q + i))) (replicate 248 0) new
      → Directions s w 1 new
  direction_first new h = record {
    size = h.size;
    entry = λ u lu L l.
        subst⁻¹ (λ (k : ℕ). at new (k * s.q + L) ≡ syndrome s (at w) k L) (lt-one lu)
        (ap (λ (k : ℕ). at new (k + L)) (zero-mul s.q) ∙ taken_up (h.inside L l) (at_zeros 248 (0 + L))
        ∙ sym (syndrome_row s lawful (at w) L l));
    rest = λ e l. h.above e (omega (arith, one-mul s.q)) ∙ at_zeros 248 e;
  }

  -- the entries of direction t + 1 after its sweep
  swept : (t k : ℕ) (old new : List ℕ) → suc t < s.n → k ≡ slope_of s (suc t) → Directions s w (suc t) old
      → Swept s w (suc t) k old new → (L : ℕ) → L < s.q → at new (suc t * s.q + L) ≡ syndrome s (at w) (suc t) L
  unfolding shift_of
  swept t k old new lt e d h L l =
      taken_up (h.inside L l) (d.rest _ (omega arith))
      ∙ ap (λ (x : ℕ). xor_sum s.q (λ r. at w (r * s.q + (L + (s.q - x) * r) % s.q))) e
      ∙ sym (syndrome_rows s lawful (at w) t L lt l)

  -- one direction more
  pub direction_next : (t k : ℕ) (old new : List ℕ) → 1 ≤ t → t < s.n → k ≡ slope_of s t → Directions s w t old
      → Swept s w t k old new → Directions s w (t + 1) new
  direction_next zero k old new one lt e d h = absurd (not-suc-le-zero one)
  direction_next (suc t) k old new one lt e d h = record {
    size = h.size ∙ d.size;
    entry =
        below_more (λ u. (L : ℕ) → L < s.q → at new (u * s.q + L) ≡ syndrome s (at w) u L) (suc t)
        (λ u lu L l. h.below _ (digits_lt lu l) ∙ d.entry u lu L l) (swept t k old new lt e d h);
    rest = λ p l.
        let past : suc t * s.q + s.q ≤ p =
        subst (λ (x : ℕ). x ≤ p) (ap (λ (x : ℕ). x * s.q) (add-one (suc t)) ∙ suc-mul (suc t) s.q) l in
        h.above p past ∙ d.rest p (omega arith);
  }

  -- all n directions
  pub direction_last : (t : ℕ) (syn : List ℕ) → t ≡ s.n → Directions s w t syn → Syndromes s w syn
  direction_last t syn e d = record {
    size = d.size;
    entry = λ u L lu l. d.entry u (subst⁻¹ (λ (k : ℕ). u < k) e lu) L l;
  }
