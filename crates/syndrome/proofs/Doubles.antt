-- Rows laid down twice, and the sweeps over them.
use mathlib.Core.List.{List}
use mathlib.Core.Path.{◌≡◌, ◌∙◌, sym, ap}
use Prim.Native.Nat.{ℕ, ◌+◌, ◌-◌, ◌*◌, ◌%◌, ◌≤◌, ◌<◌}
use native.Mathlib.Nat.{mod-eq_of_lt, add-mod_right, add-mod-mod, mod-lt, mul-le-mul, mul-le-mul_right, not-suc-le-zero, suc-mul}
use native.Mathlib.Decide.{dec_lt}
use native.Mathlib.Omega.{arith}
use borrow.Author.Count.{below_more}
use lib.Arith.{digits_lt}
use lib.ListN.{length, replicate}
use Rattle.parity.specs.Xor.{◌⊕◌, xor_sum}
use Rattle.parity.proofs.XorSums.{cong}
use Rattle.gtb.specs.declared.Shape.{Shape}
use Rattle.gtb.specs.Shape.{Lawful, slope_of}
use Rattle.parity.specs.Lists.{at, Written}
use Rattle.syndrome.specs.Sweep.{Added, Doubled, Directions}
use Rattle.syndrome.proofs.Directions.{direction_first, direction_next}

-- a row's place among the doubled ones
pub place_in : (r q : ℕ) → r < q → r * (q + q) + (q + q) ≤ q * (q + q)
place_in r q l = rw (← suc-mul) (mul-le-mul_right (q + q) l)

pub doubled_small : (q : ℕ) → q ≤ 31 → q * (q + q) ≤ 1922
doubled_small q h = let l : q + q ≤ 62 = omega arith in mul-le-mul h l

pub doubled_none : (q : ℕ) (w twice : List ℕ) → length twice ≡ q * (q + q) → Doubled q 0 w twice
doubled_none q w twice e = record {
  size = e;
  once = λ r l. absurd (not-suc-le-zero l);
  again = λ r l. absurd (not-suc-le-zero l);
}

-- one row more, in two runs
pub doubled_more : (q r : ℕ) (w twice mid new : List ℕ) → Doubled q r w twice → Written (r * (q + q)) q (λ i. at w (r * q + i)) twice mid
    → Written (r * (q + q) + q) q (λ i. at w (r * q + i)) mid new → Doubled q (r + 1) w new
doubled_more q r w twice mid new d first second = record {
  size = second.size ∙ first.size ∙ d.size;
  once = below_more (λ u. (c : ℕ) → c < q → at new (u * (q + q) + c) ≡ at w (u * q + c)) r
      (λ u lu c lc. before (u * (q + q) + c) (earlier u c lu (omega arith)) ∙ d.once u lu c lc)
      (λ c lc. second.below (r * (q + q) + c) (omega arith) ∙ first.inside c lc);
  again = below_more (λ u. (c : ℕ) → c < q → at new (u * (q + q) + q + c) ≡ at w (u * q + c)) r
      (λ u lu c lc. before (u * (q + q) + q + c) (behind u c lu lc) ∙ d.again u lu c lc)
      (λ c lc. second.inside c lc);
}
  where
    earlier : (u k : ℕ) → u < r → k < q + q → u * (q + q) + k < r * (q + q)
    earlier u k lu lk = digits_lt lu lk

    behind : (u c : ℕ) → u < r → c < q → u * (q + q) + q + c < r * (q + q)
    behind u c lu lc = omega (arith, earlier u (q + c) lu (omega arith))

    before : (e : ℕ) → e < r * (q + q) → at new e ≡ at twice e
    before e l = second.below e (omega arith) ∙ first.below e l

-- a rotated row is a run
doubled_line : {q : ℕ} {w twice : List ℕ} → Doubled q q w twice → (r L place : ℕ) → r < q → L < q → place < q
    → at twice (r * (q + q) + (L + place)) ≡ at w (r * q + (L + place) % q)
doubled_line {q} {w} {twice} d r L place lr lL lp =
    elim (dec_lt (L + place) q) [
      | yes s ↦ d.once r lr (L + place) s ∙ ap (λ (x : ℕ). at w (r * q + x)) (sym (mod-eq_of_lt s))
      | no s ↦
          let e : r * (q + q) + (L + place) ≡ r * (q + q) + q + (L + place - q) = omega arith in
          let m : L + place ≡ L + place - q + q = omega arith in
          let u : (L + place) % q ≡ L + place - q = ap (λ (x : ℕ). x % q) m ∙ add-mod_right (L + place - q) q ∙ mod-eq_of_lt (omega arith) in
          ap (at twice) e ∙ d.again r lr (L + place - q) (omega arith) ∙ ap (λ (x : ℕ). at w (r * q + x)) (sym u)
    ]

-- a sweep over them is one over the word's rows
pub doubled_swept : (q step to : ℕ) {w twice old new : List ℕ} → Doubled q q w twice
    → Added to q (λ L. xor_sum q (λ r. at twice (r * (q + q) + (L + step * r % q)))) old new
    → Added to q (λ L. xor_sum q (λ r. at w (r * q + (L + step * r) % q))) old new
doubled_swept q step to {w} {twice} {old} {new} d h = record {
  size = h.size;
  inside = λ L l.
      h.inside L l
      ∙ ap (λ (x : ℕ). at old (to + L) ⊕ x)
      (cong q _ _
      (λ r lr.
      doubled_line d r L (step * r % q) lr l (mod-lt (step * r) (omega arith))
      ∙ ap (λ (x : ℕ). at w (r * q + x)) (add-mod-mod L (step * r) q)));
  below = h.below;
  above = h.above;
}

-- the run that a turn of the sweep takes up
pub run_symbol : (twice : List ℕ) (from step r q place L : ℕ) → place ≡ step * r % q → at twice (from + place + L) ≡ at twice (from + (L + step * r % q))
run_symbol twice from step r q place L e = ap (at twice) (omega arith)

-- ---- the directions, where q is the shape's order
module _ (s : Shape) (lawful : Lawful s) (w : List ℕ) (q : ℕ) (e : q ≡ s.q) where
  pub first_of : {old new : List ℕ} → old ≡ replicate 248 0 → Added 0 q (λ r. xor_sum q (λ c. at w (r * q + c))) old new → Directions s w 1 new
  first_of {old} {new} z h = direction_first s lawful w new (rw (e, z) at h)

  pub next_of : (t k : ℕ) {twice old new : List ℕ} → Doubled q q w twice → 1 ≤ t → t < s.n → k ≡ slope_of s t → Directions s w t old
      → Added (t * q) q (λ L. xor_sum q (λ r. at twice (r * (q + q) + (L + (q - k) * r % q)))) old new → Directions s w (t + 1) new
  next_of t k {twice} {old} {new} d one lt ek dirs h = direction_next s lawful w t k old new one lt ek dirs (rw e at (doubled_swept q (q - k) (t * q) d h))
