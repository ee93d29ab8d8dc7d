-- Flat shapes: a direction of slope 0 turns no row, so that its entries are the sums of the columns.
use mathlib.Core.Bool.{true}
use mathlib.Core.List.{List}
use mathlib.Core.Path.{◌≡◌, ◌∙◌, sym, ap, ap₂}
use Prim.Native.Nat.{ℕ, ◌+◌, ◌-◌, ◌*◌, ◌%◌, ◌<◌}
use native.Mathlib.Nat.{one-mul, mod-eq_of_lt, add-mul-mod_self_left}
use native.Mathlib.Omega.{arith}
use lib.Dec.{eqb}
use lib.ListN.{replicate}
use borrow.Author.Tests.{eqb-true}
use Rattle.parity.specs.Xor.{◌⊕◌, xor_sum}
use Rattle.parity.proofs.Tests.{and_left, and_right}
use Rattle.parity.proofs.XorSums.{cong}
use Rattle.parity.specs.Lists.{Written}
use Rattle.parity.proofs.Lists.{at_zeros}
use Rattle.gtb.specs.declared.Shape.{Shape}
use Rattle.gtb.specs.Shape.{Lawful, slope_of}
use Rattle.gtb.specs.Square.{at, Syndromes}
use Rattle.syndrome.specs.Sweep.{Added, Directions, is_flat}
use Rattle.syndrome.proofs.Directions.{direction_next, direction_last}
use Rattle.syndrome.proofs.Doubles.{first_of}

pub flat_two : (s : Shape) → is_flat s ≡ true → s.n ≡ 2
unfolding is_flat
flat_two s flat = eqb-true _ _ (and_left (eqb s.n 2) (eqb (slope_of s 1) 0) flat)

pub flat_slope : (s : Shape) → is_flat s ≡ true → slope_of s 1 ≡ 0
unfolding is_flat
flat_slope s flat = eqb-true _ _ (and_right (eqb s.n 2) (eqb (slope_of s 1) 0) flat)

module _ (s : Shape) (lawful : Lawful s) (w : List ℕ) (q : ℕ) (e : q ≡ s.q) (flat : is_flat s ≡ true) where
  unturned : (L r : ℕ) → L < q → (L + (q - 0) * r) % q ≡ L
  unturned L r l =
      let whole : q - 0 ≡ q = omega arith in
      ap (λ (x : ℕ). (L + x * r) % q) whole ∙ add-mul-mod_self_left L q r ∙ mod-eq_of_lt l

  -- the sums of the columns, put down behind direction 0, are what a sweep with the slope 0 takes up there
  columns_swept : (sums old new : List ℕ) → Directions s w 1 old → Added 0 q (λ c. xor_sum q (λ r. at w (r * q + c))) (replicate 31 0) sums
      → Written q q (λ i. at sums (0 + i)) old new → Added (1 * q) q (λ L. xor_sum q (λ r. at w (r * q + (L + (q - 0) * r) % q))) old new
  columns_swept sums old new first columns copied = rw (one-mul q) (record {
    size = copied.size;
    inside = λ L l.
        copied.inside L l ∙ columns.inside L l
        ∙ ap₂ (λ (x y : ℕ). x ⊕ y) (at_zeros 31 (0 + L) ∙ sym (first.rest (q + L) (omega (arith, e, one-mul s.q))))
        (cong q _ _ (λ r lr. ap (λ (x : ℕ). at w (r * q + x)) (sym (unturned L r l))));
    below = copied.below;
    above = copied.above;
  })

  -- so the second direction is the last
  pub flat_of : {old mid new : List ℕ} (sums : List ℕ) → old ≡ replicate 248 0 → Added 0 q (λ r. xor_sum q (λ c. at w (r * q + c))) old mid
      → Added 0 q (λ c. xor_sum q (λ r. at w (r * q + c))) (replicate 31 0) sums → Written q q (λ i. at sums (0 + i)) mid new → Syndromes s w new
  flat_of {old} {mid} {new} sums z rows columns copied =
      let two = flat_two s flat in
      let first = first_of s lawful w q e z rows in
      direction_last s lawful w 2 new (sym two)
      (direction_next s lawful w 1 0 mid new (omega arith) (omega arith) (sym (flat_slope s flat)) first (rw e at (columns_swept sums mid new first columns copied)))
