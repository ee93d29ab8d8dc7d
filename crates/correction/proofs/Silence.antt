-- The corrections tried on the table of syndromes, and the test that every check is silent.
use mathlib.Core.Path.{◌≡◌, refl, sym, ap, ap₂, ◌∙◌}
use mathlib.Core.Bool.{Bool, not, ◌&&◌}
use mathlib.Core.List.{List}
use Prim.Native.Nat.{ℕ, ◌+◌, ◌*◌, ◌/◌, ◌<◌, ◌≤◌}
use native.Mathlib.Omega.{arith}
use lib.Arith.{digits_div}
use lib.Bits.{bit_and, bit_or, or_add_and, and_le_l, and_le_r}
use lib.Dec.{eqb}
use Rattle.std.specs.Prelude.{Option, Some, None, take, position}
use lib.ListN.{length}
use borrow.Author.Tests.{eq-eqb, ne_eqb, eqb-true, not-false}
use Rattle.parity.specs.Xor.{◌⊕◌, xor_sum, when}
use Rattle.parity.proofs.Xors.{assoc, zero_r}
use Rattle.parity.proofs.XorSums.{xs_zero, more, only}
use Rattle.parity.proofs.Tests.{clash, and_left, and_right, and_both, same, same_eqb, not_of_true, all_intro}
use Rattle.gtb.specs.declared.Shape.{Shape}
use Rattle.gtb.specs.Shape.{Lawful, word_length}
use Rattle.gtb.specs.Square.{line_of, at}
use Rattle.gtb.proofs.Lines.{line_lt}
use Rattle.correction.specs.Steps.{Toggled, Cancelled}
use Rattle.correction.specs.Error.{check_of}
use Rattle.correction.specs.Guesses.{NotSilent}
use Rattle.correction.proofs.Slices.{position_some, position_none}

-- a check number tells its direction
direction : (q u t l L : ℕ) → l < q → L < q → u * q + l ≡ t * q + L → u ≡ t
direction q u t l L ll lL e = sym (digits_div u ll) ∙ ap (λ (x : ℕ). x / q) e ∙ digits_div t lL

-- of the n checks on j one at most is check t × q + L
pub one_check : (s : Shape) → Lawful s → (j v t L : ℕ) → j < word_length s → t < s.n → L < s.q
    → xor_sum s.n (λ u. when (eqb (check_of s j u) (t * s.q + L)) v) ≡ when (eqb (line_of s t j) L) v
unfolding when
one_check s h j v t L lj lt lL =
    only s.n t (λ u. when (eqb (check_of s j u) (t * s.q + L)) v) lt
    (λ u lu ne.
    ap (λ (b : Bool). when b v)
    (ne_eqb (check_of s j u) (t * s.q + L) (λ e. ne (direction s.q u t (line_of s u j) L (line_lt s h u j lu lj) lL e))))
    ∙ ap (λ (b : Bool). when b v)
    (same_eqb (check_of s j t) (t * s.q + L) (line_of s t j) L (λ e. omega arith) (λ e. ap (λ (l : ℕ). t * s.q + l) e))

pub cancelled_none : (s : Shape) (places errors syn : List ℕ) → length syn ≡ 248 → Cancelled s 0 places errors syn syn
cancelled_none s places errors syn e = record {
  size = e;
  entry = λ t L lt lL.
      sym
      (ap (λ (x : ℕ). at syn (t * s.q + L) ⊕ x) (xs_zero (λ x. when (eqb (line_of s t (at places x)) L) (at errors x)))
      ∙ zero_r (at syn (t * s.q + L)));
}

-- one turn of a loop
pub cancelled_more : {s : Shape} {x : ℕ} {places errors old mid new : List ℕ} → Lawful s → at places x < word_length s
    → Cancelled s x places errors old mid → Toggled s.n (check_of s (at places x)) (λ t. at errors x) mid new
    → Cancelled s (x + 1) places errors old new
cancelled_more {s} {x} {places} {errors} {old} {mid} {new} h lj c g = record {
  size = g.size ∙ c.size;
  entry = λ t L lt lL.
      let f : ℕ → ℕ = λ y. when (eqb (line_of s t (at places y)) L) (at errors y) in
      g.entry (t * s.q + L)
      ∙ ap₂ (λ (a b : ℕ). a ⊕ b) (c.entry t L lt lL) (one_check s h (at places x) (at errors x) t L lj lt lL)
      ∙ assoc (at old (t * s.q + L)) (xor_sum x f) (f x)
      ∙ ap (λ (a : ℕ). at old (t * s.q + L) ⊕ a) (more x f refl);
}

-- two values have no bit together if neither has one
pub no_bits : (a b : ℕ) → eqb (bit_or a b) 0 ≡ (eqb a 0 && eqb b 0)
no_bits a b =
    same (λ t. let z = eqb-true (bit_or a b) 0 t in and_both (eq-eqb a 0 (omega (arith, union, low))) (eq-eqb b 0 (omega (arith, union, high))))
    (λ t.
    let za = eqb-true a 0 (and_left (eqb a 0) (eqb b 0) t) in
    let zb = eqb-true b 0 (and_right (eqb a 0) (eqb b 0) t) in
    eq-eqb (bit_or a b) 0 (omega (arith, union)))
  where
    union : bit_or a b + bit_and a b ≡ a + b
    union = or_add_and a b

    low : bit_and a b ≤ b
    low = and_le_r a b

    high : bit_and a b ≤ a
    high = and_le_l a b

-- the first check that is not silent
pub first_loud : (s : Shape) (syn : List ℕ) → s.n * s.q ≤ length syn
    → (r : Option ℕ) → r ≡ position (λ x. not (eqb x 0)) (take (s.n * s.q) syn) → NotSilent s syn r
first_loud s syn l (Some check) e =
    let (inside, loud) = position_some (λ x. not (eqb x 0)) syn (s.n * s.q) l check (sym e) in
    (inside, λ z. clash loud (not_of_true (eq-eqb (at syn check) 0 z)))
first_loud s syn l None e =
    all_intro (s.n * s.q) (λ i. eqb (at syn i) 0) (λ i li. not-false (eqb (at syn i) 0) (position_none (λ x. not (eqb x 0)) syn (s.n * s.q) l (sym e) i li))
