-- Even sets of places: every line has an even number of members. Such are the places where one bit of a silent word is set.
use mathlib.Core.Path.{◌≡◌, refl, sym, ap, ◌∙◌}
use mathlib.Core.Bool.{Bool, true, false, ◌&&◌}
use mathlib.Core.Logic.{⊎_elim}
use Prim.Native.Nat.{ℕ, zero, suc, ◌+◌, ◌/◌, ◌%◌, ◌<◌}
use native.Mathlib.Omega.{arith}
use lib.Arith.{bin_ind}
use lib.Bits.{xor_shr, xor_add_and}
use lib.Dec.{eqb}
use borrow.Author.Tests.{eqb-true, eqb-false}
use Rattle.parity.specs.Xor.{◌⊕◌, xor_sum, when}
use Rattle.parity.specs.Count.{bit, sum, count}
use Rattle.parity.proofs.Xors.{when_lt}
use Rattle.parity.proofs.Tests.{either}
use Rattle.parity.proofs.Sums.{bit_le, bit_true, bit_false, count_cong}
use Rattle.parity.proofs.XorSums.{cong, bound}
use Rattle.gtb.specs.declared.Shape.{Shape}
use Rattle.gtb.specs.Shape.{word_length}
use Rattle.gtb.specs.Square.{line_of, syndrome, Silent}

-- every line has an even number of members
pub record Even (s : Shape) (A : ℕ → Bool) : Type 0 where
  pub even : (t L : ℕ) → t < s.n → L < s.q → count (word_length s) (λ j. eqb (line_of s t j) L && A j) % 2 ≡ 0

-- the half and the low bit of a XOR
half : (a b : ℕ) → (a ⊕ b) / 2 ≡ a / 2 ⊕ b / 2
unfolding ◌⊕◌
half a b = xor_shr a b 1

low : (a b : ℕ) → (a ⊕ b) % 2 ≡ (a % 2 + b % 2) % 2
unfolding ◌⊕◌
low a b = omega (arith, xor_add_and a b)

xor_halves : (n : ℕ) (g : ℕ → ℕ) → xor_sum n (λ i. g i / 2) ≡ xor_sum n g / 2
unfolding xor_sum
xor_halves zero g = refl
xor_halves (suc n) g = ap (λ (x : ℕ). x ⊕ g n / 2) (xor_halves n g) ∙ sym (half (xor_sum n g) (g n))

-- how many values are odd is an odd number exactly if their XOR is
abbrev pub odd : ℕ → Bool
odd x = eqb (x % 2) 1

pub bit_odd : (x : ℕ) → bit (odd x) ≡ x % 2
bit_odd x =
    ⊎_elim (λ (t : odd x ≡ true). bit_true t ∙ sym (eqb-true (x % 2) 1 t))
    (λ (f : odd x ≡ false). let ne = eqb-false (x % 2) 1 f in bit_false f ∙ omega arith) (either (odd x))

odds : (n : ℕ) (g : ℕ → ℕ) → count n (λ i. odd (g i)) % 2 ≡ xor_sum n g % 2
unfolding xor_sum count sum
odds zero g = refl
odds (suc n) g = omega (arith, odds n g, bit_odd (g n), low (xor_sum n g) (g n))

-- ---- a silent word halved is silent, and its odd symbols are an even set; a symbol off the line counts as 0
when_half : (b : Bool) (x : ℕ) → when b (x / 2) ≡ when b x / 2
unfolding when
when_half true x = refl
when_half false x = refl

when_odd : (b : Bool) (x : ℕ) → (b && odd x) ≡ odd (when b x)
unfolding when
when_odd true x = refl
when_odd false x = refl

silent_halves : (s : Shape) (f : ℕ → ℕ) → Silent s f → Silent s (λ j. f j / 2)
unfolding syndrome
silent_halves s f quiet = record {
  silent = λ t L lt l.
      cong _ _ _ (λ j lj. when_half (eqb (line_of s t j) L) (f j)) ∙ xor_halves _ _ ∙ ap (λ (x : ℕ). x / 2) (quiet.silent t L lt l);
}

silent_even : (s : Shape) (f : ℕ → ℕ) → Silent s f → Even s (λ j. odd (f j))
unfolding syndrome
silent_even s f quiet = record {
  even = λ t L lt l.
      ap (λ (x : ℕ). x % 2) (count_cong _ _ _ (λ j lj. when_odd (eqb (line_of s t j) L) (f j))) ∙ odds _ _
      ∙ ap (λ (x : ℕ). x % 2) (quiet.silent t L lt l);
}

-- and back: 1 at the members of an even set, 0 elsewhere, is silent
odd_bit : (b a : Bool) → odd (when b (bit a)) ≡ (b && a)
unfolding bit when
odd_bit true true = refl
odd_bit true false = refl
odd_bit false a = refl

pub even_silent : (s : Shape) (A : ℕ → Bool) → Even s A → Silent s (λ j. bit (A j))
unfolding syndrome
even_silent s A ev = record {
  silent = λ t L lt l.
      let f : ℕ → ℕ = λ j. when (eqb (line_of s t j) L) (bit (A j)) in
      omega (
        arith,
        ev.even t L lt l,
        count_cong (word_length s) (λ j. odd (f j)) (λ j. eqb (line_of s t j) L && A j) (λ j lj. odd_bit (eqb (line_of s t j) L) (A j)),
        odds (word_length s) f,
        bound 1 (word_length s) f (λ j lj. when_lt 1 (eqb (line_of s t j) L) (bit (A j)) (omega (arith, bit_le (A j)))),
      );
}

-- ---- an even set with j, where no symbol is 0
pub record Inside (s : Shape) (f : ℕ → ℕ) (j : ℕ) : Type 0 where
  pub chosen : ℕ → Bool
  pub even : Even s chosen
  pub holds : chosen j ≡ true
  pub inside : (i : ℕ) → chosen i ≡ true → f i ≡ 0 → ⊥

-- halved until the symbol at j is odd
pub bit_inside : (s : Shape) (j : ℕ) (f : ℕ → ℕ) → Silent s f → (f j ≡ 0 → ⊥) → Inside s f j
bit_inside s j f quiet nz =
    bin_ind (λ (x : ℕ). (f : ℕ → ℕ) → f j ≡ x → (x ≡ 0 → ⊥) → Silent s f → Inside s f j) (λ f e nz quiet. absurd (nz refl)) turn (f j) f refl nz quiet
  where
    turn : (x : ℕ) → ((f : ℕ → ℕ) → f j ≡ x / 2 → (x / 2 ≡ 0 → ⊥) → Silent s f → Inside s f j)
        → (f : ℕ → ℕ) → f j ≡ x → (x ≡ 0 → ⊥) → Silent s f → Inside s f j
    turn x ih f e nz quiet =
        ⊎_elim
        (λ (t : odd (f j) ≡ true). record {
          chosen = λ i. odd (f i);
          even = silent_even s f quiet;
          holds = t;
          inside = λ i o z. let one = eqb-true (f i % 2) 1 o in omega arith;
        })
        (λ (n : odd (f j) ≡ false).
        let ne = eqb-false (f j % 2) 1 n in
        let h = ih (λ i. f i / 2) (ap (λ (k : ℕ). k / 2) e) (λ z. nz (omega arith)) (silent_halves s f quiet) in
        record { chosen = h.chosen; even = h.even; holds = h.holds; inside = λ i c z. h.inside i c (ap (λ (k : ℕ). k / 2) z) })
        (either (odd (f j)))
