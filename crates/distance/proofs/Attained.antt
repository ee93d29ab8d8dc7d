-- Codewords from places: an even set is where two codewords differ, and so are 2 n places of which each line has an even number.
use mathlib.Core.Path.{◌≡◌, refl, ap, ap₂, ◌∙◌, subst}
use mathlib.Core.Bool.{Bool, true, false, not, ◌&&◌}
use mathlib.Core.List.{List, [], ◌∷◌}
use Prim.Native.Nat.{ℕ, ◌+◌, ◌*◌, ◌%◌, ◌^◌, ◌<◌, ◌≤◌}
use native.Mathlib.Nat.{add-mul, zero-mul}
use native.Mathlib.Omega.{arith}
use lib.Dec.{eqb}
use lib.Pow.{pow_mono}
use Rattle.parity.specs.Count.{bit, sum, count}
use Rattle.parity.specs.Lists.{tabulate}
use Rattle.parity.proofs.Tests.{and_no_right}
use Rattle.parity.proofs.Lists.{at_tabulate}
use Rattle.parity.proofs.Residues.{sum_mods}
use Rattle.parity.proofs.Sums.{sum_cong, sum_none, sum_add, sum_le, sum_pick, bit_le, count_sum, count_cong, count_none}
use Rattle.gtb.specs.declared.Shape.{Shape}
use Rattle.gtb.specs.Shape.{Lawful, word_length}
use Rattle.gtb.specs.Square.{line_of, Codeword}
use Rattle.gtb.proofs.Bounds.{bounds}
use Rattle.gtb.proofs.Rows.{syndrome_cong}
use Rattle.gtb.proofs.Words.{tabulate_word}
use Rattle.distance.specs.Distance.{differences, Attained}
use Rattle.distance.proofs.Even.{Even, odd, bit_odd, even_silent}
use Rattle.parity.proofs.Polynomials.{sum_of}
use Rattle.distance.proofs.Twice.{twice}

-- ---- an even set: 1 at its members, 0 elsewhere, and the zero word
abbrev marks : Shape → (ℕ → Bool) → List ℕ
marks s A = tabulate (word_length s) (λ j. bit (A j))

marks_codeword : (s : Shape) → Lawful s → (A : ℕ → Bool) → Even s A → Codeword s (marks s A)
marks_codeword s law A ev = record {
  word = tabulate_word s (λ j. bit (A j)) (λ j l. let wide : 2 ≤ 2 ^ s.b = pow_mono (bounds s law).b1 in omega (arith, bit_le (A j)));
  checks = record {
    silent = λ t L lt l. syndrome_cong s _ _ t L (at_tabulate (word_length s) (λ j. bit (A j))) ∙ (even_silent s A ev).silent t L lt l;
  };
}

differ_bits : (a : Bool) → not (eqb (bit a) (bit false)) ≡ a
unfolding bit
differ_bits true = refl
differ_bits false = refl

pub attained : (s : Shape) → Lawful s → (A : ℕ → Bool) → Even s A → Attained s (count (word_length s) A)
unfolding differences
attained s law A ev = record {
  one = marks s A;
  other = marks s (λ j. false);
  codeword = marks_codeword s law A ev;
  codeword_too =
      marks_codeword s law (λ j. false) (record { even = λ t L lt l. ap (λ (k : ℕ). k % 2) (count_none _ _ (λ j lj. and_no_right (eqb (line_of s t j) L) refl)) });
  differ =
      count_cong _ _ _
      (λ j l.
      ap₂ (λ (x y : ℕ). not (eqb x y)) (at_tabulate _ (λ j. bit (A j)) j l) (at_tabulate _ (λ j. bit false) j l) ∙ differ_bits (A j));
}

-- ---- a list of places: how often j is in it
unfoldable pub often : List ℕ → ℕ → ℕ
often [] j = 0
often (y ∷ ys) j = bit (eqb j y) + often ys j

pub data Within (n : ℕ) : List ℕ → Type 0 where
  none : Within n []
  more : {y : ℕ} {ys : List ℕ} → y < n → Within n ys → Within n (y ∷ ys)

often_sum : (n : ℕ) (f : ℕ → ℕ) {ys : List ℕ} → Within n ys → sum n (λ j. often ys j * f j) ≡ sum_of ys f
unfolding often sum_of
often_sum n f none = sum_none n _ (λ j l. zero-mul (f j))
often_sum n f (more {y} {ys} l h) =
    sum_cong n _ _ (λ j lj. add-mul (bit (eqb j y)) (often ys j) (f j)) ∙ sum_add n _ _ ∙ ap₂ (λ (a b : ℕ). a + b) (sum_pick n y f l) (often_sum n f h)

-- to count 1 for an odd number and 0 for an even one keeps a sum's parity
odd_part : (b : Bool) (x : ℕ) → bit (b && odd x) % 2 ≡ x * bit b % 2
unfolding bit
odd_part true x = omega (arith, bit_odd x)
odd_part false x = omega arith

module _ (s : Shape) (law : Lawful s) (ys : List ℕ) (within : Within (word_length s) ys)
    (even : (t L : ℕ) → t < s.n → L < s.q → sum_of ys (λ y. bit (eqb (line_of s t y) L)) % 2 ≡ 0) where
  -- the places that are in the list an odd number of times
  abbrev members : ℕ → Bool
  members j = odd (often ys j)

  members_even : Even s members
  members_even = record {
    even = λ t L lt l.
        ap (λ (k : ℕ). k % 2) (count_sum (word_length s) _) ∙ sum_mods 2 (word_length s) _ _ (λ j. odd_part (eqb (line_of s t j) L) (often ys j))
        ∙ ap (λ (k : ℕ). k % 2) (often_sum (word_length s) _ within) ∙ even t L lt l;
  }

  -- if the list has at most 2 n places, they are 2 n different ones: fewer members are no even set
  pub list_attained : sum_of ys (λ y. 1) ≤ 2 * s.n → (j : ℕ) → j < word_length s → members j ≡ true → Attained s (2 * s.n)
  list_attained few j l h =
      subst (Attained s)
      (omega (
        arith,
        twice s law members members_even j l h,
        count_sum (word_length s) members,
        sum_le (word_length s) (λ j. bit (members j)) (λ j. often ys j * 1) (λ j l. omega (arith, bit_odd (often ys j))),
        often_sum (word_length s) (λ y. 1) within,
      ))
      (attained s law members members_even)
