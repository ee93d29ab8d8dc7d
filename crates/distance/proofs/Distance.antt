-- The distance of codewords, the marked places that leave no choice, and the one codeword near a word.
use mathlib.Core.Path.{◌≡◌, sym, ap, ◌∙◌}
use mathlib.Core.Bool.{Bool, true, false, ◌||◌}
use mathlib.Core.List.{List}
use mathlib.Core.Logic.Dec
use mathlib.Core.Logic.{⊎_elim}
use Prim.Native.Nat.{ℕ, ◌*◌, ◌<◌, ◌≤◌}
use native.Mathlib.Decide.{ℕ_discrete}
use native.Mathlib.Omega.{arith}
use lib.Seq.{ext_get_or}
use borrow.Author.Tests.{ne_eqb, eqb-true, eqb-false, not-true, not-false}
use Rattle.parity.specs.Xor.{◌⊕◌}
use Rattle.parity.specs.Count.{count}
use Rattle.parity.proofs.Xors.{self, eq_of_zero}
use Rattle.parity.proofs.Tests.{either, or_no, not_of_false}
use Rattle.parity.proofs.Sums.{count_le, count_or}
use Rattle.gtb.specs.declared.Shape.{Shape}
use Rattle.gtb.specs.Shape.{Lawful, word_length}
use Rattle.gtb.specs.Square.{at, Codeword}
use Rattle.gtb.proofs.Bounds.{bounds}
use Rattle.distance.specs.Distance.{differences, minimum_distance, Distance, Unambiguous, Near}
use Rattle.distance.proofs.Even.{bit_inside}
use Rattle.distance.proofs.Twice.{twice}
use Rattle.distance.proofs.Differences.{differs, difference_silent, some_differs}

-- the places where one bit of the difference is set are an even set
pub distance : (s : Shape) → Lawful s → Distance s
unfolding minimum_distance differences
distance s law = record {
  least = λ v w hv hw ne.
      let (j, l, h) = some_differs s law v w hv hw ne in
      let d =
      bit_inside s j (λ j. at v j ⊕ at w j) (difference_silent s v w hv hw)
      (λ z. eqb-false _ _ (not-true _ h) (eq_of_zero (at v j) (at w j) z)) in
      omega (
        arith,
        twice s law d.chosen d.even j l d.holds,
        count_le (word_length s) d.chosen (differs v w)
            (λ i l c. not_of_false (ne_eqb (at v i) (at w i) (λ e. d.inside i c (ap (λ (x : ℕ). x ⊕ at w i) e ∙ self (at w i))))),
      );
}

-- (N14) four with two directions, six with three or more
pub four_apart : (s : Shape) → Lawful s → (v w : List ℕ) → Codeword s v → Codeword s w → (v ≡ w → ⊥) → 4 ≤ differences s v w
unfolding minimum_distance
four_apart s law v w hv hw ne = omega (arith, (bounds s law).n2, (distance s law).least v w hv hw ne)

pub six_apart : (s : Shape) → Lawful s → 3 ≤ s.n → (v w : List ℕ) → Codeword s v → Codeword s w → (v ≡ w → ⊥) → 6 ≤ differences s v w
unfolding minimum_distance
six_apart s law n3 v w hv hw ne = omega (arith, (distance s law).least v w hv hw ne)

-- fewer marked places than the distance leave no choice
pub few_unambiguous : (s : Shape) → Lawful s → (marked : ℕ → Bool) → count (word_length s) marked < minimum_distance s.n → Unambiguous s marked
unfolding differences
few_unambiguous s law marked few = record {
  one = λ v w hv hw same.
      ext_get_or 0 v w (hv.word.size ∙ sym hw.word.size)
      (λ j l.
      (Dec.not-not (ℕ_discrete (at v j) (at w j))).0
      (λ ne.
      omega (
        arith,
        (distance s law).least v w hv hw (λ e. ne (ap (λ (x : List ℕ). at x j) e)),
        count_le (word_length s) (differs v w) marked
            (λ i li d.
            ⊎_elim (λ (m : marked i ≡ true). m) (λ (m : marked i ≡ false). absurd (eqb-false _ _ (not-true _ d) (same i li m)))
            (either (marked i))),
      )));
}

-- at most one codeword is within less than half the distance of a word, and it has one number
pub within_unique : (s : Shape) → Lawful s → (limit : ℕ) → 2 * limit < minimum_distance s.n → (w v v' : List ℕ) (k k' : ℕ)
    → Near s limit w v k → Near s limit w v' k' → (v ≡ v') × (k ≡ k')
unfolding differences
within_unique s law limit half w v v' k k' x y = (same, sym x.changed ∙ ap (λ (u : List ℕ). differences s u w) same ∙ y.changed)
  where
    same : v ≡ v'
    same =
        (few_unambiguous s law (λ j. differs v w j || differs v' w j)
        (omega (arith, count_or (word_length s) (differs v w) (differs v' w), x.changed, y.changed, x.few, y.few))).one v v' x.codeword y.codeword
        (λ j l h. let (a, b) = or_no (differs v w j) (differs v' w j) h in eqb-true _ _ (not-false _ a) ∙ sym (eqb-true _ _ (not-false _ b)))
