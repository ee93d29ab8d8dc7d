-- What the code sees in the proposal's table is what the definitions say of the two words.
use mathlib.Core.Path.{◌≡◌, refl, sym, ap, ap₂, ◌∙◌}
use mathlib.Core.Bool.{Bool, true, false, not, ◌&&◌}
use mathlib.Core.List.{List}
use mathlib.Core.Logic.{⊎_elim}
use Prim.Native.Nat.{ℕ, ◌+◌, ◌-◌, ◌*◌, ◌<◌, ◌≤◌}
use native.Mathlib.Omega.{arith}
use lib.Dec.{eqb, leb}
use lib.ListN.{length}
use borrow.Author.Tests.{le-leb, lt-leb, eq-eqb, ne_eqb, eqb-false, not-true}
use Rattle.parity.specs.Lists.{Begins}
use Rattle.parity.specs.Xor.{◌⊕◌}
use Rattle.parity.specs.Count.{count, all, any}
use Rattle.parity.proofs.Xors.{self, zero_l, eq_of_zero}
use Rattle.parity.proofs.Sums.{count_cong}
use Rattle.parity.proofs.Tests.{either, clash, same, and_both, and_no_left, and_no_right, not_of_true, not_of_false, all_elim, any_intro, any_none, any_no}
use Rattle.gtb.specs.declared.Shape.{Shape}
use Rattle.gtb.specs.Shape.{Lawful, word_length}
use Rattle.gtb.specs.Square.{line_of, at, syndrome, Silent, Syndromes}
use Rattle.gtb.proofs.Bounds.{bounds}
use Rattle.gtb.proofs.Lines.{line_lt}
use Rattle.correction.specs.Error.{check_of, weight}
use Rattle.correction.specs.Steps.{Lists, Listed, Cancelled}
use Rattle.correction.proofs.Listing.{listed_lists, lists_cong, when_nonzero}
use Rattle.decoder.specs.Damage.{Unmasked}
use Rattle.verify.specs.Verify.{difference, unmasked_test}
use Rattle.verify.specs.Steps.{differs, is_masked}
use Rattle.verify.proofs.Meaning.{test_unmasked, unmasked_test_lem}

-- ---- where two words differ
pub differ_yes : (w v : List ℕ) (j : ℕ) → (at w j ≡ at v j → ⊥) → differs w v j ≡ true
unfolding differs
differ_yes w v j ne = not_of_false (ne_eqb (difference w v j) 0 (λ z. ne (eq_of_zero (at w j) (at v j) z)))

pub differ_no : (w v : List ℕ) (j : ℕ) → at w j ≡ at v j → differs w v j ≡ false
unfolding differs
differ_no w v j e = not_of_true (eq-eqb (difference w v j) 0 (ap (λ (x : ℕ). x ⊕ at v j) e ∙ self (at v j)))

-- a run that is the same in both
pub same_run : (w v : List ℕ) (from count : ℕ) → all count (λ i. eqb (difference w v (from + i)) 0) ≡ true → (c : ℕ) → c < count → differs w v (from + c) ≡ false
unfolding differs
same_run w v from count h c l = not_of_true (all_elim count (λ i. eqb (difference w v (from + i)) 0) h c l)

counted_weight : (s : Shape) (w v : List ℕ) → count (word_length s) (differs w v) ≡ weight s (difference w v)
unfolding weight differs
counted_weight s w v = count_cong (word_length s) _ _ (λ j l. refl)

-- n or more positions
pub differ_many : (s : Shape) → Lawful s → (w v : List ℕ) → s.n ≤ count (word_length s) (differs w v)
    → false ≡ (leb (weight s (difference w v)) (s.n - 1) && unmasked_test s (difference w v))
differ_many s h w v many =
    let b = bounds s h in
    sym (and_no_left _ (lt-leb (weight s (difference w v)) (s.n - 1) (omega (arith, counted_weight s w v))))

-- the listed places are positions of both words
pub differ_inside : (s : Shape) {p : ℕ → Bool} {k : ℕ} {places : List ℕ} (w v : List ℕ) → length w ≡ word_length s → length v ≡ word_length s
    → Listed p (word_length s) k places → (x : ℕ) → x < k → (at places x < length w) × (at places x < length v)
differ_inside s w v ew ev l x lx = (rw ew (l.below x lx), rw ev (l.below x lx))

module _ (s : Shape) (w v : List ℕ) {k : ℕ} {places errors : List ℕ} (h : Lawful s) (l : Listed (differs w v) (word_length s) k places)
    (m : Begins 8 k (λ x. difference w v (at places x)) errors) where
  differences_listed : Lists s (difference w v) k places errors
  unfolding differs
  differences_listed = lists_cong (λ j lj. when_nonzero (difference w v j)) (listed_lists s (difference w v) l m)

  module _ {syn new : List ℕ} (y : Syndromes s v syn) (quiet : Silent s (at v)) (c : Cancelled s k places errors syn new) where
    -- with the differences put on it, a silent proposal's table shows them alone
    shows : (t L : ℕ) → t < s.n → L < s.q → at new (t * s.q + L) ≡ syndrome s (difference w v) t L
    unfolding syndrome
    shows t L lt lL =
        c.entry t L lt lL
        ∙ ap₂ (λ (x z : ℕ). x ⊕ z) (y.entry t L lt lL ∙ quiet.silent t L lt lL) (sym (differences_listed.sums (λ j. eqb (line_of s t j) L)))
        ∙ zero_l _

    shown : (t j : ℕ) → t < s.n → j < word_length s → at new (check_of s j t) ≡ syndrome s (difference w v) t (line_of s t j)
    shown t j lt lj = shows t (line_of s t j) lt (line_lt s h t j lt lj)

    -- no listed position is on a silent check: the difference is unmasked
    unmasked_if : any (word_length s) (λ j. differs w v j && is_masked s new j) ≡ false → Unmasked s (difference w v)
    unfolding differs is_masked
    unmasked_if none-masked = record {
      unmasked = λ t j lt lj some masked.
          clash
          (and_both (not_of_false (ne_eqb (difference w v j) 0 some))
          (any_intro s.n (λ t. eqb (at new (check_of s j t)) 0) t lt (eq-eqb (at new (check_of s j t)) 0 (shown t j lt lj ∙ masked))))
          (any_no (word_length s) (λ j. differs w v j && is_masked s new j) none-masked j lj);
    }

    masked_not : Unmasked s (difference w v) → (j : ℕ) → j < word_length s → (differs w v j && is_masked s new j) ≡ false
    unfolding differs is_masked
    masked_not u j lj =
        ⊎_elim
        (λ (p : differs w v j ≡ true).
        and_no_right (differs w v j)
        (any_none s.n (λ t. eqb (at new (check_of s j t)) 0)
        (λ t lt.
        ne_eqb (at new (check_of s j t)) 0
        (λ z. u.unmasked t j lt lj (eqb-false (difference w v j) 0 (not-true (eqb (difference w v j) 0) p)) (sym (shown t j lt lj) ∙ z)))))
        (λ (p : differs w v j ≡ false). and_no_left (is_masked s new j) p)
        (either (differs w v j))

    unmasked_by : not (any k (λ x. is_masked s new (at places x))) ≡ unmasked_test s (difference w v)
    unmasked_by =
        ap not (sym (l.finds (is_masked s new)))
        ∙ same (λ sound. unmasked_test_lem s (difference w v) (unmasked_if (not-true _ sound)))
        (λ test. not_of_false (any_none (word_length s) (λ j. differs w v j && is_masked s new j) (masked_not (test_unmasked s (difference w v) test))))

    pub differ_few : k < s.n → not (any k (λ x. is_masked s new (at places x))) ≡ (leb (weight s (difference w v)) (s.n - 1) && unmasked_test s (difference w v))
    differ_few lk =
        unmasked_by
        ∙ sym
        (ap (λ (b : Bool). b && unmasked_test s (difference w v))
        (le-leb (weight s (difference w v)) (s.n - 1) (omega (arith, counted_weight s w v, l.counted))))
