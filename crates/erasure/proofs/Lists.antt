-- Lists of places: test 12, and how many places there are.
use mathlib.Core.Path.{◌≡◌, sym, ◌∙◌}
use mathlib.Core.Bool.{Bool, true, false}
use mathlib.Core.List.{List}
use mathlib.Core.Logic.{⊎_elim}
use Prim.Native.Nat.{ℕ, zero-le, ◌+◌, ◌<◌, ◌≤◌}
use native.Mathlib.Nat.{not-suc-le-zero}
use native.Mathlib.Decide.{dec_lt}
use native.Mathlib.Omega.{arith}
use lib.Dec.{eqb, ltb}
use lib.ListN.{length}
use borrow.Author.Count.{below_more}
use borrow.Author.Tests.{ltb-true, leb-true, lt-ltb, le-ltb, eqb-true, eq-eqb}
use Rattle.parity.specs.Count.{bit, sum, count, any, all}
use Rattle.parity.proofs.Tests.{either, and_left, and_right, and_both, and_no_left, all_elim, all_intro, any_elim, any_no}
use Rattle.parity.proofs.Sums.{sum_cong, sum_exchange, bit_true, bit_false, count_none, count_bound}
use Rattle.parity.proofs.Only.{Only, only_count, each_once}
use Rattle.gtb.specs.Square.{at}
use Rattle.erasure.specs.Fill.{is_listed, rising}
use Rattle.erasure.specs.Steps.{rises, fits, Places, Above}

-- ---- the test
-- which is what the places before it have to do with it
fits_up : (size : ℕ) (places : List ℕ) (i : ℕ) → fits size places i ≡ true → (k : ℕ) → k < i → at places k < at places i
fits_up size places i h k l =
    let above : rises places i k ≡ true = all_elim i (rises places i) (and_right (ltb (at places i) size) (all i (rises places i)) h) k l in
    omega (arith, ltb-true, leb-true)

pub rising_places : {size : ℕ} {places : List ℕ} → rising size places ≡ true → Places size places
unfolding rising
rising_places {size} {places} h = record {
  below = λ k l. ltb-true _ _ (and_left _ _ (passed k l));
  once = λ i k li lk e.
      elim (dec_lt i k) [
        | yes l ↦ absurd (omega (arith, up k i lk l))
        | no l ↦ elim (dec_lt k i) [ yes m ↦ absurd (omega (arith, up i k li m)) | no m ↦ omega arith ]
      ];
}
  where
    passed : (i : ℕ) → i < length places → fits size places i ≡ true
    passed = all_elim (length places) (fits size places) h

    up : (i k : ℕ) → i < length places → k < i → at places k < at places i
    up i k l = fits_up size places i (passed i l) k

-- the number that the next place has to reach
pub above_none : (places : List ℕ) → Above places 0 0
above_none places = record { above = λ k l. absurd (not-suc-le-zero l); least = λ x h. zero-le }

pub above_more : {places : List ℕ} {i next : ℕ} → Above places i next → next ≤ at places i → Above places (i + 1) (at places i + 1)
above_more {places} {i} h le = record {
  above = below_more (λ k. at places k < at places i + 1) i (λ k l. omega (arith, h.above k l)) (omega arith);
  least = λ x all. omega (arith, all i (omega arith));
}

pub fits_not_above : {places : List ℕ} {i next : ℕ} (size : ℕ) → Above places i next → at places i < next → fits size places i ≡ false
fits_not_above {places} {i} size h l =
    ⊎_elim
    (λ (t : fits size places i ≡ true).
    absurd (omega (arith, h.least (at places i) (fits_up size places i t))))
    (λ f. f) (either (fits size places i))

pub fits_not_below : (size : ℕ) (places : List ℕ) (i : ℕ) → size ≤ at places i → fits size places i ≡ false
fits_not_below size places i l = and_no_left (all i (rises places i)) (le-ltb (at places i) size l)

pub fits_both : {size : ℕ} {places : List ℕ} {i next : ℕ} → Above places i next → next ≤ at places i → at places i < size → fits size places i ≡ true
fits_both {size} {places} {i} h le l =
    and_both (lt-ltb (at places i) size l) (all_intro i (rises places i) (λ k lk. lt-ltb (at places k) (at places i) (omega (arith, h.above k lk))))

-- ---- how many
-- some pass, of tests of which no two do, as often as one does
any_count : (m : ℕ) (t : ℕ → Bool) → ((i k : ℕ) → i < m → k < m → t i ≡ true → t k ≡ true → i ≡ k) → bit (any m t) ≡ count m t
any_count m t one =
    ⊎_elim
    (λ (h : any m t ≡ true).
    let (k, l, e) = any_elim m t h in
    bit_true h ∙ sym (only_count m t k (record { below = l; passes = e; alone = λ i li ei. one i k li l ei e })))
    (λ (h : any m t ≡ false). bit_false h ∙ sym (count_none m t (any_no m t h)))
    (either (any m t))

pub disjoint_count : (n m : ℕ) (t : ℕ → ℕ → Bool) → ((j i k : ℕ) → i < m → k < m → t i j ≡ true → t k j ≡ true → i ≡ k)
    → count n (λ j. any m (λ i. t i j)) ≡ sum m (λ i. count n (t i))
unfolding count
disjoint_count n m t one =
    sum_cong n _ _ (λ j l. any_count m (λ i. t i j) (one j)) ∙ sum_exchange n m (λ j i. bit (t i j))

module _ {size : ℕ} {places : List ℕ} (h : Places size places) where
  -- a listed position is one place of the list
  pub place_only : (k : ℕ) → k < length places → Only (length places) (λ i. eqb (at places i) (at places k)) k
  place_only k l = record {
    below = l;
    passes = eq-eqb (at places k) (at places k) (λ i. at places k);
    alone = λ i li e. h.once i k li l (eqb-true _ _ e);
  }

  position_only : (k : ℕ) → k < length places → Only size (λ j. eqb (at places k) j) (at places k)
  position_only k l = record {
    below = h.below k l;
    passes = eq-eqb (at places k) (at places k) (λ i. at places k);
    alone = λ j lj e. sym (eqb-true (at places k) j e);
  }

  pub listed_count : count size (is_listed places) ≡ length places
  unfolding is_listed count
  listed_count =
      disjoint_count size (length places) (λ i j. eqb (at places i) j)
      (λ j i k li lk ei ek. h.once i k li lk (eqb-true _ j ei ∙ sym (eqb-true _ j ek)))
      ∙ each_once (length places) size (λ i j. eqb (at places i) j) (λ k l. only_count _ _ _ (position_only k l))

  pub places_few : length places ≤ size
  places_few = omega (arith, listed_count, count_bound size (is_listed places))
