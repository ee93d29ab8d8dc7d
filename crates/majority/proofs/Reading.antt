-- What is found in the table of syndromes is what the definitions say of the word.
use Rattle.std.specs.Prelude.{Some, None}
use mathlib.Core.Path.{◌≡◌, refl, sym, ap, ◌∙◌}
use mathlib.Core.Bool.{Bool, true, false, not}
use mathlib.Core.List.{List}
use mathlib.Core.Logic.{⊎_elim}
use Prim.Native.Nat.{ℕ, ◌/◌, ◌<◌, ◌≤◌}
use native.Mathlib.Omega.{arith}
use lib.Dec.{eqb}
use borrow.Author.Tests.{not-true}
use Rattle.parity.specs.Lists.{Begins}
use Rattle.parity.specs.Xor.{when}
use Rattle.parity.specs.Count.{count}
use Rattle.parity.proofs.Xors.{when_lt}
use Rattle.parity.proofs.Sums.{count_cong}
use Rattle.parity.proofs.Tests.{either, and_right}
use Rattle.gtb.specs.declared.Shape.{Shape}
use Rattle.gtb.specs.Shape.{Lawful, word_length}
use Rattle.gtb.specs.Square.{at, Word, Syndromes}
use Rattle.gtb.proofs.Bounds.{bounds}
use Rattle.distance.specs.Distance.{Near}
use Rattle.correction.specs.Error.{on_check, mended}
use Rattle.correction.specs.Reading.{changes_by, restored_by, accepted_by}
use Rattle.correction.specs.Steps.{check_in, quiet, Lists, Listed, Cancelled, Found}
use Rattle.correction.proofs.Listing.{within, listed_lists, lists_cong, when_nonzero}
use Rattle.correction.proofs.Tables.{shown, silent_by}
use Rattle.correction.proofs.Near.{error_near}
use Rattle.correction.proofs.Readings.{too_many, still_loud, found_none, found_few}
use Rattle.majority.specs.Majority.{voted_at, vote}
use Rattle.majority.specs.Steps.{voted_in, changes, passed_over, found_in, too_many_changes}
use Rattle.majority.proofs.Votes.{majority_cong}
use Rattle.majority.proofs.Meaning.{vote_narrow, vote_meant}

module _ (s : Shape) (h : Lawful s) (w syn : List ℕ) (y : Syndromes s w syn) where
  -- the table shows the syndromes, so by it the vote is the same
  voted_in_lem : (j : ℕ) → j < word_length s → voted_in s syn j ≡ voted_at s (at w) j
  unfolding voted_in voted_at
  voted_in_lem j lj = majority_cong s.n (check_in s syn j) (on_check s (at w) j) (λ t lt. shown s h w syn y j t lj lt)

  -- more than n/2 positions change
  not_elected : too_many_changes s ≤ count (word_length s) (changes s syn) → accepted_by vote s w ≡ false
  unfolding changes_by changes
  not_elected many = too_many vote s w (omega (arith, count_cong (word_length s) _ _ (λ j lj. ap (λ (x : ℕ). not (eqb x 0)) (voted_in_lem j lj))))

-- the changes that a search finds, and 0 elsewhere
abbrev part : Shape → List ℕ → Bool → ℕ → ℕ
part s syn loud j = when (found_in s syn loud j) (voted_in s syn j)

part_nonzero : (s : Shape) (syn : List ℕ) (loud : Bool) (j : ℕ) → not (eqb (part s syn loud j) 0) ≡ found_in s syn loud j
unfolding when found_in changes
part_nonzero s syn loud j =
    ⊎_elim
    (λ (t : found_in s syn loud j ≡ true).
    ap (λ (b : Bool). not (eqb (when b (voted_in s syn j)) 0)) t ∙ and_right (not (passed_over loud (at syn (j / s.q)))) (changes s syn j) t ∙ sym t)
    (λ (f : found_in s syn loud j ≡ false). ap (λ (b : Bool). not (eqb (when b (voted_in s syn j)) 0)) f ∙ sym f)
    (either (found_in s syn loud j))

-- a search of all rows finds all changes
found_in_all : (s : Shape) (syn : List ℕ) (loud : Bool) → not loud ≡ true → (j : ℕ) → found_in s syn loud j ≡ changes s syn j
unfolding found_in passed_over
found_in_all s syn loud e j = rw (not-true loud e)

whole : (s : Shape) (syn : List ℕ) (loud : Bool) → not loud ≡ true → (j : ℕ) → voted_in s syn j ≡ part s syn loud j
unfolding changes
whole s syn loud every j = when_nonzero (voted_in s syn j) ∙ ap (λ (b : Bool). when b (voted_in s syn j)) (sym (found_in_all s syn loud every j))

-- ---- what `find` gives
pub found_many : {s : Shape} {syn places errors : List ℕ} (loud : Bool) → Lawful s → too_many_changes s ≤ count (word_length s) (found_in s syn loud)
    → Found vote s (not loud) syn places errors None
found_many {s} {syn} loud h many =
    found_none (λ every w hw y. not_elected s h w syn y (omega (arith, count_cong (word_length s) _ _ (λ j lj. found_in_all s syn loud every j))))

module _ {s : Shape} {syn places errors new : List ℕ} {k : ℕ} (loud : Bool) (h : Lawful s) (lk : k < too_many_changes s) (l : Listed (found_in s syn loud) (word_length s) k places)
    (m : Begins 8 k (λ x. voted_in s syn (at places x)) errors) (t : Cancelled s k places errors syn new) where
  -- the list holds them
  part_listed : Lists s (part s syn loud) k places errors
  part_listed = listed_lists s (voted_in s syn) l m

  -- where they silence every check they are at most n/2 errors on a codeword, so the vote finds just these
  part_near : quiet s new ≡ true → (w : List ℕ) → Word s w → Syndromes s w syn → Near s (s.n / 2) w (mended s w (part s syn loud)) k
  part_near e w hw y =
      let number : count (word_length s) (λ j. not (eqb (part s syn loud j) 0)) ≡ k = count_cong (word_length s) _ _ (λ j lj. part_nonzero s syn loud j) ∙ l.counted in
      rw number at (error_near s w (part s syn loud) (s.n / 2) hw
      (λ j lj. when_lt s.b (found_in s syn loud j) (voted_in s syn j) (rw (voted_in_lem s h w syn y j lj) (vote_narrow s w hw j))) (omega arith)
      (silent_by part_listed y t h ∙ e))

  pub found_changes : quiet s new ≡ true → Found vote s (not loud) syn places errors (Some k)
  found_changes e =
      found_few (within h (omega (arith, (bounds s h).n2)) l)
      (λ w hw y.
      let g = vote_meant.gives s h refl w _ k (part_near e w hw y) in
      record { error = part s syn loud; listed = part_listed; accepted = g.accepted; changed = g.changed; word = g.word })

  -- it leaves a check that is not silent
  pub found_loud : quiet s new ≡ false → Found vote s (not loud) syn places errors None
  unfolding restored_by
  found_loud e =
      found_none
      (λ every w hw y.
      still_loud vote s w (silent_by (lists_cong (λ j lj. sym (voted_in_lem s h w syn y j lj) ∙ whole s syn loud every j) part_listed) y t h ∙ e))
