-- What is found in the table of syndromes is what the definitions say of the word.
use Rattle.std.specs.Prelude.{Some, None}
use mathlib.Core.Path.{◌≡◌, refl, sym, ap, ap₂, ◌∙◌}
use mathlib.Core.Bool.{Bool, true, false, not, ◌&&◌}
use mathlib.Core.List.{List}
use Prim.Native.Nat.{ℕ, ◌-◌, ◌<◌, ◌≤◌}
use native.Mathlib.Omega.{arith}
use lib.Dec.{eqb}
use borrow.Author.Tests.{le-leb}
use Rattle.parity.specs.Lists.{Begins}
use Rattle.parity.specs.Xor.{when}
use Rattle.parity.specs.Count.{count}
use Rattle.parity.proofs.First.{first_cong}
use Rattle.parity.proofs.Sums.{count_cong}
use Rattle.parity.proofs.Tests.{all_cong, any_cong}
use Rattle.gtb.specs.declared.Shape.{Shape}
use Rattle.gtb.specs.Shape.{Lawful, word_length}
use Rattle.gtb.specs.Square.{line_of, at, Syndromes}
use Rattle.gtb.proofs.Bounds.{bounds}
use Rattle.correction.specs.Reading.{changes_by, restored_by, accepted_by}
use Rattle.correction.specs.Steps.{quiet, Lists, Listed, Cancelled, Found}
use Rattle.correction.proofs.Listing.{within, listed_lists, lists_cong}
use Rattle.correction.proofs.Readings.{too_many, found_none, found_few}
use Rattle.correction.proofs.Tables.{shown, silent_by}
use Rattle.decoder.specs.Decode.{located, alone, error_at, clean}
use Rattle.decoder.specs.Steps.{judged, shares, alone_among_places, error_among}

and_assoc : (a b c : Bool) → (a && b && c) ≡ (a && (b && c))
and_assoc true b c = refl
and_assoc false b c = refl

module _ (s : Shape) (h : Lawful s) (w syn : List ℕ) (y : Syndromes s w syn) where
  -- the table shows the syndromes, so by it the same positions are located
  judged_located : (j : ℕ) → j < word_length s → judged s syn j ≡ located s (at w) j
  unfolding judged located
  judged_located j lj = all_cong s.n _ _ (λ t lt. ap (λ (x : ℕ). not (eqb x 0)) (shown s h w syn y j t lj lt))

  counts_located : count (word_length s) (judged s syn) ≡ changes_by clean s w
  unfolding changes_by
  counts_located = count_cong (word_length s) (judged s syn) (located s (at w)) judged_located

  -- n or more located positions
  uncorrectable : s.n ≤ count (word_length s) (judged s syn) → accepted_by clean s w ≡ false
  uncorrectable many = let b = bounds s h in too_many clean s w (omega (arith, counts_located))

  module _ {k : ℕ} {places errors : List ℕ} (l : Listed (judged s syn) (word_length s) k places) (m : Begins 8 k (λ x. error_among s syn places k (at places x)) errors) where
    -- the list holds all located positions
    alone_among : (j t : ℕ) → alone_among_places s places k j t ≡ alone s (at w) j t
    unfolding alone_among_places alone shares
    alone_among j t =
        ap not
        (sym (l.finds (shares s t j))
        ∙ any_cong (word_length s) _ _
        (λ i li.
        ap (λ (b : Bool). b && (not (eqb i j) && eqb (line_of s t i) (line_of s t j))) (judged_located i li)
        ∙ sym (and_assoc (located s (at w) i) (not (eqb i j)) (eqb (line_of s t i) (line_of s t j)))))

    -- and the errors of the word
    errors_listed : Lists s (error_at s (at w)) k places errors
    unfolding error_at error_among
    errors_listed =
        lists_cong
        (λ j lj.
        ap₂ when (sym (judged_located j lj))
        (sym (first_cong s.n _ _ _ _ (λ t lt. alone_among j t) (λ t lt. shown s h w syn y j t lj lt))))
        (listed_lists s (error_among s syn places k) l m)

    -- test 4 by the table after the corrections
    correctable_by : {new : List ℕ} → Cancelled s k places errors syn new → k < s.n → accepted_by clean s w ≡ quiet s new
    unfolding accepted_by restored_by
    correctable_by t lk =
        ap₂ (λ (a b : Bool). a && b) (le-leb (changes_by clean s w) (s.n - 1) (omega (arith, counts_located, l.counted))) (silent_by errors_listed y t h)

-- ---- what `find` gives
pub found_many : {s : Shape} {syn places errors : List ℕ} → Lawful s → s.n ≤ count (word_length s) (judged s syn) → Found clean s true syn places errors None
found_many {s} {syn} h many = found_none (λ whole w hw y. uncorrectable s h w syn y many)

module _ {s : Shape} {syn places errors new : List ℕ} {k : ℕ} (h : Lawful s) (lk : k < s.n) (l : Listed (judged s syn) (word_length s) k places)
    (m : Begins 8 k (λ x. error_among s syn places k (at places x)) errors) (t : Cancelled s k places errors syn new) where
  pub found_corrections : quiet s new ≡ true → Found clean s true syn places errors (Some k)
  unfolding restored_by
  found_corrections e =
      found_few (within h lk l)
      (λ w hw y. record {
        error = error_at s (at w);
        listed = errors_listed s h w syn y l m;
        accepted = correctable_by s h w syn y l m t lk ∙ e;
        changed = sym (counts_located s h w syn y) ∙ l.counted;
        word = refl;
      })

  pub found_loud : quiet s new ≡ false → Found clean s true syn places errors None
  found_loud e = found_none (λ whole w hw y. correctable_by s h w syn y l m t lk ∙ e)
