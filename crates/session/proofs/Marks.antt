-- Marks counted one after the other: what is left to count gives the same sums.
use mathlib.Core.Path.{◌≡◌, refl, sym, ap, ap₂, ◌∙◌}
use mathlib.Core.Bool.{Bool, true, false, not, ◌&&◌}
use mathlib.Core.List.{List, [], ◌∷◌}
use Prim.Native.Nat.{ℕ, zero, suc, ◌+◌, ◌^◌, ◌<◌, ◌≤◌, zero-le}
use native.Mathlib.Nat.{add-zero}
use native.Mathlib.Decide.{ℕ_discrete}
use native.Mathlib.Numerals.{add-one}
use native.Mathlib.Omega.{arith}
use lib.Dec.{eqb, leb}
use Rattle.std.specs.Prelude.{Some, None}
use lib.ListN.{length, get_or, drop, set, length-set, drop_of_length-le}
use lib.Seq.{drop-cons, get_or-set_same, get_or-set_other}
use borrow.Author.Tests.{eq-eqb, ne_eqb, le-leb, lt-leb}
use Rattle.parity.specs.Count.{bit}
use Rattle.parity.proofs.Lists.{length_tabulate, at_tabulate, is_tabulate}
use Rattle.parity.proofs.Tests.{and_both, not_of_false, any_intro, any_none, any_cong}
use Rattle.parity.proofs.Sums.{bit_true, bit_false}
use Rattle.session.specs.Session.{is_call, count_of, added, overflows}
use Rattle.session.specs.Steps.{Adding, Counts, Functions}

-- ---- how many marks are for a function

-- the idle loop is no function that is called
pub idle_uncounted : (marks : List ℕ) → count_of 0 marks ≡ 0
unfolding count_of
idle_uncounted [] = refl
idle_uncounted (m ∷ marks) = ap₂ (λ (x y : ℕ). x + y) (no_call (eqb m 0)) (idle_uncounted marks)
  where
    no_call : (b : Bool) → bit (b && not b) ≡ 0
    no_call true = bit_false refl
    no_call false = bit_false refl

-- and every other function is called by each mark of its own, whatever its number
pub call_counted : (f : ℕ) (marks : List ℕ) → 0 < f → count_of f (f ∷ marks) ≡ 1 + count_of f marks
unfolding count_of
call_counted f marks l =
    ap (λ (x : ℕ). x + count_of f marks) (bit_true (and_both (eq-eqb f f refl) (not_of_false (ne_eqb f 0 (λ e. omega (arith, l, e))))))

-- ---- the counts with marks added
module _ (calls marks : List ℕ) where
  pub added_at : (f : ℕ) → f < 256 → get_or (added calls marks) f 0 ≡ get_or calls f 0 + count_of f marks
  unfolding added
  added_at f l = at_tabulate 256 (λ f. get_or calls f 0 + count_of f marks) f l

  pub added_size : length (added calls marks) ≡ 256
  unfolding added
  added_size = length_tabulate 256 (λ f. get_or calls f 0 + count_of f marks)

-- no mark: the counts themselves
added_none : (calls : List ℕ) → length calls ≡ 256 → calls ≡ added calls []
unfolding added count_of
added_none calls len = is_tabulate 256 (λ f. get_or calls f 0 + 0) calls len (λ f l. sym (add-zero (get_or calls f 0)))

-- a mark: the count of its function goes up by one, if it is a call
module _ (calls : List ℕ) (m : ℕ) (rest : List ℕ) (size : length calls ≡ 256) (small : m < 256) where
  mark_at : (f : ℕ) → Dec (f ≡ m) → get_or (set calls m (get_or calls m 0 + bit (is_call m))) f 0 + count_of f rest ≡ get_or calls f 0 + count_of f (m ∷ rest)
  unfolding count_of bit
  mark_at f (yes h) = rw (h, get_or-set_same calls m (get_or calls m 0 + bit (is_call m)) 0 (rw size small), eq-eqb m m refl) (omega (arith, ap (λ (x : ℕ). count_of x rest) h))
  mark_at f (no n) = rw (get_or-set_other calls m f (get_or calls m 0 + bit (is_call m)) 0 n, ne_eqb m f (λ e. n (sym e))) (omega arith)

  added_one : added (set calls m (get_or calls m 0 + bit (is_call m))) rest ≡ added calls (m ∷ rest)
  unfolding added
  added_one =
      let new : List ℕ = set calls m (get_or calls m 0 + bit (is_call m)) in
      is_tabulate 256 (λ f. get_or calls f 0 + count_of f (m ∷ rest)) (added new rest) (added_size new rest) (λ f l. added_at new rest f l ∙ mark_at f (ℕ_discrete f m))

-- ---- a count that passes its limit
-- the sums decide
same_overflow : (calls marks calls' marks' : List ℕ) → added calls' marks' ≡ added calls marks → overflows calls marks ≡ overflows calls' marks'
unfolding overflows
same_overflow calls marks calls' marks' same =
    any_cong 256 (λ f. leb (2 ^ 32) (get_or calls f 0 + count_of f marks)) (λ f. leb (2 ^ 32) (get_or calls' f 0 + count_of f marks'))
    (λ f l. ap (leb (2 ^ 32)) (sym (added_at calls marks f l) ∙ ap (λ (xs : List ℕ). get_or xs f 0) (sym same) ∙ added_at calls' marks' f l))

-- one at its limit with a mark to come
passes : (calls : List ℕ) (m : ℕ) (rest : List ℕ) → m < 256 → 2 ^ 32 ≤ get_or calls m 0 + bit (is_call m) → overflows calls (m ∷ rest) ≡ true
unfolding overflows count_of
passes calls m rest small full =
    any_intro 256 (λ f. leb (2 ^ 32) (get_or calls f 0 + count_of f (m ∷ rest))) m small
    (le-leb (2 ^ 32) (get_or calls m 0 + count_of m (m ∷ rest)) (rw (eq-eqb m m refl) (omega arith)))

-- counts that fit, and no mark to come
passes_none : (calls : List ℕ) → ((f : ℕ) → get_or calls f 0 < 2 ^ 32) → overflows calls [] ≡ false
unfolding overflows count_of
passes_none calls h = any_none 256 (λ f. leb (2 ^ 32) (get_or calls f 0 + 0)) (λ f l. lt-leb (2 ^ 32) (get_or calls f 0 + 0) (omega (arith, h f)))

-- ---- the loop
-- the counts stay below their limit
set_below : (calls : List ℕ) (m k : ℕ) → ((f : ℕ) → get_or calls f 0 < 2 ^ 32) → k < 2 ^ 32 → (f : ℕ) → get_or (set calls m k) f 0 < 2 ^ 32
set_below [] m k h lk f = h f
set_below (x ∷ calls) zero k h lk zero = lk
set_below (x ∷ calls) zero k h lk (suc f) = h (suc f)
set_below (x ∷ calls) (suc m) k h lk zero = h zero
set_below (x ∷ calls) (suc m) k h lk (suc f) = set_below calls m k (λ g. h (suc g)) lk f

-- the loop's invariant: the marks from i on are left to add
pub record Turn (calls marks calls' : List ℕ) (i : ℕ) : Type 0 where
  pub upto : i ≤ length marks
  pub sums : added calls' (drop i marks) ≡ added calls marks
  pub counts : Counts calls'
  pub small : Functions marks

pub turn_none : {calls marks : List ℕ} → Counts calls → Functions marks → Turn calls marks calls 0
turn_none h small = record { upto = zero-le; sums = refl; counts = h; small = small }

module _ {calls marks calls' : List ℕ} {i : ℕ} (h : Turn calls marks calls' i) where
  -- what is left begins with mark i
  left : i < length marks → drop i marks ≡ get_or marks i 0 ∷ drop (i + 1) marks
  left l = rw (add-one i) (drop-cons marks i 0 l)

  pub turn_more : i < length marks → get_or calls' (get_or marks i 0) 0 + bit (is_call (get_or marks i 0)) < 2 ^ 32
      → Turn calls marks (set calls' (get_or marks i 0) (get_or calls' (get_or marks i 0) 0 + bit (is_call (get_or marks i 0)))) (i + 1)
  turn_more l fits =
      let m : ℕ = get_or marks i 0 in
      let new : ℕ = get_or calls' m 0 + bit (is_call m) in
      record {
        upto = omega arith;
        sums = added_one calls' m (drop (i + 1) marks) h.counts.size (h.small.below i l) ∙ ap (added calls') (sym (left l)) ∙ h.sums;
        counts = record { size = length-set calls' m new ∙ h.counts.size; below = set_below calls' m new h.counts.below fits };
        small = h.small;
      }

  pub turn_full : i < length marks → 2 ^ 32 ≤ get_or calls' (get_or marks i 0) 0 + bit (is_call (get_or marks i 0)) → Adding calls marks calls' None
  turn_full l full =
      let over : overflows calls' (drop i marks) ≡ true = rw (left l) (passes calls' (get_or marks i 0) (drop (i + 1) marks) (h.small.below i l) full) in
      record { fits = rw (same_overflow calls marks calls' (drop i marks) h.sums ∙ over); sums = λ t. cc }

  pub turn_all : length marks ≤ i → Adding calls marks calls' (Some tt)
  turn_all l =
      let none : drop i marks ≡ [] = drop_of_length-le marks {i = i} l in
      let fits : overflows calls' (drop i marks) ≡ false = rw none (passes_none calls' h.counts.below) in
      record {
        fits = rw (same_overflow calls marks calls' (drop i marks) h.sums ∙ fits);
        sums = λ t. added_none calls' h.counts.size ∙ ap (added calls') (sym none) ∙ h.sums;
      }
