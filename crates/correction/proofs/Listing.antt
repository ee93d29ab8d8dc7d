-- The list of the numbers that pass a test, made by going through the numbers in rising order, and lists of values beside it.
use Rattle.std.specs.Prelude.{Option, Some, None}
use mathlib.Core.Path.{◌≡◌, refl, sym, ap, ap₂, ◌∙◌, subst}
use mathlib.Core.Bool.{Bool, true, false, not, ◌&&◌, ◌||◌}
use mathlib.Core.List.{List}
use mathlib.Core.Logic.{⊎_elim}
use Prim.Native.Nat.{ℕ, zero, suc, ◌+◌, ◌-◌, ◌<◌, ◌≤◌}
use native.Mathlib.Nat.{add-zero, le_step, lt-suc_self, ne_of_lt, not-suc-le-zero}
use native.Mathlib.Omega.{arith}
use borrow.Author.Count.{below_more}
use borrow.Author.Tests.{eqb-true}
use lib.Dec.{eqb}
use lib.ListN.{length, set, length-set}
use lib.Seq.{get_or-set_same, get_or-set_other}
use Rattle.parity.specs.Lists.{Begins}
use Rattle.parity.specs.Xor.{◌⊕◌, xor_sum, when}
use Rattle.parity.specs.Count.{bit, count, any}
use Rattle.parity.proofs.Xors.{zero_r}
use Rattle.parity.proofs.XorSums.{xs_zero, cong, more}
use Rattle.parity.proofs.Sums.{sum_split, count_zero, count_more}
use Rattle.parity.proofs.Tests.{either, any_zero, any_more, any_cong}
use Rattle.gtb.specs.declared.Shape.{Shape}
use Rattle.gtb.specs.Shape.{Lawful, word_length}
use Rattle.gtb.specs.Square.{at}
use Rattle.gtb.proofs.Bounds.{bounds}
use Rattle.correction.specs.Steps.{Within, Lists, Listed, Scanned}

-- before the first number
pub listed_none : (p : ℕ → Bool) (places : List ℕ) → length places ≡ 8 → Listed p 0 0 places
listed_none p places e = record {
  size = e;
  counted = count_zero p;
  below = λ x l. absurd (not-suc-le-zero l);
  sums = λ f. xs_zero (λ j. when (p j) (f j)) ∙ sym (xs_zero (λ x. f (at places x)));
  finds = λ r. any_zero (λ j. p j && r j) ∙ sym (any_zero (λ x. r (at places x)));
}

or_false : (b : Bool) → (b || false) ≡ b
or_false true = refl
or_false false = refl

-- a number that fails
pub listed_skip : {p : ℕ → Bool} {m k : ℕ} {places : List ℕ} → p m ≡ false → Listed p m k places → Listed p (m + 1) k places
unfolding when bit
listed_skip {p} {m} {k} {places} n h = record {
  size = h.size;
  counted = count_more m p ∙ ap₂ (λ (x y : ℕ). x + y) h.counted (ap bit n) ∙ add-zero k;
  below = λ x l. omega (arith, h.below x l);
  sums = λ f. sym (more m (λ j. when (p j) (f j)) refl) ∙ ap₂ (λ (x : ℕ) (y : Bool). x ⊕ when y (f m)) (h.sums f) n ∙ zero_r (xor_sum k (λ x. f (at places x)));
  finds = λ r. any_more m (λ j. p j && r j) ∙ ap₂ (λ (x y : Bool). x || (y && r m)) (h.finds r) n ∙ or_false (any k (λ x. r (at places x)));
}

-- a number that passes
module _ {p : ℕ → Bool} {m k : ℕ} {places : List ℕ} (pass : p m ≡ true) (room : k < 8) (h : Listed p m k places) where
  last : at (set places k m) k ≡ m
  last = get_or-set_same places k m 0 (rw h.size room)

  kept : (x : ℕ) → x < k → at (set places k m) x ≡ at places x
  kept x l = get_or-set_other places k x m 0 (ne_of_lt l)

  pub listed_keep : Listed p (m + 1) (k + 1) (set places k m)
  unfolding when bit
  listed_keep = record {
    size = length-set places k m ∙ h.size;
    counted = count_more m p ∙ ap₂ (λ (x y : ℕ). x + y) h.counted (ap bit pass);
    below = below_more (λ x. at (set places k m) x < m + 1) k (λ x l. rw (kept x l) (omega (arith, h.below x l))) (rw last (omega arith));
    sums = λ f.
        sym (more m (λ j. when (p j) (f j)) refl)
        ∙ ap₂ (λ (x : ℕ) (y : Bool). x ⊕ when y (f m)) (h.sums f) pass
        ∙ ap₂ (λ (x y : ℕ). x ⊕ f y) (cong k (λ x. f (at places x)) (λ x. f (at (set places k m) x)) (λ x l. ap f (sym (kept x l)))) (sym last)
        ∙ more k (λ x. f (at (set places k m) x)) refl;
    finds = λ r.
        any_more m (λ j. p j && r j)
        ∙ ap₂ (λ (x y : Bool). x || (y && r m)) (h.finds r) pass
        ∙ ap₂ (λ (x : Bool) (y : ℕ). x || r y) (any_cong k (λ x. r (at places x)) (λ x. r (at (set places k m) x)) (λ x l. ap r (sym (kept x l)))) (sym last)
        ∙ sym (any_more k (λ x. r (at (set places k m) x)));
  }

-- d numbers that fail
pub listed_skips : {p : ℕ → Bool} {m k : ℕ} {places : List ℕ} (d : ℕ) → ((c : ℕ) → c < d → p (m + c) ≡ false) → Listed p m k places → Listed p (m + d) k places
listed_skips {p} {m} {k} {places} zero n h = rw (add-zero m) h
listed_skips {p} {m} {k} {places} (suc d) n h =
    subst (λ (x : ℕ). Listed p x k places) (omega arith) (listed_skip (n d (lt-suc_self d)) (listed_skips d (λ c l. n c (le_step l)) h))

-- the listed places are positions
pub within : {s : Shape} {p : ℕ → Bool} {k : ℕ} {places : List ℕ} → Lawful s → k < s.n → Listed p (word_length s) k places → Within s k places
within {s} h lk l = record { few = omega (arith, (bounds s h).n8); below = l.below }

-- ---- a search that ends at n
pub scanned_few : {p : ℕ → Bool} {n m k : ℕ} {places : List ℕ} → k < n → Listed p m k places → Scanned p n m (Some k) places
scanned_few {p} {n} {m} {k} {places} l h = record {
  few = λ k' is. let same : k ≡ k' = cc in subst (λ (x : ℕ). (x < n) × Listed p m x places) same (l, h);
  many = λ is. let z : ◌≡◌ {A = ℕ} 0 1 = cc in absurd (omega arith);
}

-- a longer range counts no less
pub count_grows : (p : ℕ → Bool) {m m' : ℕ} → m ≤ m' → count m p ≤ count m' p
unfolding count
count_grows p {m} {m'} l =
    let e : m + (m' - m) ≡ m' = omega arith in
    omega (arith, rw e at (sum_split m (m' - m) (λ i. bit (p i))))

pub scanned_many : {p : ℕ → Bool} {n : ℕ} {places : List ℕ} (m : ℕ) {m' : ℕ} → m ≤ m' → n ≤ count m p → Scanned p n m' None places
scanned_many {p} m l h = record { few = λ k is. let z : ◌≡◌ {A = ℕ} 0 1 = cc in absurd (omega arith); many = λ is. omega (arith, count_grows p l) }

-- ---- the values at the places that pass a test are an error
when_swap : (a b : Bool) (x : ℕ) → when a (when b x) ≡ when b (when a x)
unfolding when
when_swap true b x = refl
when_swap false true x = refl
when_swap false false x = refl

pub listed_lists : (s : Shape) {p : ℕ → Bool} (f : ℕ → ℕ) {k : ℕ} {places errors : List ℕ} → Listed p (word_length s) k places → Begins 8 k (λ x. f (at places x)) errors
    → Lists s (λ j. when (p j) (f j)) k places errors
listed_lists s {p} f {k} {places} l m = record {
  sums = λ g.
      cong (word_length s) _ _ (λ j lj. when_swap (g j) (p j) (f j))
      ∙ l.sums (λ j. when (g j) (f j))
      ∙ cong k _ _ (λ x lx. ap (when (g (at places x))) (sym (m.entry x lx)));
}

pub lists_cong : {s : Shape} {error error' : ℕ → ℕ} {k : ℕ} {places errors : List ℕ} → ((j : ℕ) → j < word_length s → error' j ≡ error j)
    → Lists s error k places errors → Lists s error' k places errors
lists_cong {s} same l = record { sums = λ g. cong (word_length s) _ _ (λ j lj. ap (when (g j)) (same j lj)) ∙ l.sums g }

-- what is not zero is all that counts
pub when_nonzero : (x : ℕ) → x ≡ when (not (eqb x 0)) x
unfolding when
when_nonzero x = ⊎_elim (λ (z : eqb x 0 ≡ true). rw z (eqb-true x 0 z)) (λ (z : eqb x 0 ≡ false). rw z) (either (eqb x 0))
