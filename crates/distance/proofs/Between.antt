-- A word between two codewords: of the positions where they differ the first f are marked, at the next h the word is like the other one, and elsewhere like
-- the one. With fewer than half of the positions that are not marked wrong, no reader can tell which of the two was stored.
use mathlib.Core.Path.{◌≡◌, refl, sym, ap, ◌∙◌, subst}
use mathlib.Core.Bool.{Bool, true, false, not, cond, ◌&&◌}
use mathlib.Core.List.{List}
use mathlib.Core.Logic.{⊎_elim}
use Prim.Native.Nat.{ℕ, zero, suc, ◌+◌, ◌<◌, ◌≤◌}
use native.Mathlib.Omega.{arith}
use lib.Dec.{eqb, ltb}
use borrow.Author.Tests.{eq-eqb, ltb-true, ltb-false, lt-ltb}
use Rattle.parity.specs.Count.{bit, sum, count}
use Rattle.parity.specs.Lists.{tabulate}
use Rattle.parity.proofs.Tests.{either, clash, same_eqb, and_no_left, not_of_true}
use Rattle.parity.proofs.Sums.{sum_cong, sum_add, bit_le, bit_false, count_cong}
use Rattle.parity.proofs.Lists.{at_tabulate}
use Rattle.gtb.specs.declared.Shape.{Shape}
use Rattle.gtb.specs.Shape.{word_length}
use Rattle.gtb.specs.Square.{at, Word, Codeword}
use Rattle.gtb.proofs.Words.{tabulate_word}
use Rattle.distance.specs.Distance.{differences, Attained}
use Rattle.distance.proofs.Differences.{differs}
use Rattle.distance.proofs.Near.{near_self}

-- a word and two different codewords: beside f marked positions the one differs from the word at h and the other at m
pub record Between (s : Shape) (f h m : ℕ) : Type 0 where
  pub word : List ℕ
  pub one : List ℕ
  pub other : List ℕ
  pub marked : ℕ → Bool
  pub came : Word s word
  pub codeword : Codeword s one
  pub codeword_too : Codeword s other
  pub different : one ≡ other → ⊥
  pub number : count (word_length s) marked ≡ f
  pub count_from_one : count (word_length s) (λ j. not (marked j) && differs one word j) ≡ h
  pub count_from_other : count (word_length s) (λ j. not (marked j) && differs other word j) ≡ m

-- the members of a set by another test
bit_parts : (b p : Bool) → bit p ≡ bit (b && p) + bit (not b && p)
unfolding bit
bit_parts true p = omega arith
bit_parts false p = omega arith

count_parts : (n : ℕ) (b p : ℕ → Bool) → count n p ≡ count n (λ i. b i && p i) + count n (λ i. not (b i) && p i)
unfolding count
count_parts n b p = sum_cong n _ _ (λ i l. bit_parts (b i) (p i)) ∙ sum_add n (λ i. bit (b i && p i)) (λ i. bit (not (b i) && p i))

-- the first k members of a set: those before which there are fewer than k; all, if it has no more
first_members : (n k : ℕ) (p : ℕ → Bool)
    → (count n p ≤ k → count n (λ j. ltb (count j p) k && p j) ≡ count n p) × (k ≤ count n p → count n (λ j. ltb (count j p) k && p j) ≡ k)
unfolding count sum
first_members zero k p = (λ l. refl, λ l. omega arith)
first_members (suc n) k p =
    let ih = first_members n k p in
    ⊎_elim
    (λ (b : ltb (count n p) k ≡ true).
    let l = ltb-true (count n p) k b in
    let same : bit (ltb (count n p) k && p n) ≡ bit (p n) = ap (λ (x : Bool). bit (x && p n)) b in
    let few = ih.0 (omega arith) in
    (λ h. omega arith, λ h. omega (arith, bit_le (p n))))
    (λ (b : ltb (count n p) k ≡ false).
    let l = ltb-false (count n p) k b in
    let none : bit (ltb (count n p) k && p n) ≡ 0 = bit_false (and_no_left (p n) b) in
    let full = ih.1 (omega arith) in
    (λ h. omega arith, λ h. omega arith))
    (either (ltb (count n p) k))

-- x, or y where a test says so
choice : (b : Bool) (x y : ℕ) → (not (eqb x (cond b y x)) ≡ (b && not (eqb x y))) × (not (eqb y (cond b y x)) ≡ (not b && not (eqb x y)))
choice true x y = (refl, not_of_true (eq-eqb y y refl))
choice false x y = (not_of_true (eq-eqb x x refl), ap not (same_eqb y x x y sym sym))

-- a test e and a narrower one f, of a member
early_only : (f e p : Bool) → (not (f && p) && (e && p)) ≡ (not f && (e && p))
early_only true true true = refl
early_only true true false = refl
early_only true false true = refl
early_only true false false = refl
early_only false e p = refl

both_first : (f e p : Bool) → (f ≡ true → e ≡ true) → (f && (e && p)) ≡ (f && p)
both_first true e p h = ap (λ (b : Bool). b && p) (h refl)
both_first false e p h = refl

late_only : (f e p : Bool) → (f ≡ true → e ≡ true) → (not (f && p) && (not e && p)) ≡ (not e && p)
late_only true true true h = refl
late_only true true false h = refl
late_only true false p h = absurd (clash (h refl) refl)
late_only false e p h = refl

module _ (s : Shape) (f h m : ℕ) (a : Attained s (f + h + m)) where
  -- where the two differ, the first f such positions, and the first f + h
  abbrev apart : ℕ → Bool
  apart = differs a.one a.other

  abbrev first : ℕ → Bool
  first j = ltb (count j apart) f

  abbrev early : ℕ → Bool
  early j = ltb (count j apart) (f + h)

  narrower : (j : ℕ) → first j ≡ true → early j ≡ true
  narrower j t = lt-ltb (count j apart) (f + h) (omega (arith, ltb-true (count j apart) f t))

  -- there the word is like the other codeword, elsewhere like the one
  abbrev symbol : ℕ → ℕ
  symbol j = cond (early j) (at a.other j) (at a.one j)

  abbrev middle : List ℕ
  middle = tabulate (word_length s) symbol

  middle_word : Word s middle
  middle_word =
      tabulate_word s symbol
      (λ j l.
      ⊎_elim (λ (t : early j ≡ true). rw t (a.codeword_too.word.width j)) (λ (t : early j ≡ false). rw t (a.codeword.word.width j)) (either (early j)))

  from_one : count (word_length s) (λ j. not (first j && apart j) && differs a.one middle j) ≡ h
  unfolding differences
  from_one =
      count_cong (word_length s) _ _
      (λ j l.
      ap (λ (b : Bool). not (first j && apart j) && b)
      (ap (λ (x : ℕ). not (eqb (at a.one j) x)) (at_tabulate (word_length s) symbol j l) ∙ (choice (early j) (at a.one j) (at a.other j)).0)
      ∙ early_only (first j) (early j) (apart j))
      ∙ omega (
        arith,
        count_parts (word_length s) first (λ j. early j && apart j),
        count_cong (word_length s) (λ j. first j && (early j && apart j)) (λ j. first j && apart j) (λ j l. both_first (first j) (early j) (apart j) (narrower j)),
        (first_members (word_length s) f apart).1 (omega (arith, a.differ)),
        (first_members (word_length s) (f + h) apart).1 (omega (arith, a.differ)),
      )

  from_other : count (word_length s) (λ j. not (first j && apart j) && differs a.other middle j) ≡ m
  unfolding differences
  from_other =
      count_cong (word_length s) _ _
      (λ j l.
      ap (λ (b : Bool). not (first j && apart j) && b)
      (ap (λ (x : ℕ). not (eqb (at a.other j) x)) (at_tabulate (word_length s) symbol j l) ∙ (choice (early j) (at a.one j) (at a.other j)).1)
      ∙ late_only (first j) (early j) (apart j) (narrower j))
      ∙ omega (
        arith,
        count_parts (word_length s) early apart,
        (first_members (word_length s) (f + h) apart).1 (omega (arith, a.differ)),
        a.differ,
      )

  pub between : 0 < f + h + m → Between s f h m
  unfolding differences
  between some = record {
    word = middle;
    one = a.one;
    other = a.other;
    marked = λ j. first j && apart j;
    came = middle_word;
    codeword = a.codeword;
    codeword_too = a.codeword_too;
    different = λ e.
        let far : differences s a.one a.one ≡ f + h + m = subst (λ (u : List ℕ). differences s a.one u ≡ f + h + m) (sym e) a.differ in
        omega (arith, (near_self {l = 0} a.codeword).changed);
    number = (first_members (word_length s) f apart).1 (omega (arith, a.differ));
    count_from_one = from_one;
    count_from_other = from_other;
  }
