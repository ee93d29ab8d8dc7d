-- The words of a run: how many there are, and each by its place.
use mathlib.Core.Path.{◌≡◌, sym, ap, ap₂, ◌∙◌, subst}
use mathlib.Core.Bool.{true, false}
use mathlib.Core.List.{List, ◌++◌}
use mathlib.Core.Logic.{⊎_elim}
use Prim.Native.Nat.{ℕ, zero, suc, ◌+◌, ◌-◌, ◌*◌, ◌/◌, ◌%◌, ◌<◌, ◌≤◌}
use native.Mathlib.Nat.{le_refl, le_of_eq, le_trans, mul-le-mul, mul-le-mul_right, zero-mul, suc-mul, mul-mod_left, div-add-mod', div-eq_of_eq-mul_left}
use native.Mathlib.Omega.{arith}
use lib.Dec.{leb}
use lib.ListN.{length, take, drop, length-drop}
use lib.Seq.{take_all, take-add, take-append-le, drop-append-le}
use borrow.Author.Tests.{eq-eqb, eqb-true, leb-true, le-leb}
use Rattle.parity.proofs.Tests.{either, same, any_elim, any_intro}
use Rattle.gtb.specs.declared.Shape.{Shape}
use Rattle.gtb.specs.Shape.{Lawful, word_length}
use Rattle.gtb.proofs.Bounds.{bounds}
use Rattle.gtb.proofs.Sizes.{sizes}
use Rattle.batch.specs.Batch.{words_in, whole_run}

-- ---- the test
pub word_positive : (s : Shape) → Lawful s → 0 < word_length s
word_positive s law = let b = bounds s law in mul-le-mul {n₁ = 1} {m₁ = 1} (omega arith) (omega arith)

-- a whole run
pub record Whole (s : Shape) (words : List ℕ) : Type 0 where
  pub size : length words ≡ words_in s words * word_length s
  pub some : 1 ≤ words_in s words
  pub few : words_in s words ≤ 64

module _ (s : Shape) (law : Lawful s) (words : List ℕ) where
  pub run_words : whole_run s words ≡ true → Whole s words
  unfolding whole_run
  run_words h =
      let (i, l, e) = any_elim _ _ h in
      let size : length words ≡ (i + 1) * word_length s = eqb-true _ _ e in
      let many : words_in s words ≡ i + 1 = div-eq_of_eq-mul_left (word_positive s law) size in
      record { size = size ∙ ap (λ (m : ℕ). m * word_length s) (sym many); some = omega arith; few = omega arith }

  run_whole : Whole s words → whole_run s words ≡ true
  unfolding whole_run
  run_whole w =
      let last : words_in s words ≡ words_in s words - 1 + 1 = omega (arith, w.some) in
      any_intro _ _ (words_in s words - 1) (omega (arith, w.some, w.few))
      (eq-eqb (length words) ((words_in s words - 1 + 1) * word_length s) (w.size ∙ ap (λ (m : ℕ). m * word_length s) last))

  run_not : (Whole s words → ⊥) → false ≡ whole_run s words
  run_not other = sym (⊎_elim (λ (t : whole_run s words ≡ true). absurd (other (run_words t))) (λ f. f) (either (whole_run s words)))

  -- ragged, or empty
  pub run_ragged : (length words % word_length s ≡ 0 → ⊥) → false ≡ whole_run s words
  run_ragged odd = run_not (λ w. odd (ap (λ (m : ℕ). m % word_length s) w.size ∙ mul-mod_left (words_in s words) (word_length s)))

  pub run_empty : words_in s words ≡ 0 → false ≡ whole_run s words
  run_empty none = run_not (λ w. omega (arith, none, w.some))

  -- else at most 64 words, or longer
  pub run_upto : length words % word_length s ≡ 0 → (words_in s words ≡ 0 → ⊥) → leb (words_in s words) 64 ≡ whole_run s words
  run_upto even some =
      same
      (λ t.
      run_whole
      (record {
        size = omega (arith, even, div-add-mod' (length words) (word_length s));
        some = omega (arith, some);
        few = leb-true (words_in s words) 64 t;
      }))
      (λ t. le-leb (words_in s words) 64 (run_words t).few)

-- ---- the words

-- word i ends where word m begins, or before
pub words_before : {i m : ℕ} (size : ℕ) → i < m → i * size + size ≤ m * size
words_before {i} size l = rw (suc-mul i size) at (mul-le-mul_right size l)

-- where word m stands, in numbers of the code's
pub record Place (words : List ℕ) (size m : ℕ) : Type 0 where
  pub few : m < 64
  pub room : m * size + size ≤ length words
  pub small : m * size + size ≤ 61504

pub run_place : (s : Shape) → Lawful s → (words : List ℕ) → Whole s words → (size m : ℕ) → size ≡ word_length s → m < length words / size → Place words size m
run_place s law words w size m is l =
    let below : m < words_in s words = subst (λ (n : ℕ). m < length words / n) is l in
    let few : m < 64 = le_trans below w.few in
    let most : m * word_length s + word_length s ≤ 64 * word_length s = words_before (word_length s) few in
    rw is
    (record {
      few = few;
      room = subst (λ (n : ℕ). m * word_length s + word_length s ≤ n) (sym w.size) (words_before (word_length s) below);
      small = omega (arith, most, (sizes s law).word);
    })

-- a part of the front, whatever follows the front
pub front_part : (front xs ys : List ℕ) (from size : ℕ) → from + size ≤ length front
    → take size (drop from (front ++ xs)) ≡ take size (drop from (front ++ ys))
front_part front xs ys from size l = alone xs ∙ sym (alone ys)
  where
    alone : (zs : List ℕ) → take size (drop from (front ++ zs)) ≡ take size (drop from front)
    alone zs =
        ap (take size) (drop-append-le from front zs (omega arith))
        ∙ take-append-le size (drop from front) zs (simp length-drop (omega arith))

-- two runs of m words, word by word alike, are one
module _ (size : ℕ) (xs ys : List ℕ) where
  first_words : (m : ℕ) → ((i : ℕ) → i < m → take size (drop (i * size) xs) ≡ take size (drop (i * size) ys)) → take (m * size) xs ≡ take (m * size) ys
  first_words zero h = rw (zero-mul size)
  first_words (suc m) h =
      ap (λ (n : ℕ). take n xs) (suc-mul m size) ∙ take-add (m * size) size xs
      ∙ ap₂ (λ (a b : List ℕ). a ++ b) (first_words m (λ i l. h i (omega arith))) (h m (le_refl (suc m)))
      ∙ sym (ap (λ (n : ℕ). take n ys) (suc-mul m size) ∙ take-add (m * size) size ys)

  pub same_words : (m : ℕ) → length xs ≡ m * size → length ys ≡ m * size
      → ((i : ℕ) → i < m → take size (drop (i * size) xs) ≡ take size (drop (i * size) ys)) → xs ≡ ys
  same_words m lx ly h = sym (take_all (m * size) xs (le_of_eq lx)) ∙ first_words m h ∙ take_all (m * size) ys (le_of_eq ly)
