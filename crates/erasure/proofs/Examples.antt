-- 13 stays possible however few the places are: a codeword with one symbol changed that is not listed.
use mathlib.Core.Path.{◌≡◌, refl, sym, ap, ap₂, ◌∙◌}
use mathlib.Core.Bool.{Bool, true, false, not, ◌&&◌, ◌||◌, and-true}
use mathlib.Core.List.{List}
use mathlib.Core.Logic.{inl, inr, ⊎_elim}
use Prim.Native.Nat.{ℕ, ◌+◌, ◌%◌, ◌^◌, ◌<◌}
use native.Mathlib.Nat.{lt_of_le_of_lt, lt_of_lt_of_le, mul-le-mul_right}
use native.Mathlib.Omega.{arith}
use lib.Dec.{eqb, lit<}
use lib.ListN.{length}
use lib.Pow.{pow_pos, pow_mono}
use borrow.Author.Tests.{eq-eqb, ne_eqb, eqb-true, eqb-false}
use Rattle.parity.specs.Xor.{when}
use Rattle.parity.specs.Count.{bit, sum, count}
use Rattle.parity.specs.Lists.{tabulate}
use Rattle.parity.proofs.Xors.{when_zero}
use Rattle.parity.proofs.XorSums.{none}
use Rattle.parity.proofs.Tests.{either, clash, or_no, and_left, and_right, and_both, and_no_right}
use Rattle.parity.proofs.Sums.{sum_cong, sum_add, sum_only, bit_le, bit_true, bit_false, count_cong, count_le}
use Rattle.parity.proofs.Pigeon.{some_fails}
use Rattle.parity.proofs.Only.{only_count}
use Rattle.parity.proofs.Lists.{at_tabulate}
use Rattle.gtb.specs.declared.Shape.{Shape}
use Rattle.gtb.specs.declared.Refusal.{Refusal}
use Rattle.std.specs.Prelude.{Result, Ok, Err}
use Rattle.gtb.specs.Shape.{Lawful, word_length, scratch_length}
use Rattle.gtb.specs.Square.{line_of, at, syndrome, Word, Codeword}
use Rattle.gtb.proofs.Bounds.{bounds}
use Rattle.gtb.proofs.Words.{tabulate_word}
use Rattle.gtb.proofs.Lines.{line_lt, share_one}
use Rattle.distance.specs.Distance.{differences, minimum_distance}
use Rattle.distance.proofs.Even.{bit_inside}
use Rattle.distance.proofs.Twice.{twice}
use Rattle.erasure.specs.Fill.{is_listed, rising, fill_status, Agrees, Spoiled, Decision}
use Rattle.erasure.proofs.Lists.{rising_places, listed_count}
use Rattle.erasure.proofs.Filling.{tests_pass}

-- ---- zeros with a 1 at position j
abbrev pub zeros : Shape → List ℕ
zeros s = tabulate (word_length s) (λ i. 0)

abbrev one_at : Shape → ℕ → List ℕ
one_at s j = tabulate (word_length s) (λ i. bit (eqb i j))

pub zeros_codeword : (s : Shape) → Codeword s (zeros s)
unfolding syndrome
zeros_codeword s = record {
  word = tabulate_word s (λ i. 0) (λ i l. pow_pos s.b);
  checks = record {
    silent = λ t L lt lL.
        none (word_length s) _
        (λ i l. ap (when (eqb (line_of s t i) L)) (at_tabulate (word_length s) (λ i. 0) i l) ∙ when_zero (eqb (line_of s t i) L));
  };
}

one_word : (s : Shape) → Lawful s → (j : ℕ) → Word s (one_at s j)
one_word s law j =
    tabulate_word s (λ i. bit (eqb i j)) (λ i l. lt_of_le_of_lt (bit_le (eqb i j)) (lt_of_lt_of_le {m = 2 ^ 1} (lit< tt) (pow_mono (bounds s law).b1)))

shows : (b : Bool) → not (eqb 0 (bit b)) ≡ b
unfolding bit
shows true = refl
shows false = refl

one_changed : (s : Shape) (j : ℕ) → j < word_length s → differences s (zeros s) (one_at s j) ≡ 1
unfolding differences
one_changed s j lj =
    count_cong (word_length s) _ (λ i. eqb i j)
    (λ i l.
    ap₂ (λ (x y : ℕ). not (eqb x y)) (at_tabulate (word_length s) (λ i. 0) i l) (at_tabulate (word_length s) (λ i. bit (eqb i j)) i l)
    ∙ shows (eqb i j))
    ∙ only_count (word_length s) (λ i. eqb i j) j (record { below = lj; passes = eq-eqb j j refl; alone = λ i l e. eqb-true i j e })

one_passes : (s : Shape) → Lawful s → (j : ℕ) (places : List ℕ) → rising (word_length s) places ≡ true → (scratch : List ℕ)
    → length scratch ≡ scratch_length s → fill_status s (one_at s j) places scratch ≡ Ok tt
one_passes s law j places up scratch size = tests_pass s (one_at s j) places scratch law (one_word s law j) size up

-- ---- counts on a line l and off it
bit_either : (a b c : Bool) → (b ≡ true → c ≡ false) → bit (a && (b || c)) ≡ bit (a && b) + bit (a && c)
unfolding bit
bit_either false b c h = refl
bit_either true false c h = omega arith
bit_either true true c h = sym (ap (λ (x : Bool). 1 + bit x) (h refl))

bit_on : (a b : Bool) → bit b ≡ bit (a && b) + bit (not a && b)
unfolding bit
bit_on true true = refl
bit_on true false = refl
bit_on false b = omega arith

count_on : (n : ℕ) (l p : ℕ → Bool) → count n p ≡ count n (λ i. l i && p i) + count n (λ i. not (l i) && p i)
unfolding count
count_on n l p = sum_cong n _ _ (λ i _. bit_on (l i) (p i)) ∙ sum_add n (λ i. bit (l i && p i)) (λ i. bit (not (l i) && p i))

-- one member more, which counts on the line if it is on it
count_and_one : (n : ℕ) (l p : ℕ → Bool) (k : ℕ) → k < n → p k ≡ false
    → count n (λ i. l i && (p i || eqb i k)) ≡ count n (λ i. l i && p i) + bit (l k)
unfolding count
count_and_one n l p k lk free =
    sum_cong n _ (λ i. bit (l i && p i) + bit (l i && eqb i k))
    (λ i _. bit_either (l i) (p i) (eqb i k) (λ h. ne_eqb i k (λ e. clash h (ap p e ∙ free))))
    ∙ sum_add n (λ i. bit (l i && p i)) (λ i. bit (l i && eqb i k))
    ∙ ap (λ (x : ℕ). sum n (λ i. bit (l i && p i)) + x)
    (sum_only n k (λ i. bit (l i && eqb i k)) lk (λ i _ ne. bit_false (and_no_right (l i) (ne_eqb i k ne)))
    ∙ ap bit (ap (λ (b : Bool). l k && b) (eq-eqb k k refl) ∙ and-true (l k)))

-- a part of a set is smaller if it has an even number on a line where the set has an odd one
part_smaller : (n : ℕ) (l a b : ℕ → Bool) → ((i : ℕ) → i < n → a i ≡ true → b i ≡ true) → count n (λ i. l i && a i) % 2 ≡ 0
    → count n (λ i. l i && b i) % 2 ≡ 1 → count n a < count n b
part_smaller n l a b inside even odd =
    omega (
      arith,
      count_on n l a,
      count_on n l b,
      count_le n (λ i. l i && a i) (λ i. l i && b i) (λ i li h. and_both (and_left (l i) (a i) h) (inside i li (and_right (l i) (a i) h))),
      count_le n (λ i. not (l i) && a i) (λ i. not (l i) && b i)
          (λ i li h. and_both (and_left (not (l i)) (a i) h) (inside i li (and_right (not (l i)) (a i) h))),
    )

-- ---- what filling in answers
none_refused : {s : Shape} {word places word' : List ℕ} {r : Result ℕ Refusal} → ((v : List ℕ) → Agrees s word places v → ⊥) → Decision s word places word' r
    → r ≡ Err Refusal.Unfillable
none_refused {word' = word'} none (inl a) = absurd (none word' a.agrees)
none_refused none (inr (inl a)) = a.answer
none_refused none (inr (inr a)) = absurd (none a.one a.agrees)

-- the listed places and j
abbrev joined : List ℕ → ℕ → ℕ → Bool
joined places j i = is_listed places i || eqb i j

module _ (s : Shape) (law : Lawful s) (places : List ℕ) (up : rising (word_length s) places ≡ true) (few : length places < minimum_distance s.n) where
  -- a codeword that agrees is zero off these; one bit of it is an even set with j, so it is all of them, and these are even on every line
  none_agrees : (j t L : ℕ) → j < word_length s → is_listed places j ≡ false → t < s.n → L < s.q
      → count (word_length s) (λ i. eqb (line_of s t i) L && joined places j i) % 2 ≡ 1 → (v : List ℕ) → Agrees s (one_at s j) places v → ⊥
  unfolding minimum_distance bit
  none_agrees j t L lj free lt lL odd v a =
      let symbol = at_tabulate (word_length s) (λ i. bit (eqb i j)) in
      let one : at v j ≡ 1 = a.same j lj free ∙ symbol j lj ∙ bit_true (eq-eqb j j refl) in
      let d = bit_inside s j (at v) a.codeword.checks (λ z. omega arith) in
      omega (
        arith,
        listed_count (rising_places up),
        count_and_one (word_length s) (λ i. true) (is_listed places) j lj free,
        twice s law d.chosen d.even j lj d.holds,
        part_smaller (word_length s) (λ i. eqb (line_of s t i) L) d.chosen (joined places j)
            (λ i li c.
            ⊎_elim (λ (h : is_listed places i ≡ true). ap (λ (b : Bool). b || eqb i j) h)
            (λ (h : is_listed places i ≡ false).
            ap (λ (b : Bool). b || eqb i j) h
            ∙ ⊎_elim (λ (e : eqb i j ≡ true). e)
            (λ (e : eqb i j ≡ false). absurd (d.inside i c (a.same i li h ∙ symbol i li ∙ bit_false e)))
            (either (eqb i j)))
            (either (is_listed places i)))
            (d.even.even t L lt lL) odd,
      )

  spoiled_at : (j t L : ℕ) → j < word_length s → is_listed places j ≡ false → t < s.n → L < s.q
      → count (word_length s) (λ i. eqb (line_of s t i) L && joined places j i) % 2 ≡ 1 → Spoiled s places
  spoiled_at j t L lj free lt lL odd =
      let passes = one_passes s law j places up in
      record {
        word = one_at s j;
        stored = zeros s;
        codeword = zeros_codeword s;
        changed = one_changed s j lj;
        passes = passes;
        gets = λ scratch word' scratch' r size f. none_refused (none_agrees j t L lj free lt lL odd) (f.decided (passes scratch size)).0;
      }

  -- of two positions, neither listed, that are on different lines one will do: with the first there is one place more on its line, with the other not
  one_of_two : (j k t : ℕ) → j < word_length s → k < word_length s → is_listed places j ≡ false → is_listed places k ≡ false → t < s.n
      → eqb (line_of s t k) (line_of s t j) ≡ false → Spoiled s places
  one_of_two j k t lj lk fj fk lt off =
      let L = line_of s t j in
      let lL = line_lt s law t j lt lj in
      let more = count_and_one (word_length s) (λ i. eqb (line_of s t i) L) (is_listed places) in
      let listed = count (word_length s) (λ i. eqb (line_of s t i) L && is_listed places i) in
      ⊎_elim
      (λ (even : eqb (listed % 2) 0 ≡ true).
      spoiled_at j t L lj fj lt lL (omega (arith, eqb-true (listed % 2) 0 even, more j lj fj, bit_true (eq-eqb L L refl))))
      (λ (odd : eqb (listed % 2) 0 ≡ false).
      let one = eqb-false (listed % 2) 0 odd in
      spoiled_at k t L lk fk lt lL (omega (arith, more k lk fk, bit_false off)))
      (either (eqb (listed % 2) 0))

-- two positions are on different lines of one of the first two directions
parted : (s : Shape) → Lawful s → (i j : ℕ) → i < word_length s → j < word_length s → (i ≡ j → ⊥) → (t : ℕ) × (t < s.n) × (eqb (line_of s t i) (line_of s t j) ≡ false)
parted s law i j li lj ne =
    let n2 = (bounds s law).n2 in
    ⊎_elim
    (λ (e : eqb (line_of s 0 i) (line_of s 0 j) ≡ true). (
      1,
      omega arith,
      ne_eqb (line_of s 1 i) (line_of s 1 j)
          (share_one s law i j li lj ne 0 1 (omega arith) (omega arith) (λ z. omega arith) (eqb-true _ _ e)),
    ))
    (λ (e : eqb (line_of s 0 i) (line_of s 0 j) ≡ false). (0, omega arith, e))
    (either (eqb (line_of s 0 i) (line_of s 0 j)))

-- there are two such positions, since the places are fewer than two rows
pub spoiled : (s : Shape) → Lawful s → (places : List ℕ) → rising (word_length s) places ≡ true → length places < minimum_distance s.n → Spoiled s places
unfolding minimum_distance bit
spoiled s law places up few =
    let size = listed_count (rising_places up) in
    let b = bounds s law in
    let square = mul-le-mul_right s.q b.q3 in
    let (j, lj, fj) = some_fails (word_length s) (is_listed places) (omega arith) in
    let (k, lk, other) =
    some_fails (word_length s) (joined places j) (omega (arith, count_and_one (word_length s) (λ i. true) (is_listed places) j lj fj)) in
    let (fk, ne) = or_no (is_listed places k) (eqb k j) other in
    let (t, lt, off) = parted s law k j lk lj (eqb-false k j ne) in
    one_of_two s law places up few j k t lj lk fj fk lt off
