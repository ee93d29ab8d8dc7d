-- Lemma D: how many checks on a position are met by other members of a set of positions; and the distance of codewords, which follows.
use mathlib.Core.Path.{◌≡◌, refl, sym, ap, ap₂, ◌∙◌}
use mathlib.Core.Bool.{Bool, true, false, not, ◌&&◌}
use mathlib.Core.List.{List}
use mathlib.Core.Logic.{⊎_elim}
use Prim.Native.Nat.{ℕ, ◌<◌, ◌≤◌}
use native.Mathlib.Omega.{arith}
use lib.Dec.{eqb, ltb}
use lib.Seq.{ext_get_or}
use borrow.Author.Tests.{ltb-true, ltb-false, eq-eqb, ne_eqb, eqb-true, eqb-false, not-true, not-false}
use Rattle.parity.specs.Xor.{◌⊕◌, when}
use Rattle.parity.specs.Count.{bit, sum, count, any}
use Rattle.parity.proofs.Xors.{self, eq_of_zero, when_zero}
use Rattle.parity.proofs.XorSums.{only}
use Rattle.parity.proofs.Tests.{either, clash, and_right, and_both, and_no_left, any_elim, any_no, not_of_false}
use Rattle.parity.proofs.Sums.{sum_le, sum_exchange, bit_true, count_cong, count_none}
use Rattle.parity.proofs.Pigeon.{some_fails, any_count, count_one, count_others}
use Rattle.gtb.specs.declared.Shape.{Shape}
use Rattle.gtb.specs.Shape.{Lawful, word_length}
use Rattle.gtb.specs.Square.{line_of, at, syndrome, Word, Silent, Codeword}
use Rattle.gtb.proofs.Lines.{line_lt, share_one}
use Rattle.gtb.proofs.Rows.{syndrome_linear}

-- the check of direction t on j holds a member of A other than j
unfoldable pub others : Shape → (ℕ → Bool) → ℕ → ℕ → Bool
others s A j t = any (word_length s) (λ i. A i && not (eqb i j) && eqb (line_of s t i) (line_of s t j))

-- i is such a member
abbrev other : Shape → (ℕ → Bool) → ℕ → ℕ → ℕ → Bool
other s A j t i = A i && not (eqb i j) && eqb (line_of s t i) (line_of s t j)

other_line : (s : Shape) (A : ℕ → Bool) (j t i : ℕ) → other s A j t i ≡ true → line_of s t i ≡ line_of s t j
other_line s A j t i h =
    eqb-true (line_of s t i) (line_of s t j) (and_right (A i && not (eqb i j)) (eqb (line_of s t i) (line_of s t j)) h)

module _ (s : Shape) (law : Lawful s) (A : ℕ → Bool) (j : ℕ) (lj : j < word_length s) where
  -- another position is on at most one check on j
  not_twice : (i : ℕ) → i < word_length s → (A i && not (eqb i j)) ≡ true
      → (t u : ℕ) → t < s.n → u < s.n → (t ≡ u → ⊥) → other s A j t i ≡ true → other s A j u i ≡ true → ⊥
  not_twice i li m t u lt lu tu ht hu =
      share_one s law i j li lj (eqb-false i j (not-true (eqb i j) (and_right (A i) (not (eqb i j)) m))) t u lt lu tu
      (other_line s A j t i ht) (other_line s A j u i hu)

  meets_once : (i : ℕ) → i < word_length s → count s.n (λ t. other s A j t i) ≤ bit (A i && not (eqb i j))
  meets_once i li =
      ⊎_elim
      (λ (m : (A i && not (eqb i j)) ≡ true). omega (arith, bit_true m, count_one s.n (λ t. other s A j t i) (not_twice i li m)))
      (λ (m : (A i && not (eqb i j)) ≡ false).
      omega (arith, count_none s.n (λ t. other s A j t i) (λ t lt. and_no_left (eqb (line_of s t i) (line_of s t j)) m)))
      (either (A i && not (eqb i j)))

  -- at most as many checks on j hold other members of A as there are other members
  pub crossing : count s.n (others s A j) ≤ count (word_length s) (λ i. A i && not (eqb i j))
  unfolding others count
  crossing =
      let a : count s.n (others s A j) ≤ sum s.n (λ t. count (word_length s) (other s A j t)) = sum_le _ _ _ (λ t lt. any_count _ _) in
      let b = sum_exchange s.n (word_length s) (λ t i. bit (other s A j t i)) in
      let c = sum_le (word_length s) (λ i. count s.n (λ t. other s A j t i)) (λ i. bit (A i && not (eqb i j))) meets_once in
      omega arith

  -- fewer others than directions: some check on j holds none of them
  pub private_check : count (word_length s) (λ i. A i && not (eqb i j)) < s.n → (t : ℕ) × (t < s.n) × (others s A j t ≡ false)
  private_check few = let c = crossing in some_fails s.n (others s A j) (omega arith)

-- no other member of A on a check: what f has there outside j is zero, where f is zero outside A
private_zero : (s : Shape) (A : ℕ → Bool) (f : ℕ → ℕ) (j t i : ℕ)
    → (A i ≡ false → f i ≡ 0)
    → (i ≡ j → ⊥)
    → other s A j t i ≡ false
    → when (eqb (line_of s t i) (line_of s t j)) (f i) ≡ 0
unfolding when
private_zero s A f j t i zeros ne free =
    ⊎_elim
    (λ (l : eqb (line_of s t i) (line_of s t j) ≡ true).
    ⊎_elim (λ (a : A i ≡ true). absurd (clash (and_both (and_both a (not_of_false (ne_eqb i j ne))) l) free))
    (λ (a : A i ≡ false). ap (λ (x : ℕ). when (eqb (line_of s t i) (line_of s t j)) x) (zeros a) ∙ when_zero (eqb (line_of s t i) (line_of s t j)))
    (either (A i)))
    (λ (l : eqb (line_of s t i) (line_of s t j) ≡ false). ap (λ (b : Bool). when b (f i)) l)
    (either (eqb (line_of s t i) (line_of s t j)))

-- such a check shows the symbol at j
pub private_value : (s : Shape) (A : ℕ → Bool) (f : ℕ → ℕ) (j t : ℕ)
    → j < word_length s
    → ((i : ℕ) → i < word_length s → A i ≡ false → f i ≡ 0)
    → others s A j t ≡ false
    → syndrome s f t (line_of s t j) ≡ f j
unfolding others syndrome when
private_value s A f j t lj zeros free =
    only (word_length s) j (λ i. when (eqb (line_of s t i) (line_of s t j)) (f i)) lj
    (λ i li ne. private_zero s A f j t i (zeros i li) ne (any_no (word_length s) (other s A j t) free i li))
    ∙ ap (λ (b : Bool). when b (f j)) (eq-eqb (line_of s t j) (line_of s t j) refl)

-- a XOR is zero exactly where the two are equal
pub eqb_xor : (a b : ℕ) → eqb (a ⊕ b) 0 ≡ eqb a b
eqb_xor a b =
    ⊎_elim
    (λ (e : eqb a b ≡ true). eq-eqb (a ⊕ b) 0 (ap (λ (x : ℕ). x ⊕ b) (eqb-true a b e) ∙ self b) ∙ sym e)
    (λ (e : eqb a b ≡ false). ne_eqb (a ⊕ b) 0 (λ z. eqb-false a b e (eq_of_zero a b z)) ∙ sym e)
    (either (eqb a b))

-- a silent function that is not zero everywhere has more than n nonzero symbols
pub distance : (s : Shape) → Lawful s → (f : ℕ → ℕ) → Silent s f → (j : ℕ) → j < word_length s → (f j ≡ 0 → ⊥)
    → s.n < count (word_length s) (λ i. not (eqb (f i) 0))
distance s law f quiet j lj nz =
    ⊎_elim (λ (l : ltb s.n size ≡ true). ltb-true s.n size l) (λ (g : ltb s.n size ≡ false). absurd (near (ltb-false s.n size g)))
    (either (ltb s.n size))
  where
    A : ℕ → Bool
    A i = not (eqb (f i) 0)

    size : ℕ
    size = count (word_length s) A

    near : size ≤ s.n → ⊥
    near few =
        let one = count_others (word_length s) A j lj (not_of_false (ne_eqb (f j) 0 nz)) in
        let (t, lt, free) = private_check s law A j lj (omega arith) in
        nz
        (sym (private_value s A f j t lj (λ i li a. eqb-true (f i) 0 (not-false (eqb (f i) 0) a)) free)
        ∙ quiet.silent t (line_of s t j) lt (line_lt s law t j lt lj))

-- two words of the square that differ nowhere are one
same_word : (s : Shape) (v w : List ℕ) → Word s v → Word s w → any (word_length s) (λ j. not (eqb (at v j) (at w j))) ≡ false → v ≡ w
same_word s v w hv hw h =
    ext_get_or 0 v w (hv.size ∙ sym hw.size)
    (λ j l.
    let lj : j < word_length s = rw hv.size at l in
    eqb-true (at v j) (at w j) (not-false (eqb (at v j) (at w j)) (any_no (word_length s) (λ j. not (eqb (at v j) (at w j))) h j lj)))

-- two different codewords differ in more than n positions
pub codeword_distance : (s : Shape) → Lawful s → (v w : List ℕ) → Codeword s v → Codeword s w → (v ≡ w → ⊥)
    → s.n < count (word_length s) (λ j. not (eqb (at v j) (at w j)))
codeword_distance s law v w hv hw ne =
    ⊎_elim
    (λ (d : any (word_length s) differs ≡ true).
    let (j, lj, e) = any_elim (word_length s) differs d in
    rw (sym size)
    (distance s law (λ j. at v j ⊕ at w j) quiet j lj
    (λ z. eqb-false (at v j) (at w j) (not-true (eqb (at v j) (at w j)) e) (eq_of_zero (at v j) (at w j) z))))
    (λ (d : any (word_length s) differs ≡ false). absurd (ne (same_word s v w hv.word hw.word d)))
    (either (any (word_length s) differs))
  where
    differs : ℕ → Bool
    differs j = not (eqb (at v j) (at w j))

    size : count (word_length s) (λ j. not (eqb (at v j ⊕ at w j) 0)) ≡ count (word_length s) differs
    size = count_cong _ _ _ (λ j l. ap not (eqb_xor (at v j) (at w j)))

    quiet : Silent s (λ j. at v j ⊕ at w j)
    quiet = record {
      silent = λ t L lt lL.
          syndrome_linear s (at v) (at w) t L
          ∙ ap₂ (λ (x y : ℕ). x ⊕ y) (hv.checks.silent t L lt lL) (hw.checks.silent t L lt lL)
          ∙ self 0;
    }
