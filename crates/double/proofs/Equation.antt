-- The equation finds the codeword that is near: the change at each position is what the word differs there.
use mathlib.Core.Path.{◌≡◌, sym, ap, ◌∙◌}
use mathlib.Core.Bool.{Bool, true, false, not, ◌&&◌}
use mathlib.Core.List.{List}
use mathlib.Core.Logic.{⊎_elim}
use Prim.Native.Nat.{ℕ, ◌^◌, ◌<◌, ◌≤◌}
use native.Mathlib.Omega.{arith}
use lib.Dec.{eqb}
use borrow.Author.Tests.{eqb-true, eqb-false, not-true}
use Rattle.parity.specs.Xor.{◌⊕◌}
use Rattle.parity.specs.Count.{count}
use Rattle.parity.proofs.Xors.{xors, twice, eq_of_zero}
use Rattle.parity.proofs.Tests.{either, and_left, and_right, and_both, not_of_false, any_elim, any_intro}
use Rattle.parity.proofs.First.{first_some, first_none}
use Rattle.parity.proofs.Pigeon.{count_others}
use Rattle.gtb.specs.declared.Shape.{Shape}
use Rattle.gtb.specs.Shape.{Lawful, word_length}
use Rattle.gtb.specs.Square.{line_of, at, silent_test}
use Rattle.gtb.proofs.Lines.{line_lt}
use Rattle.gtb.proofs.Rows.{silent_hidden, syndrome_width}
use Rattle.gtb.proofs.Words.{silent_test_lem, test_cong}
use Rattle.gtb.proofs.Crossing.{private_check}
use Rattle.distance.specs.Distance.{Near}
use Rattle.distance.proofs.Near.{near_unique}
use Rattle.correction.specs.Error.{on_check, mended, off}
use Rattle.correction.proofs.Errors.{mended_at, off_here, off_there, off_narrow}
use Rattle.correction.proofs.Near.{error_of, support, outside, error_size, near_shown, near_private, error_near}
use Rattle.double.specs.Double.{single, two_at, two}
use Rattle.double.specs.Steps.{pair_of}
use Rattle.double.proofs.Pairs.{pair_narrow, pair_few}
use Rattle.double.proofs.Lone.{lone, lone_check}

-- both corrections at once
off_pair : (f : ℕ → ℕ) (a x b y j : ℕ) → off (off f a x) b y j ≡ f j ⊕ pair_of a x b y j
unfolding off pair_of
off_pair f a x b y j = simp xors

-- this check of j passes
abbrev passes : Shape → (ℕ → ℕ) → ℕ → ℕ → Bool
passes s f j t = not (eqb (on_check s f j t) 0) && single s (off f j (on_check s f j t))

module _ (s : Shape) (law : Lawful s) (n3 : 3 ≤ s.n) (w v : List ℕ) (k : ℕ) (near : Near s (two.bound s) w v k) where
  value_narrow : (j t : ℕ) → on_check s (at w) j t < 2 ^ s.b
  value_narrow j t = syndrome_width s (at w) s.b t (line_of s t j) (λ i l. near.word.width i)

  -- symbols that are the codeword's but at i
  single_right : (g : ℕ → ℕ) (i : ℕ) → i < word_length s → ((j : ℕ) → j < word_length s → (j ≡ i → ⊥) → g j ≡ at v j) → single s g ≡ true
  unfolding single
  single_right g i li same =
      any_intro (word_length s) (λ i. silent_test s (off g i (on_check s g i 0))) i li
      (test_cong s (off g i (on_check s g i 0)) (at v)
      (λ j lj.
      ⊎_elim
      (λ (t : eqb j i ≡ true).
      let e = eqb-true j i t in
      ap (off g i (on_check s g i 0)) e ∙ off_here g i (on_check s g i 0) ∙ ap (λ (x : ℕ). g i ⊕ x) value ∙ twice (g i) (at v i) ∙ ap (at v) (sym e))
      (λ (f : eqb j i ≡ false). let ne = eqb-false j i f in off_there g i (on_check s g i 0) j ne ∙ same j lj ne)
      (either (eqb j i)))
      ∙ silent_test_lem s (at v) near.codeword.checks)
    where
      zero_lt : 0 < s.n
      zero_lt = omega arith

      value : on_check s g i 0 ≡ g i ⊕ at v i
      value =
          silent_hidden s g (at v) near.codeword.checks 0 (line_of s 0 i) zero_lt (line_lt s law 0 i zero_lt li)
          ∙ lone_check s (λ j. g j ⊕ at v j) i 0 li (λ j lj ne l. ap (λ (x : ℕ). x ⊕ at v j) (same j lj ne) ∙ simp xors)

  -- where the word differs, some check passes
  support_size : count (word_length s) (support w v) ≤ 2
  support_size = omega (arith, error_size s w v, near.changed, near.few)

  pass_exists : (j : ℕ) → j < word_length s → support w v j ≡ true → (t : ℕ) × (t < s.n) × (passes s (at w) j t ≡ true)
  pass_exists j lj h =
      let one = count_others (word_length s) (support w v) j lj h in
      let (t, lt, free) = private_check s law (support w v) j lj (omega (arith, support_size)) in
      let value : on_check s (at w) j t ≡ error_of w v j = near_private law near j t lj lt free in
      let (i, li, alone) = lone (word_length s) (λ m. support w v m && not (eqb m j)) (omega arith) (omega (arith, support_size)) in (
        t,
        lt,
        rw value
            (and_both h
            (single_right (off (at w) j (error_of w v j)) i li
            (λ m lm ne.
            ⊎_elim
            (λ (e : eqb m j ≡ true). let same = eqb-true m j e in ap (off (at w) j (error_of w v j)) same ∙ off_here (at w) j (error_of w v j) ∙ twice (at w j) (at v j) ∙ ap (at v) (sym same))
            (λ (e : eqb m j ≡ false).
            off_there (at w) j (error_of w v j) m (eqb-false m j e)
            ∙ eq_of_zero (at w m) (at v m)
            (⊎_elim (λ (d : support w v m ≡ true). absurd (ne (alone m lm (and_both d (not_of_false e))))) (λ (d : support w v m ≡ false). outside w v m d) (either (support w v m))))
            (either (eqb m j))))),
      )

  -- whatever passes is the difference: with it and one more taken off, the word is a codeword within two symbols, so the one
  pass_exact : (j t : ℕ) → j < word_length s → t < s.n → passes s (at w) j t ≡ true → on_check s (at w) j t ≡ error_of w v j
  unfolding single
  pass_exact j t lj lt h =
      let x = on_check s (at w) j t in
      let (i, li, quiet) = any_elim (word_length s) (λ i. silent_test s (off (off (at w) j x) i (on_check s (off (at w) j x) i 0))) (and_right (not (eqb x 0)) _ h) in
      let y = on_check s (off (at w) j x) i 0 in
      let ly : y < 2 ^ s.b = syndrome_width s (off (at w) j x) s.b 0 (line_of s 0 i) (λ m l. off_narrow s.b (at w) j x m (near.word.width m) (value_narrow j t)) in
      let found =
      error_near s w (pair_of j x i y) (two.bound s) near.word (λ m l. pair_narrow s.b j x i y (value_narrow j t) ly m) (pair_few (word_length s) j x i y lj li)
      (test_cong s (at (mended s w (pair_of j x i y))) (off (off (at w) j x) i y) (λ m l. mended_at s w (pair_of j x i y) m l ∙ sym (off_pair (at w) j x i y m)) ∙ quiet) in
      let same : (m : ℕ) → m < word_length s → off (off (at w) j x) i y m ≡ at v m =
      λ m l. off_pair (at w) j x i y m ∙ sym (mended_at s w (pair_of j x i y) m l) ∙ ap (λ (u : List ℕ). at u m) (near_unique s law (two.bound s) n3 w _ v _ k found near).0 in
      ⊎_elim
      (λ (e : eqb j i ≡ true).
      let ji = eqb-true j i e in
      near_shown law near j t lj lt
      ∙ lone_check s (error_of w v) j t lj
      (λ m lm ne l. ap (λ (z : ℕ). z ⊕ at v m) (sym (off_there (at w) j x m ne) ∙ sym (off_there (off (at w) j x) i y m (λ mi. ne (mi ∙ sym ji))) ∙ same m lm) ∙ simp xors))
      (λ (e : eqb j i ≡ false).
      let here : at w j ⊕ x ≡ at v j = sym (off_here (at w) j x) ∙ sym (off_there (off (at w) j x) i y j (eqb-false j i e)) ∙ same j lj in
      sym (twice (at w j) x) ∙ ap (λ (z : ℕ). at w j ⊕ z) here)
      (either (eqb j i))

  -- so the change is the difference
  pub two_right : (j : ℕ) → j < word_length s → two_at s (at w) j ≡ error_of w v j
  unfolding two_at
  two_right j lj =
      ⊎_elim
      (λ (d : support w v j ≡ true).
      let (t, lt, h) = pass_exists j lj d in
      let (u, lu, hu, e) = first_some s.n (passes s (at w) j) (on_check s (at w) j) t lt h in
      e ∙ pass_exact j u lj lu hu)
      (λ (d : support w v j ≡ false).
      first_none s.n (passes s (at w) j) (on_check s (at w) j)
      (λ u lu.
      ⊎_elim
      (λ (h : passes s (at w) j u ≡ true).
      absurd (eqb-false _ 0 (not-true _ (and_left _ (single s (off (at w) j (on_check s (at w) j u))) h)) (pass_exact j u lj lu h ∙ outside w v j d)))
      (λ h. h) (either (passes s (at w) j u)))
      ∙ sym (outside w v j d))
      (either (support w v j))
