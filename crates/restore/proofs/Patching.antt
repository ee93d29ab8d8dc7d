-- The word with a close codeword's symbols at the listed places is near that codeword. What is known of near codewords then tells of the checks that
-- no listed place is on: a wrong position is on one that is not silent, few of them are not, and the checks on a wrong position mostly show the error.
use mathlib.Core.Path.{◌≡◌, refl, sym, ap, ◌∙◌}
use mathlib.Core.Bool.{Bool, true, false, not, cond, ◌||◌}
use mathlib.Core.List.{List}
use mathlib.Core.Logic.{◌⊎◌, inl, inr, ⊎_elim}
use Prim.Native.Nat.{ℕ, ◌+◌, ◌*◌, ◌/◌, ◌%◌, ◌<◌, ◌≤◌}
use native.Mathlib.Nat.{mod-lt, div-lt_iff_lt-mul, div-add-mod'}
use native.Mathlib.Omega.{arith}
use lib.Dec.{eqb}
use borrow.Author.Tests.{eq-eqb, eqb-true, not-true}
use Rattle.parity.specs.Xor.{◌⊕◌, when}
use Rattle.parity.specs.Lists.{tabulate}
use Rattle.parity.proofs.Xors.{self, eq_of_zero}
use Rattle.parity.proofs.XorSums.{cong}
use Rattle.parity.proofs.Tests.{either, clash, not_of_true}
use Rattle.parity.proofs.Sums.{count_cong, count_le, count_or, count_not}
use Rattle.parity.proofs.Lists.{at_tabulate}
use Rattle.gtb.specs.declared.Shape.{Shape}
use Rattle.gtb.specs.Shape.{Lawful, word_length}
use Rattle.gtb.specs.Square.{line_of, at, syndrome, Word}
use Rattle.gtb.proofs.Bounds.{positive}
use Rattle.gtb.proofs.Lines.{line_lt}
use Rattle.gtb.proofs.Words.{tabulate_word}
use Rattle.distance.specs.Distance.{differences, Near}
use Rattle.correction.specs.Error.{on_check, shows}
use Rattle.correction.specs.Steps.{check_in}
use Rattle.correction.specs.Guesses.{ManyNotSilent}
use Rattle.correction.proofs.Near.{error_of}
use Rattle.correction.proofs.Guessing.{enough, line_right, lines_few}
use Rattle.erasure.specs.Fill.{is_listed}
use Rattle.restore.specs.Restore.{strays, Close}
use Rattle.restore.specs.declared.marks.Marks.{Marks}
use Rattle.restore.specs.Steps.{Hidden}
use Rattle.restore.proofs.Straying.{wrong, wrong_unlisted, wrong_differs, wrong_not}

-- a check's value, by the symbols on it
on_line : (s : Shape) (f g : ℕ → ℕ) (t L : ℕ) → ((j : ℕ) → j < word_length s → line_of s t j ≡ L → f j ≡ g j) → syndrome s f t L ≡ syndrome s g t L
unfolding syndrome when
on_line s f g t L same =
    cong (word_length s) _ _
    (λ j l.
    ⊎_elim (λ (e : eqb (line_of s t j) L ≡ true). ap (when (eqb (line_of s t j) L)) (same j l (eqb-true _ _ e)))
    (λ (e : eqb (line_of s t j) L ≡ false). rw e)
    (either (eqb (line_of s t j) L)))

module _ (s : Shape) (word places v : List ℕ) where
  abbrev pub symbol : ℕ → ℕ
  symbol j = cond (is_listed places j) (at v j) (at word j)

  abbrev pub patched : List ℕ
  patched = tabulate (word_length s) symbol

  on_list : (j : ℕ) → j < word_length s → is_listed places j ≡ true → at patched j ≡ at v j
  on_list j l e = at_tabulate (word_length s) symbol j l ∙ ap (λ (b : Bool). cond b (at v j) (at word j)) e

  off_list : (j : ℕ) → j < word_length s → is_listed places j ≡ false → at patched j ≡ at word j
  off_list j l e = at_tabulate (word_length s) symbol j l ∙ ap (λ (b : Bool). cond b (at v j) (at word j)) e

  patched_near : {k : ℕ} → Word s word → Close s k word places v → Near s k patched v (strays s word places v)
  unfolding differences strays
  patched_near hw c = record {
    word =
        tabulate_word s symbol
        (λ j l.
        ⊎_elim (λ (e : is_listed places j ≡ true). rw e (c.codeword.word.width j)) (λ (e : is_listed places j ≡ false). rw e (hw.width j)) (either (is_listed places j)));
    codeword = c.codeword;
    changed =
        count_cong (word_length s) _ _
        (λ j l.
        ⊎_elim
        (λ (e : is_listed places j ≡ true). rw e (not_of_true (eq-eqb (at v j) (at patched j) (sym (on_list j l e)))))
        (λ (e : is_listed places j ≡ false). rw e (ap (λ (x : ℕ). not (eqb (at v j) x)) (off_list j l e)))
        (either (is_listed places j)));
    few = c.few;
  }

  -- what is not wrong is right there
  patched_right : (j : ℕ) → j < word_length s → wrong word places v j ≡ false → error_of patched v j ≡ 0
  patched_right j l h =
      ⊎_elim
      (λ (e : is_listed places j ≡ true). ap (λ (x : ℕ). x ⊕ at v j) (on_list j l e) ∙ self (at v j))
      (λ (e : is_listed places j ≡ false). ap (λ (x : ℕ). x ⊕ at v j) (off_list j l e ∙ sym (wrong_not word places v j h e)) ∙ self (at v j))
      (either (is_listed places j))

  -- and what is wrong is wrong
  pub patched_wrong : (j : ℕ) → j < word_length s → wrong word places v j ≡ true → error_of patched v j ≡ 0 → ⊥
  patched_wrong j l h z = wrong_differs word places v j h (sym (eq_of_zero (at patched j) (at v j) z) ∙ off_list j l (wrong_unlisted word places v j h))

  module _ {k : ℕ} {marks : Marks} (law : Lawful s) (hw : Word s word) (h : Hidden s word places marks) (c : Close s k word places v) where
    near : Near s k patched v (strays s word places v)
    near = patched_near hw c

    -- the tables show this word's checks
    masked : (t L : ℕ) → t < s.n → L < s.q
        → ((at marks.seen (t * s.q + L) ≡ 0) × (at marks.touched (t * s.q + L) ≡ 1)) ⊎ (at marks.seen (t * s.q + L) ≡ syndrome s (at patched) t L)
    masked t L lt lL =
        ⊎_elim (λ both. inl both) (λ free. inr (free.0 ∙ on_line s (at word) (at patched) t L (λ j l e. sym (off_list j l (free.1 j e))))) (h.entry t L lt lL)

    -- a check that is not silent has a wrong position
    pub loud_wrong : {check : ℕ} → check < s.n * s.q → (at marks.seen check ≡ 0 → ⊥)
        → ((p : ℕ) → p < word_length s → line_of s (check / s.q) p ≡ check % s.q → wrong word places v p ≡ false) → ⊥
    loud_wrong {check} lc loud right =
        let t : ℕ = check / s.q in
        let L : ℕ = check % s.q in
        let lt : t < s.n = (div-lt_iff_lt-mul (positive s law)).1 lc in
        let lL : L < s.q = mod-lt check (positive s law) in
        let here : at marks.seen check ≡ at marks.seen (t * s.q + L) = ap (at marks.seen) (sym (div-add-mod' check s.q)) in
        ⊎_elim (λ both. loud (here ∙ both.0))
        (λ shows. loud (here ∙ shows ∙ line_right law near t L lt lL (λ p lp e. patched_right p lp (right p lp e))))
        (masked t L lt lL)

    -- in each direction no more checks are not silent than positions are wrong
    pub few_not_silent : ManyNotSilent s marks.seen k → ⊥
    unfolding shows
    few_not_silent many =
        let t : ℕ = many.direction in
        omega (
          arith,
          many.many,
          lines_few law near t many.below,
          count_not s.q (λ L. eqb (at marks.seen (t * s.q + L)) 0),
          count_le s.q (λ L. not (eqb (at marks.seen (t * s.q + L)) 0)) (λ L. not (eqb (syndrome s (at patched) t L) 0))
              (λ L lL loud.
              ⊎_elim (λ both. absurd (clash (eq-eqb (at marks.seen (t * s.q + L)) 0 both.0) (not-true _ loud)))
              (λ shows. ap (λ (x : ℕ). not (eqb x 0)) (sym shows) ∙ loud)
              (masked t L many.below lL)),
        )

    -- of a wrong position's checks at most k - 1 are not touched and do not show what is wrong there
    pub votes : (j : ℕ) → j < word_length s → wrong word places v j ≡ true
        → s.n + 1 ≤ shows s.n (check_in s marks.seen j) (error_of patched v j) + shows s.n (check_in s marks.touched j) 1 + k
    unfolding shows
    votes j lj wr =
        let x : ℕ = error_of patched v j in
        omega (
          arith,
          enough law near j lj (patched_wrong j lj wr),
          count_le s.n (λ t. eqb (on_check s (at patched) j t) x) (λ t. eqb (check_in s marks.seen j t) x || eqb (check_in s marks.touched j t) 1)
              (λ t lt e.
              ⊎_elim (λ both. or_right (eqb (check_in s marks.seen j t) x) (eq-eqb (check_in s marks.touched j t) 1 both.1))
              (λ shows. or_left (eqb (check_in s marks.touched j t) 1) (ap (λ (y : ℕ). eqb y x) shows ∙ e))
              (masked t (line_of s t j) lt (line_lt s law t j lt lj))),
          count_or s.n (λ t. eqb (check_in s marks.seen j t) x) (λ t. eqb (check_in s marks.touched j t) 1),
        )
      where
        or_left : {a : Bool} (b : Bool) → a ≡ true → (a || b) ≡ true
        or_left b e = rw e

        or_right : (a : Bool) {b : Bool} → b ≡ true → (a || b) ≡ true
        or_right true e = refl
        or_right false e = e
