-- The equation finds the codeword that is near: its number of steps is that of the wrong symbols, and the change at each position is what the word differs there.
use mathlib.Core.Path.{◌≡◌, refl, sym, ap, ◌∙◌, subst}
use mathlib.Core.Bool.{Bool, true, false, not, ◌&&◌, ◌||◌}
use mathlib.Core.List.{List}
use mathlib.Core.Logic.{◌⊎◌, inl, inr, ⊎_elim}
use Prim.Native.Nat.{ℕ, zero, suc, ◌-◌, ◌^◌, ◌<◌, ◌≤◌}
use native.Mathlib.Omega.{arith}
use lib.Dec.{eqb}
use borrow.Author.Tests.{eq-eqb, ne_eqb, eqb-true, eqb-false, not-false}
use Rattle.parity.specs.Xor.{◌⊕◌}
use Rattle.parity.specs.Count.{count, any}
use Rattle.parity.specs.Lists.{tabulate}
use Rattle.parity.proofs.Xors.{xors, self, twice, eq_of_zero}
use Rattle.parity.proofs.Tests.{either, clash, or_cases, and_right, and_both, and_no_right, not_of_true, not_of_false, any_elim, any_intro, any_no}
use Rattle.parity.proofs.Sums.{count_cong, count_none, count_le}
use Rattle.parity.proofs.Pigeon.{others_le, count_others}
use Rattle.parity.proofs.First.{first_some, first_none}
use Rattle.parity.proofs.Lists.{at_tabulate}
use Rattle.parity.proofs.Lowest.{lowest_is}
use Rattle.gtb.specs.declared.Shape.{Shape}
use Rattle.gtb.specs.Shape.{Lawful, word_length}
use Rattle.gtb.specs.Square.{line_of, at, Codeword}
use Rattle.gtb.proofs.Bounds.{bounds}
use Rattle.gtb.proofs.Lines.{line_lt}
use Rattle.gtb.proofs.Rows.{silent_hidden, syndrome_width}
use Rattle.gtb.proofs.Words.{tabulate_word, test_silent, silent_test_lem, test_cong}
use Rattle.gtb.proofs.Crossing.{private_check, private_value}
use Rattle.distance.specs.Distance.{Near}
use Rattle.distance.proofs.Near.{near_unique}
use Rattle.correction.specs.Error.{on_check, off}
use Rattle.correction.proofs.Errors.{off_here, off_there, off_narrow}
use Rattle.correction.proofs.Near.{error_of, support, outside, error_size}
use Rattle.nearest.specs.Nearest.{reaches, steps, nearest_at, nearest}

-- ---- where symbols differ from a word, and at how many positions
abbrev pub wrong : (ℕ → ℕ) → List ℕ → ℕ → Bool
wrong f v j = not (eqb (f j ⊕ at v j) 0)

abbrev pub wrongs : Shape → (ℕ → ℕ) → List ℕ → ℕ
wrongs s f v = count (word_length s) (wrong f v)

-- at how many positions other than j
abbrev rest : Shape → (ℕ → ℕ) → List ℕ → ℕ → ℕ
rest s f v j = count (word_length s) (λ i. wrong f v i && not (eqb i j))

right : (f : ℕ → ℕ) (v : List ℕ) (j : ℕ) → wrong f v j ≡ false → f j ≡ at v j
right f v j h = eq_of_zero (f j) (at v j) (eqb-true _ 0 (not-false _ h))

-- without j, which is no member, all are left
without : (n : ℕ) (p : ℕ → Bool) (j : ℕ) → p j ≡ false → count n p ≤ count n (λ i. p i && not (eqb i j))
without n p j f = count_le n p _ (λ i l h. and_both h (not_of_false (ne_eqb i j (λ e. clash h (ap p e ∙ f)))))

-- ---- a symbol changes
module _ (s : Shape) (f : ℕ → ℕ) (v : List ℕ) (j x : ℕ) (lj : j < word_length s) where
  -- the others stay as they were
  rest_same : rest s (off f j x) v j ≡ rest s f v j
  rest_same =
      count_cong (word_length s) _ _
      (λ i l.
      ⊎_elim (λ (e : eqb i j ≡ true). and_no_right (wrong (off f j x) v i) (not_of_true e) ∙ sym (and_no_right (wrong f v i) (not_of_true e)))
      (λ (e : eqb i j ≡ false). ap (λ (y : ℕ). not (eqb (y ⊕ at v i) 0) && not (eqb i j)) (off_there f j x i (eqb-false i j e)))
      (either (eqb i j)))

  -- all, and one more for j at most
  with_others : wrongs s f v ≤ suc (rest s f v j)
  with_others =
      ⊎_elim (λ (t : wrong f v j ≡ true). omega (arith, count_others (word_length s) (wrong f v) j lj t))
      (λ (g : wrong f v j ≡ false). omega (arith, without (word_length s) (wrong f v) j g))
      (either (wrong f v j))

  pub one_more : wrongs s f v ≤ suc (wrongs s (off f j x) v)
  one_more = omega (arith, with_others, rest_same, others_le (word_length s) (wrong (off f j x) v) j)

  -- a symbol that is wrong then leaves no fewer
  no_fewer : wrong (off f j x) v j ≡ true → (wrongs s f v ≤ wrongs s (off f j x) v) × (0 < wrongs s (off f j x) v)
  no_fewer h = let one = count_others (word_length s) (wrong (off f j x) v) j lj h in (omega (arith, with_others, rest_same), omega arith)

-- what is wrong at j, taken off there, leaves one fewer
pub one_fewer : (s : Shape) (f : ℕ → ℕ) (v : List ℕ) (j : ℕ) → j < word_length s → wrong f v j ≡ true → suc (wrongs s (off f j (f j ⊕ at v j)) v) ≤ wrongs s f v
one_fewer s f v j lj h =
    let x : ℕ = f j ⊕ at v j in
    let gone : wrong (off f j x) v j ≡ false = not_of_true (eq-eqb _ 0 (ap (λ (y : ℕ). y ⊕ at v j) (off_here f j x) ∙ simp xors)) in
    omega (arith, without (word_length s) (wrong (off f j x) v) j gone, rest_same s f v j x lj, count_others (word_length s) (wrong f v) j lj h)

-- ---- what is reached is a codeword
pub reached_codeword : (s : Shape) (k : ℕ) (f : ℕ → ℕ) → ((j : ℕ) → f j < 2 ^ s.b) → reaches s k f ≡ true → (v : List ℕ) × Codeword s v × (wrongs s f v ≤ k)
unfolding reaches
reached_codeword s zero f slim h =
    let v : List ℕ = tabulate (word_length s) f in (
      v,
      record { word = tabulate_word s f (λ j l. slim j); checks = test_silent s (at v) (test_cong s (at v) f (at_tabulate (word_length s) f) ∙ h) },
      omega (
        arith,
        count_none (word_length s) (wrong f v) (λ j l. not_of_true (eq-eqb _ 0 (ap (λ (y : ℕ). f j ⊕ y) (at_tabulate (word_length s) f j l) ∙ self (f j)))),
      ),
    )
reached_codeword s (suc k) f slim h =
    ⊎_elim (λ (a : reaches s k f ≡ true). let (v, c, few) = reached_codeword s k f slim a in (v, c, omega arith))
    (λ (a : any (word_length s) (λ j. any s.n (λ t. reaches s k (off f j (on_check s f j t)))) ≡ true).
    let (j, lj, b) = any_elim (word_length s) _ a in
    let (t, lt, d) = any_elim s.n _ b in
    let x : ℕ = on_check s f j t in
    let (v, c, few) =
    reached_codeword s k (off f j x) (λ i. off_narrow s.b f j x i (slim i) (syndrome_width s f s.b t (line_of s t j) (λ m l. slim m))) d in
    (v, c, omega (arith, one_more s f v j x lj)))
    (or_cases (reaches s k f) _ h)

-- ---- a codeword that is near is reached
or_last : (a : Bool) {b : Bool} → b ≡ true → (a || b) ≡ true
or_last true h = refl
or_last false h = h

module _ (s : Shape) (law : Lawful s) (v : List ℕ) (c : Codeword s v) where
  -- a check on j that no other wrong position is on shows what is wrong there
  shown : (f : ℕ → ℕ) (j : ℕ) → j < word_length s → rest s f v j < s.n → (t : ℕ) × (t < s.n) × (on_check s f j t ≡ f j ⊕ at v j)
  shown f j lj few =
      let (t, lt, free) = private_check s law (wrong f v) j lj few in (
        t,
        lt,
        silent_hidden s f (at v) c.checks t (line_of s t j) lt (line_lt s law t j lt lj)
            ∙ private_value s (wrong f v) (λ i. f i ⊕ at v i) j t lj (λ i li h. eqb-true _ 0 (not-false _ h)) free,
      )

  pub codeword_reached : (k : ℕ) → k < s.n → (f : ℕ → ℕ) → wrongs s f v ≤ k → reaches s k f ≡ true
  unfolding reaches
  codeword_reached zero lk f few =
      test_cong s f (at v)
      (λ j lj.
      right f v j
      (⊎_elim (λ (t : wrong f v j ≡ true). absurd (omega (arith, count_others (word_length s) (wrong f v) j lj t))) (λ (g : wrong f v j ≡ false). g)
      (either (wrong f v j))))
      ∙ silent_test_lem s (at v) c.checks
  codeword_reached (suc k) lk f few =
      ⊎_elim
      (λ (some : any (word_length s) (wrong f v) ≡ true).
      let (j, lj, h) = any_elim (word_length s) (wrong f v) some in
      let (t, lt, e) = shown f j lj (omega (arith, count_others (word_length s) (wrong f v) j lj h)) in
      or_last (reaches s k f)
      (any_intro (word_length s) (λ j. any s.n (λ t. reaches s k (off f j (on_check s f j t)))) j lj
      (any_intro s.n (λ t. reaches s k (off f j (on_check s f j t))) t lt
      (rw e (codeword_reached k (omega arith) (off f j (f j ⊕ at v j)) (omega (arith, one_fewer s f v j lj h)))))))
      (λ (none : any (word_length s) (wrong f v) ≡ false).
      rw (codeword_reached k (omega arith) f (omega (arith, count_none (word_length s) (wrong f v) (any_no (word_length s) (wrong f v) none)))))
      (either (any (word_length s) (wrong f v)))

-- ---- the word and the codeword near it
-- this check of j passes
abbrev passes : Shape → (ℕ → ℕ) → ℕ → ℕ → Bool
passes s f j t = not (eqb (on_check s f j t) 0) && reaches s (steps s f - 1) (off f j (on_check s f j t))

-- the change is what a check shows that passes, or 0 and none does
pub change_cases : (s : Shape) (f : ℕ → ℕ) (j : ℕ)
    → ((t : ℕ) × (t < s.n) × (passes s f j t ≡ true) × (nearest_at s f j ≡ on_check s f j t))
    ⊎ (((t : ℕ) → t < s.n → passes s f j t ≡ false) × (nearest_at s f j ≡ 0))
unfolding nearest_at
change_cases s f j =
    ⊎_elim
    (λ (some : any s.n (passes s f j) ≡ true).
    let (t, lt, h) = any_elim s.n (passes s f j) some in
    inl (first_some s.n (passes s f j) (on_check s f j) t lt h))
    (λ (none : any s.n (passes s f j) ≡ false).
    let fails = any_no s.n (passes s f j) none in
    inr (fails, first_none s.n (passes s f j) (on_check s f j) fails))
    (either (any s.n (passes s f j)))

module _ (s : Shape) (law : Lawful s) (w v : List ℕ) (k : ℕ) (near : Near s (nearest.bound s) w v k) where
  size : wrongs s (at w) v ≡ k
  size = error_size s w v ∙ near.changed

  -- no other codeword is that near
  same : (u : List ℕ) → Codeword s u → wrongs s (at w) u < s.n → (u ≡ v) × (wrongs s (at w) u ≡ k)
  same u c few =
      near_unique s law (nearest.bound s) (omega (arith, (bounds s law).n2)) w u v (wrongs s (at w) u) k
      (record { word = near.word; codeword = c; changed = sym (error_size s w u); few = omega arith }) near

  pub steps_right : steps s (at w) ≡ k
  unfolding steps
  steps_right =
      lowest_is s.n (λ i. not (reaches s i (at w))) k (record {
        upto = omega (arith, near.few);
        below = λ i l.
            not_of_false
            (⊎_elim
            (λ (h : reaches s i (at w) ≡ true).
            let (u, c, few) = reached_codeword s i (at w) near.word.width h in
            absurd (omega (arith, (same u c (omega (arith, near.few))).1)))
            (λ (h : reaches s i (at w) ≡ false). h)
            (either (reaches s i (at w))));
        fails = λ l. not_of_true (codeword_reached s law v near.codeword k l (at w) (omega (arith, size)));
      })

  -- where the word differs, some check passes
  pass_exists : (j : ℕ) → j < word_length s → support w v j ≡ true → (t : ℕ) × (t < s.n) × (passes s (at w) j t ≡ true)
  pass_exists j lj h =
      let one = count_others (word_length s) (support w v) j lj h in
      let (t, lt, e) = shown s law v near.codeword (at w) j lj (omega (arith, size, near.few)) in (
        t,
        lt,
        rw (e, steps_right)
            (and_both h
            (codeword_reached s law v near.codeword (k - 1) (omega (arith, near.few, (bounds s law).n2)) (off (at w) j (error_of w v j))
            (omega (arith, one_fewer s (at w) v j lj h, size)))),
      )

  -- whatever passes is the difference: with it and k - 1 more taken off the word is a codeword within n - 1 symbols, so the one, and j is right then
  pass_exact : (j t : ℕ) → j < word_length s → passes s (at w) j t ≡ true → on_check s (at w) j t ≡ error_of w v j
  pass_exact j t lj h =
      let x : ℕ = on_check s (at w) j t in
      let lx : x < 2 ^ s.b = syndrome_width s (at w) s.b t (line_of s t j) (λ i l. near.word.width i) in
      let (u, c, few) =
      reached_codeword s (k - 1) (off (at w) j x) (λ i. off_narrow s.b (at w) j x i (near.word.width i) lx) (rw steps_right at (and_right (not (eqb x 0)) _ h)) in
      let (one, _) = same u c (omega (arith, one_more s (at w) u j x lj, near.few, (bounds s law).n2)) in
      let less : wrongs s (off (at w) j x) v ≤ k - 1 = subst (λ (z : List ℕ). wrongs s (off (at w) j x) z ≤ k - 1) one few in
      ⊎_elim
      (λ (bad : wrong (off (at w) j x) v j ≡ true). let (a, b) = no_fewer s (at w) v j x lj bad in absurd (omega (arith, size)))
      (λ (good : wrong (off (at w) j x) v j ≡ false).
      sym (twice (at w j) x) ∙ ap (λ (y : ℕ). at w j ⊕ y) (sym (off_here (at w) j x) ∙ right (off (at w) j x) v j good))
      (either (wrong (off (at w) j x) v j))

  -- so the change is the difference
  pub change_right : (j : ℕ) → j < word_length s → nearest_at s (at w) j ≡ error_of w v j
  change_right j lj =
      ⊎_elim
      (λ (found : (t : ℕ) × (t < s.n) × (passes s (at w) j t ≡ true) × (nearest_at s (at w) j ≡ on_check s (at w) j t)).
      let (t, lt, h, e) = found in
      e ∙ pass_exact j t lj h)
      (λ (none : ((t : ℕ) → t < s.n → passes s (at w) j t ≡ false) × (nearest_at s (at w) j ≡ 0)).
      let (fails, e) = none in
      e
      ∙ sym
      (outside w v j
      (⊎_elim (λ (d : support w v j ≡ true). let (t, lt, h) = pass_exists j lj d in absurd (clash h (fails t lt)))
      (λ (d : support w v j ≡ false). d) (either (support w v j)))))
      (change_cases s (at w) j)
