-- The solutions of the system are the changes that make the word a codeword.
use mathlib.Core.Path.{◌≡◌, refl, sym, ap, ap₂, ◌∙◌, subst}
use mathlib.Core.Bool.{Bool}
use mathlib.Core.List.{List}
use Prim.Native.Nat.{ℕ, ◌^◌, ◌<◌}
use native.Mathlib.Nat.{lt_of_lt_of_le}
use native.Mathlib.Omega.{arith}
use lib.Dec.{eqb}
use lib.ListN.{length}
use lib.Pow.{pow_mono}
use Rattle.parity.specs.Xor.{◌⊕◌, when}
use Rattle.parity.proofs.Xors.{self, twice, lt_pow, eq_of_zero}
use Rattle.elimination.specs.declared.Outcome.{Outcome}
use Rattle.elimination.specs.System.{row_sum, Solves, Below, Impossible, Unique, Several}
use Rattle.elimination.specs.Packed.{cell_of}
use Rattle.elimination.specs.Outcome.{Eliminated}
use Rattle.elimination.proofs.Sums.{row_cong}
use Rattle.gtb.specs.declared.Shape.{Shape}
use Rattle.gtb.specs.declared.Refusal.{Refusal}
use Rattle.gtb.specs.Shape.{Lawful, word_length, kept_checks}
use Rattle.gtb.specs.Square.{line_of, at, syndrome, Word, Silent}
use Rattle.gtb.specs.Kept.{kept_direction, kept_line}
use Rattle.gtb.proofs.Bounds.{bounds}
use Rattle.gtb.proofs.Sizes.{sizes}
use Rattle.gtb.proofs.Rows.{syndrome_width}
use Rattle.gtb.proofs.Kept.{kept_rows, kept_silent}
use Rattle.distance.specs.Distance.{differences}
use Rattle.std.specs.Prelude.{Ok, Err}
use Rattle.correction.specs.Error.{mended}
use Rattle.erasure.specs.Fill.{Agrees, FilledIn, NoWord, SeveralWords}
use Rattle.erasure.specs.Steps.{Places, on_kept, Posed, Applied, Solution}
use Rattle.erasure.proofs.Changes.{spread, changed_syndrome, changed_at, changed_back, toggled_changed, changed_count, changed_agrees, changed_cong}

-- a value XORed on that changes nothing is zero
no_change : (a b c : ℕ) → a ⊕ b ≡ a ⊕ (b ⊕ c) → 0 ≡ c
no_change a b c e = sym (self b) ∙ ap (λ (y : ℕ). b ⊕ y) (sym (twice a b) ∙ ap (λ (y : ℕ). a ⊕ y) e ∙ twice a (b ⊕ c)) ∙ twice b c

module _ (s : Shape) (law : Lawful s) (w places : List ℕ) (S : ℕ) (scratch values : List ℕ) (hw : Word s w) (h : Places (word_length s) places)
    (posed : Posed s w places S scratch values) where
  -- the word with the changes x
  abbrev made : (ℕ → ℕ) → List ℕ
  made x = mended s w (spread places x)

  abbrev Solved : (ℕ → ℕ) → Type 0
  Solved x = Solves (length places) (kept_checks s) (cell_of S scratch) (at values) x

  -- kept check i of that word
  kept_value : (x : ℕ → ℕ) (i : ℕ) → i < kept_checks s
      → syndrome s (at (made x)) (kept_direction s i) (kept_line s i) ≡ at values i ⊕ row_sum (length places) (cell_of S scratch i) x
  unfolding on_kept
  kept_value x i l =
      changed_syndrome s h w x (kept_direction s i) (kept_line s i)
      ∙ ap₂ (λ (a b : ℕ). a ⊕ b) (sym (posed.value i l))
      (row_cong (length places) (λ k. eqb (line_of s (kept_direction s i) (at places k)) (kept_line s i)) (cell_of S scratch i) x x
      (λ k lk. ap (λ (b : Bool). when b (x k)) (sym (posed.cell i k l lk))))

  solved_silent : (x : ℕ → ℕ) → Solved x → Silent s (at (made x))
  solved_silent x sol =
      kept_silent s law (at (made x))
      (record {
        silent = λ t L lt l e.
            let (i, li, et, eL) = (kept_rows s law).found t L lt l e in
            sym (ap₂ (syndrome s (at (made x))) et eL) ∙ kept_value x i li ∙ ap (λ (y : ℕ). at values i ⊕ y) (sol.row i li) ∙ self (at values i);
      })

  silent_solved : (x : ℕ → ℕ) → Silent s (at (made x)) → Solved x
  silent_solved x quiet = record {
    row = λ i l.
        let (lt, lL, e) = (kept_rows s law).kept i l in
        sym
        (eq_of_zero (at values i) (row_sum (length places) (cell_of S scratch i) x)
        (sym (kept_value x i l) ∙ quiet.silent (kept_direction s i) (kept_line s i) lt lL));
  }

  -- a word that agrees is made by a solution
  changes_of : List ℕ → ℕ → ℕ
  changes_of v k = at v (at places k) ⊕ at w (at places k)

  agreeing : (v : List ℕ) → Agrees s w places v → v ≡ made (changes_of v)
  unfolding changes_of
  agreeing v a = changed_back s h w v a.codeword.word.size a.same

  agreeing_solved : (v : List ℕ) → Agrees s w places v → Solved (changes_of v)
  agreeing_solved v a = silent_solved (changes_of v) (subst (λ (u : List ℕ). Silent s (at u)) (agreeing v a) a.codeword.checks)

  values_narrow : Below s.b (kept_checks s) (at values)
  values_narrow = record {
    below = λ i l.
        subst (λ (y : ℕ). y < 2 ^ s.b) (sym (posed.value i l))
        (syndrome_width s (at w) s.b (kept_direction s i) (kept_line s i) (λ j lj. hw.width j));
  }

  solved_agrees : (x : ℕ → ℕ) → Solved x → ((k : ℕ) → k < length places → x k < 2 ^ s.b) → Agrees s w places (made x)
  solved_agrees x sol small = changed_agrees s h w x hw small (solved_silent x sol)

  -- one solution
  one_word : {changes : List ℕ} → Unique (length places) (kept_checks s) (cell_of S scratch) (at values) (at changes) → (w' : List ℕ) (r : ℕ)
      → Applied places changes (length places) w w' r → FilledIn s w places w' (Ok r)
  one_word {changes} u w' r a =
      let e : w' ≡ made (at changes) = toggled_changed s h w (at changes) hw.size a.word in
      let changed : r ≡ differences s w' w = a.changed ∙ sym (ap (λ (v : List ℕ). differences s v w) e ∙ changed_count s h w (at changes)) in
      record {
        agrees = subst (Agrees s w places) (sym e) (solved_agrees (at changes) u.solves (u.narrow s.b values_narrow).below);
        only = λ v av.
            agreeing v av ∙ changed_cong s places w (changes_of v) (at changes) (u.only (changes_of v) (agreeing_solved v av)) ∙ sym e;
        answer = ap Ok changed;
        number = changed;
      }

  -- none
  no_word : Impossible (length places) (kept_checks s) (cell_of S scratch) (at values) → NoWord s w places w (Err Refusal.Unfillable)
  no_word u = record { none = λ v a. u.none (changes_of v) (agreeing_solved v a); answer = refl; number = refl; left = refl }

  -- several
  several_words : Several (length places) (kept_checks s) (cell_of S scratch) (at values) → SeveralWords s w places w (Err Refusal.Ambiguous)
  several_words u = record {
    one = made u.one;
    another = made (λ k. u.one k ⊕ u.change k);
    agrees = solved_agrees u.one u.solves narrow;
    agrees_too = solved_agrees (λ k. u.one k ⊕ u.change k) u.other (λ k l. lt_pow s.b (u.one k) (u.change k) (narrow k l) (small k l));
    different = differ;
    answer = refl;
    number = refl;
    left = refl;
  }
    where
      narrow : (k : ℕ) → k < length places → u.one k < 2 ^ s.b
      narrow = (u.narrow s.b values_narrow).below

      small : (k : ℕ) → k < length places → u.change k < 2 ^ s.b
      small k l = lt_of_lt_of_le (u.small.below k l) (pow_mono (bounds s law).b1)

      differ : made u.one ≡ made (λ k. u.one k ⊕ u.change k) → ⊥
      differ e =
          let j = at places u.place in
          let same : at w j ⊕ u.one u.place ≡ at w j ⊕ (u.one u.place ⊕ u.change u.place) =
          sym (changed_at s h w u.one u.place u.inside) ∙ ap (λ (v : List ℕ). at v j) e
          ∙ changed_at s h w (λ k. u.one k ⊕ u.change k) u.place u.inside in
          let zero : 0 ≡ u.change u.place = no_change (at w j) (u.one u.place) (u.change u.place) same in
          omega (arith, u.differs)

  pub posed_solution : {answer : Outcome} {changes : List ℕ} → Eliminated (kept_checks s) S (length places) scratch values answer changes
      → Solution s w places answer changes
  posed_solution e = record {
    few = λ a. omega (arith, (e.solved a).fits, (sizes s law).kept);
    one = λ a. one_word (e.solved a);
    none = λ a. no_word (e.unsolvable a);
    several = λ a. several_words (e.ambiguous a);
  }
