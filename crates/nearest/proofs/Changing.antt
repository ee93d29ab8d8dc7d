-- One symbol of a word changes: what the table shows then, what the list of corrections gets, and how many symbols differ from a codeword.
use mathlib.Core.Path.{◌≡◌, refl, sym, ap, ap₂, ◌∙◌, subst}
use mathlib.Core.Bool.{not}
use mathlib.Core.List.{List}
use Prim.Native.Nat.{ℕ, suc, ◌+◌, ◌-◌, ◌*◌, ◌^◌, ◌<◌, ◌≤◌}
use native.Mathlib.Nat.{ne_of_lt}
use native.Mathlib.Omega.{arith}
use lib.Dec.{eqb}
use lib.ListN.{length, set}
use lib.Seq.{get_or-set_same, get_or-set_other}
use borrow.Author.Tests.{ne_eqb}
use Rattle.parity.specs.Xor.{◌⊕◌, when}
use Rattle.parity.proofs.Xors.{assoc, comm, zero_r, lt_pow, when_xor, when_lt, when_zero}
use Rattle.parity.proofs.XorSums.{xs_zero, none, cong, linear, more}
use Rattle.parity.proofs.Tests.{not_of_false}
use Rattle.parity.proofs.Sums.{count_cong}
use Rattle.parity.proofs.Lists.{is_tabulate, tabulate_cong}
use Rattle.gtb.specs.declared.Shape.{Shape}
use Rattle.gtb.specs.Shape.{Lawful, word_length}
use Rattle.gtb.specs.Square.{line_of, at, syndrome, Word, Syndromes}
use Rattle.gtb.proofs.Rows.{syndrome_cong, syndrome_linear}
use Rattle.distance.specs.Distance.{differences, Near}
use Rattle.correction.specs.Error.{check_of, mended, off}
use Rattle.correction.specs.Steps.{Lists, Toggled}
use Rattle.correction.proofs.Errors.{mended_at, mended_word}
use Rattle.correction.proofs.Near.{error_of, error_size}
use Rattle.correction.proofs.Silence.{one_check}
use Rattle.double.proofs.Pairs.{one_place}
use Rattle.nearest.specs.Steps.{Restores}
use Rattle.nearest.proofs.Equation.{wrongs, one_more, one_fewer}

-- ---- the list
pub lists_none : (s : Shape) (places errors : List ℕ) → Lists s (λ i. 0) 0 places errors
lists_none s places errors = record { sums = λ g. none (word_length s) _ (λ i l. when_zero (g i)) ∙ sym (xs_zero (λ y. when (g (at places y)) (at errors y))) }

-- one entry more
lists_more : {s : Shape} {error : ℕ → ℕ} {k : ℕ} {places errors : List ℕ} (j x : ℕ) → j < word_length s → k < length places → k < length errors
    → Lists s error k places errors → Lists s (λ i. error i ⊕ when (eqb i j) x) (k + 1) (set places k j) (set errors k x)
lists_more {s} {error} {k} {places} {errors} j x lj lp le l = record {
  sums = λ g.
      cong (word_length s) _ _ (λ i li. when_xor (g i) (error i) (when (eqb i j) x))
      ∙ linear (word_length s) (λ i. when (g i) (error i)) (λ i. when (g i) (when (eqb i j) x))
      ∙ ap₂ (λ (a b : ℕ). a ⊕ b)
      (l.sums g
      ∙ cong k (λ y. when (g (at places y)) (at errors y)) (λ y. when (g (at (set places k j) y)) (at (set errors k x) y))
      (λ y ly.
      ap₂ (λ (a b : ℕ). when (g a) b) (sym (get_or-set_other places k y j 0 (ne_of_lt ly))) (sym (get_or-set_other errors k y x 0 (ne_of_lt ly)))))
      (one_place (word_length s) j x g lj ∙ ap₂ (λ (a b : ℕ). when (g a) b) (sym (get_or-set_same places k j 0 lp)) (sym (get_or-set_same errors k x 0 le)))
      ∙ more k (λ y. when (g (at (set places k j) y)) (at (set errors k x) y)) refl;
}

-- ---- the word with x XORed onto position j
abbrev pub changed : Shape → List ℕ → ℕ → ℕ → List ℕ
changed s w j x = mended s w (λ i. when (eqb i j) x)

pub changed_word : {s : Shape} {w : List ℕ} (j : ℕ) {x : ℕ} → Word s w → x < 2 ^ s.b → Word s (changed s w j x)
changed_word {s} {w} j {x} hw lx = mended_word s w _ hw (λ i li. when_lt s.b (eqb i j) x lx)

-- its syndromes
pub changed_syndromes : {s : Shape} {w syn new : List ℕ} {j x : ℕ} → Lawful s → j < word_length s → Syndromes s w syn → Toggled s.n (check_of s j) (λ t. x) syn new
    → Syndromes s (changed s w j x) new
unfolding syndrome
changed_syndromes {s} {w} {syn} {new} {j} {x} law lj y g = record {
  size = g.size ∙ y.size;
  entry = λ t L lt lL.
      g.entry (t * s.q + L)
      ∙ ap₂ (λ (a b : ℕ). a ⊕ b) (y.entry t L lt lL) (one_check s law j x t L lj lt lL ∙ sym (one_place (word_length s) j x (λ i. eqb (line_of s t i) L) lj))
      ∙ sym
      (syndrome_cong s (at (changed s w j x)) (λ i. at w i ⊕ when (eqb i j) x) t L (mended_at s w (λ i. when (eqb i j) x))
      ∙ syndrome_linear s (at w) (λ i. when (eqb i j) x) t L);
}

-- what mends it, and x at j, mend the word
changed_mended : (s : Shape) (w : List ℕ) (j x : ℕ) (error : ℕ → ℕ) → mended s (changed s w j x) error ≡ mended s w (λ i. error i ⊕ when (eqb i j) x)
unfolding mended
changed_mended s w j x error =
    tabulate_cong (word_length s) _ _
    (λ i l.
    ap (λ (y : ℕ). y ⊕ error i) (mended_at s w (λ i. when (eqb i j) x) i l)
    ∙ assoc (at w i) (when (eqb i j) x) (error i)
    ∙ ap (λ (y : ℕ). at w i ⊕ y) (comm (when (eqb i j) x) (error i)))

-- ---- how many symbols differ
module _ (s : Shape) (w : List ℕ) (j x : ℕ) (lj : j < word_length s) where
  changed_wrongs : (v : List ℕ) → differences s v (changed s w j x) ≡ wrongs s (off (at w) j x) v
  unfolding off
  changed_wrongs v =
      sym (error_size s (changed s w j x) v)
      ∙ count_cong (word_length s) _ _ (λ i l. ap (λ (y : ℕ). not (eqb (y ⊕ at v i) 0)) (mended_at s w (λ i. when (eqb i j) x) i l))

  -- one more at most
  near_more : {k c : ℕ} {v : List ℕ} → Word s w → Near s k (changed s w j x) v c → Near s (k + 1) w v (differences s v w)
  near_more {k} {c} {v} hw near = record {
    word = hw;
    codeword = near.codeword;
    changed = refl;
    few =
        let all : wrongs s (at w) v ≡ differences s v w = error_size s w v in
        omega (arith, one_more s (at w) v j x lj, changed_wrongs v, near.changed, near.few);
  }

  -- one fewer, if x is what is wrong there
  pub near_less : {k c : ℕ} {v : List ℕ} → Near s k w v c → error_of w v j ≡ x → (x ≡ 0 → ⊥) → Near s (k - 1) (changed s w j x) v (differences s v (changed s w j x))
  near_less {k} {c} {v} near e nz = record {
    word = changed_word j near.word (subst (λ (y : ℕ). y < 2 ^ s.b) e (lt_pow s.b _ _ (near.word.width j) (near.codeword.word.width j)));
    codeword = near.codeword;
    changed = refl;
    few =
        let all : wrongs s (at w) v ≡ differences s v w = error_size s w v in
        let fewer = subst (λ (y : ℕ). suc (wrongs s (off (at w) j y) v) ≤ wrongs s (at w) v) e
        (one_fewer s (at w) v j lj (not_of_false (ne_eqb (error_of w v j) 0 (λ z. nz (sym e ∙ z))))) in
        omega (arith, changed_wrongs v, near.changed, near.few);
  }

-- what restores the changed word restores the word with one entry more
pub restores_more : {s : Shape} {w places errors : List ℕ} {k : ℕ} (j x : ℕ) → Word s w → j < word_length s → k < length places → k < length errors
    → Restores s (changed s w j x) k places errors → Restores s w (k + 1) (set places k j) (set errors k x)
restores_more {s} {w} {places} {errors} {k} j x hw lj lp le a =
    let v : List ℕ = mended s w (λ i. a.error i ⊕ when (eqb i j) x) in
    record {
      error = λ i. a.error i ⊕ when (eqb i j) x;
      listed = lists_more j x lj lp le a.listed;
      changed = differences s v w;
      near = near_more s w j x lj hw (subst (λ (u : List ℕ). Near s k (changed s w j x) u a.changed) (changed_mended s w j x a.error) a.near);
    }

-- no change
pub mended_none : {s : Shape} {w : List ℕ} → Word s w → mended s w (λ i. 0) ≡ w
unfolding mended
mended_none {s} {w} hw = sym (is_tabulate (word_length s) (λ i. at w i ⊕ 0) w hw.size (λ i l. sym (zero_r (at w i))))
