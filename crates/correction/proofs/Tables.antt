-- A list of corrections: what it does to the table and to the word is what the error does that it lists.
use mathlib.Core.Path.{◌≡◌, refl, sym, ap, ap₂, ◌∙◌, subst}
use mathlib.Core.Bool.{Bool, true}
use mathlib.Core.List.{List}
use Prim.Native.Nat.{ℕ, ◌+◌, ◌*◌, ◌/◌, ◌%◌, ◌<◌}
use native.Mathlib.Nat.{mod-lt, div-lt_iff_lt-mul, div-add-mod'}
use lib.Arith.{digits_lt}
use lib.Dec.{eqb}
use lib.ListN.{length}
use borrow.Author.Tests.{eq-eqb, ne_eqb}
use Rattle.parity.specs.Xor.{◌⊕◌, xor_sum, when}
use Rattle.parity.specs.Count.{all}
use Rattle.parity.proofs.XorSums.{only}
use Rattle.parity.proofs.Tests.{same, all_elim, all_intro, all_cong}
use Rattle.parity.proofs.Lists.{is_tabulate}
use Rattle.gtb.specs.declared.Shape.{Shape}
use Rattle.gtb.specs.Shape.{Lawful, word_length}
use Rattle.gtb.specs.Square.{line_of, at, syndrome, silent_test, Word, Codeword, Syndromes}
use Rattle.gtb.proofs.Bounds.{positive}
use Rattle.gtb.proofs.Lines.{line_lt}
use Rattle.gtb.proofs.Rows.{syndrome_cong, syndrome_linear}
use Rattle.gtb.proofs.Words.{test_silent}
use Rattle.correction.specs.Error.{check_of, on_check, mended}
use Rattle.correction.specs.Steps.{quiet, Lists, Toggled, Cancelled}
use Rattle.correction.proofs.Errors.{mended_at}

-- a test of n × q places, by rows
all_rows : (n q : ℕ) (p : ℕ → Bool) → 0 < q → all (n * q) p ≡ all n (λ r. all q (λ c. p (r * q + c)))
all_rows n q p pos =
    same
    (λ h. all_intro n (λ r. all q (λ c. p (r * q + c))) (λ r lr. all_intro q (λ c. p (r * q + c)) (λ c lc. all_elim (n * q) p h (r * q + c) (digits_lt lr lc))))
    (λ h.
    all_intro (n * q) p
    (λ e le.
    subst (λ (x : ℕ). p x ≡ true) (div-add-mod' e q)
    (all_elim q (λ c. p (e / q * q + c)) (all_elim n (λ r. all q (λ c. p (r * q + c))) h (e / q) ((div-lt_iff_lt-mul pos).1 le)) (e % q) (mod-lt e pos))))

-- the table shows the check on a position
pub shown : (s : Shape) → Lawful s → (w syn : List ℕ) → Syndromes s w syn → (j t : ℕ) → j < word_length s → t < s.n
    → at syn (check_of s j t) ≡ on_check s (at w) j t
shown s h w syn y j t lj lt = y.entry t (line_of s t j) lt (line_lt s h t j lt lj)

-- and whether the word is silent
pub silent_shown : (s : Shape) → Lawful s → (w syn : List ℕ) → Syndromes s w syn → quiet s syn ≡ silent_test s (at w)
unfolding silent_test
silent_shown s h w syn y =
    all_rows s.n s.q (λ e. eqb (at syn e) 0) (positive s h)
    ∙ all_cong s.n _ _ (λ t lt. all_cong s.q _ _ (λ L lL. ap (λ (x : ℕ). eqb x 0) (y.entry t L lt lL)))

pub silent_codeword : {s : Shape} {w syn : List ℕ} → Lawful s → Word s w → Syndromes s w syn → quiet s syn ≡ true → Codeword s w
silent_codeword {s} {w} {syn} h hw y e = record { word = hw; checks = test_silent s (at w) (sym (silent_shown s h w syn y) ∙ e) }

module _ {s : Shape} {error : ℕ → ℕ} {k : ℕ} {places errors : List ℕ} (l : Lists s error k places errors) where
  -- the error at a position: what the list has there
  pub error_listed : (j : ℕ) → j < word_length s → error j ≡ xor_sum k (λ x. when (eqb (at places x) j) (at errors x))
  unfolding when
  error_listed j lj =
      sym
      (only (word_length s) j (λ i. when (eqb i j) (error i)) lj
      (λ i li ne. ap (λ (b : Bool). when b (error i)) (ne_eqb i j ne))
      ∙ ap (λ (b : Bool). when b (error j)) (eq-eqb j j refl))
      ∙ l.sums (λ i. eqb i j)

  -- XORed onto the word it mends it
  pub mends : {w w' : List ℕ} → length w ≡ word_length s → Toggled k (at places) (at errors) w w' → w' ≡ mended s w error
  unfolding mended
  mends {w} {w'} size g =
      is_tabulate (word_length s) _ w' (g.size ∙ size) (λ j lj. g.entry j ∙ ap (λ (x : ℕ). at w j ⊕ x) (sym (error_listed j lj)))

  -- the table after the corrections has the syndromes of the mended word
  mended_syndromes : {w syn new : List ℕ} → Syndromes s w syn → Cancelled s k places errors syn new → Syndromes s (mended s w error) new
  unfolding syndrome
  mended_syndromes {w} y c = record {
    size = c.size;
    entry = λ t L lt lL.
        c.entry t L lt lL
        ∙ ap₂ (λ (x z : ℕ). x ⊕ z) (y.entry t L lt lL) (sym (l.sums (λ j. eqb (line_of s t j) L)))
        ∙ sym (syndrome_cong s (at (mended s w error)) (λ j. at w j ⊕ error j) t L (mended_at s w error) ∙ syndrome_linear s (at w) error t L);
  }

  -- so it shows whether that word is silent
  pub silent_by : {w syn new : List ℕ} → Syndromes s w syn → Cancelled s k places errors syn new → Lawful s → silent_test s (at (mended s w error)) ≡ quiet s new
  silent_by {w} {syn} {new} y c h = sym (silent_shown s h (mended s w error) new (mended_syndromes y c))
