-- Changes at listed places: their XORs, and the word that they make of the one that came.
use mathlib.Core.Path.{◌≡◌, refl, sym, ap, ◌∙◌}
use mathlib.Core.Bool.{Bool, true, false, not, ◌&&◌}
use mathlib.Core.List.{List}
use mathlib.Core.Logic.{⊎_elim}
use Prim.Native.Nat.{ℕ, ◌^◌, ◌<◌}
use lib.Dec.{eqb}
use lib.ListN.{length}
use borrow.Author.Tests.{eqb-true, eq-eqb, ne_eqb}
use Rattle.parity.specs.Xor.{◌⊕◌, xor_sum, when}
use Rattle.parity.specs.Count.{bit, count, any}
use Rattle.parity.proofs.Tests.{either, clash, same, and_left, and_right, and_both, and_no_right, any_elim, any_intro, any_no}
use Rattle.parity.proofs.Xors.{xors, zero_r, when_zero, when_lt}
use Rattle.parity.proofs.XorSums.{cong, none, exchange, only, bound}
use Rattle.parity.proofs.Sums.{sum_cong, count_cong, count_none, bit_true, bit_false}
use Rattle.parity.proofs.Only.{only_sum, only_count}
use Rattle.parity.proofs.Lists.{is_tabulate, tabulate_cong}
use Rattle.elimination.specs.System.{row_sum}
use Rattle.gtb.specs.declared.Shape.{Shape}
use Rattle.gtb.specs.Shape.{word_length}
use Rattle.gtb.specs.Square.{line_of, at, syndrome, Word, Silent}
use Rattle.gtb.proofs.Rows.{syndrome_cong, syndrome_linear}
use Rattle.gtb.proofs.Crossing.{eqb_xor}
use Rattle.distance.specs.Distance.{differences}
use Rattle.correction.specs.Error.{mended}
use Rattle.correction.specs.Steps.{Toggled}
use Rattle.correction.proofs.Errors.{mended_at, mended_word}
use Rattle.erasure.specs.Fill.{is_listed, Agrees}
use Rattle.erasure.specs.Steps.{Places}
use Rattle.erasure.proofs.Lists.{disjoint_count, place_only}

-- the change at position j, where x k is that at place k
unfoldable pub spread : List ℕ → (ℕ → ℕ) → ℕ → ℕ
spread places x j = xor_sum (length places) (λ k. when (eqb (at places k) j) (x k))

spread_cong : (places : List ℕ) (x y : ℕ → ℕ) → ((k : ℕ) → k < length places → x k ≡ y k) → (j : ℕ) → spread places x j ≡ spread places y j
unfolding spread
spread_cong places x y h j = cong _ _ _ (λ k l. ap (when (eqb (at places k) j)) (h k l))

-- a position that is not listed does not change
spread_off : (places : List ℕ) (x : ℕ → ℕ) (j : ℕ) → is_listed places j ≡ false → spread places x j ≡ 0
unfolding spread is_listed when
spread_off places x j h = none _ _ (λ k l. ap (λ (b : Bool). when b (x k)) (any_no _ _ h k l))

spread_lt : (places : List ℕ) (x : ℕ → ℕ) (b j : ℕ) → ((k : ℕ) → k < length places → x k < 2 ^ b) → spread places x j < 2 ^ b
unfolding spread
spread_lt places x b j h = bound b _ _ (λ k l. when_lt b (eqb (at places k) j) (x k) (h k l))

-- a XOR under a test
when_sum : (g : Bool) (n : ℕ) (f : ℕ → ℕ) → when g (xor_sum n f) ≡ xor_sum n (λ k. when g (f k))
unfolding when
when_sum true n f = refl
when_sum false n f = sym (none n (λ k. 0) (λ k l. refl))

module _ {size : ℕ} {places : List ℕ} (h : Places size places) (x : ℕ → ℕ) where
  spread_at : (k : ℕ) → k < length places → spread places x (at places k) ≡ x k
  unfolding spread
  spread_at k l = only_sum _ _ k (place_only h k l) x

  spread_here : (k j : ℕ) → k < length places → eqb (at places k) j ≡ true → spread places x j ≡ x k
  spread_here k j l e = ap (spread places x) (sym (eqb-true (at places k) j e)) ∙ spread_at k l

  -- to XOR over the word or over the list is the same
  one_place : (g : ℕ → Bool) (k : ℕ) → k < length places
      → xor_sum size (λ j. when (g j) (when (eqb (at places k) j) (x k))) ≡ when (g (at places k)) (x k)
  unfolding when
  one_place g k l =
      only size (at places k) (λ j. when (g j) (when (eqb (at places k) j) (x k))) (h.below k l)
      (λ j lj ne. ap (λ (b : Bool). when (g j) (when b (x k))) (ne_eqb (at places k) j (λ e. ne (sym e))) ∙ when_zero (g j))
      ∙ ap (λ (b : Bool). when (g (at places k)) (when b (x k))) (eq-eqb (at places k) (at places k) refl)

  spread_sum : (g : ℕ → Bool) → xor_sum size (λ j. when (g j) (spread places x j)) ≡ xor_sum (length places) (λ k. when (g (at places k)) (x k))
  unfolding spread
  spread_sum g =
      cong _ _ _ (λ j l. when_sum (g j) (length places) (λ k. when (eqb (at places k) j) (x k)))
      ∙ exchange size (length places) (λ j k. when (g j) (when (eqb (at places k) j) (x k)))
      ∙ cong _ _ _ (one_place g)

  -- and so is to count
  abbrev changes_at : ℕ → ℕ → Bool
  changes_at k j = eqb (at places k) j && not (eqb (x k) 0)

  changed_any : (j : ℕ) → not (eqb (spread places x j) 0) ≡ any (length places) (λ k. changes_at k j)
  unfolding is_listed
  changed_any j =
      same
      (λ t.
      ⊎_elim
      (λ (y : is_listed places j ≡ true).
      let (k, l, e) = any_elim (length places) (λ k. eqb (at places k) j) y in
      any_intro (length places) (λ k. changes_at k j) k l (and_both e (ap (λ (v : ℕ). not (eqb v 0)) (sym (spread_here k j l e)) ∙ t)))
      (λ (n : is_listed places j ≡ false). absurd (clash t (ap (λ (v : ℕ). not (eqb v 0)) (spread_off places x j n))))
      (either (is_listed places j)))
      (λ t.
      let (k, l, e) = any_elim (length places) (λ k. changes_at k j) t in
      ap (λ (v : ℕ). not (eqb v 0)) (spread_here k j l (and_left _ _ e)) ∙ and_right (eqb (at places k) j) _ e)

  one_changed : (k : ℕ) → k < length places → count size (changes_at k) ≡ bit (not (eqb (x k) 0))
  one_changed k l =
      ⊎_elim
      (λ (t : not (eqb (x k) 0) ≡ true).
      only_count size (changes_at k) (at places k)
      (record {
        below = h.below k l;
        passes = and_both (eq-eqb (at places k) (at places k) refl) t;
        alone = λ j lj e. sym (eqb-true (at places k) j (and_left _ _ e));
      })
      ∙ sym (bit_true t))
      (λ (f : not (eqb (x k) 0) ≡ false). count_none size (changes_at k) (λ j lj. and_no_right (eqb (at places k) j) f) ∙ sym (bit_false f))
      (either (not (eqb (x k) 0)))

  spread_count : count size (λ j. not (eqb (spread places x j) 0)) ≡ count (length places) (λ k. not (eqb (x k) 0))
  unfolding count
  spread_count =
      count_cong size _ _ (λ j l. changed_any j)
      ∙ disjoint_count size (length places) changes_at
      (λ j i k li lk ei ek. h.once i k li lk (eqb-true _ j (and_left _ _ ei) ∙ sym (eqb-true _ j (and_left _ _ ek))))
      ∙ sum_cong (length places) _ _ one_changed

-- ---- the word that the changes make
module _ (s : Shape) {places : List ℕ} (h : Places (word_length s) places) (w : List ℕ) where
  -- its check values
  pub changed_syndrome : (x : ℕ → ℕ) (t L : ℕ)
      → syndrome s (at (mended s w (spread places x))) t L ≡ syndrome s (at w) t L ⊕ row_sum (length places) (λ k. eqb (line_of s t (at places k)) L) x
  unfolding syndrome row_sum
  changed_syndrome x t L =
      syndrome_cong s (at (mended s w (spread places x))) (λ j. at w j ⊕ spread places x j) t L (mended_at s w (spread places x))
      ∙ syndrome_linear s (at w) (spread places x) t L
      ∙ ap (λ (y : ℕ). syndrome s (at w) t L ⊕ y) (spread_sum h x (λ j. eqb (line_of s t j) L))

  pub changed_at : (x : ℕ → ℕ) (k : ℕ) → k < length places → at (mended s w (spread places x)) (at places k) ≡ at w (at places k) ⊕ x k
  changed_at x k l = mended_at s w (spread places x) (at places k) (h.below k l) ∙ ap (λ (y : ℕ). at w (at places k) ⊕ y) (spread_at h x k l)

  -- a word that differs at the places alone is made by the changes there
  pub changed_back : (v : List ℕ) → length v ≡ word_length s → ((j : ℕ) → j < word_length s → is_listed places j ≡ false → at v j ≡ at w j)
      → v ≡ mended s w (spread places (λ k. at v (at places k) ⊕ at w (at places k)))
  unfolding mended is_listed
  changed_back v size off =
      let x : ℕ → ℕ = λ k. at v (at places k) ⊕ at w (at places k) in
      is_tabulate (word_length s) _ v size
      (λ j l.
      ⊎_elim
      (λ (y : is_listed places j ≡ true).
      let (k, lk, e) = any_elim (length places) (λ k. eqb (at places k) j) y in
      let here : at places k ≡ j = eqb-true (at places k) j e in
      sym
      (ap (λ (y : ℕ). at w j ⊕ y) (spread_here h x k j lk e ∙ ap (λ (i : ℕ). at v i ⊕ at w i) here)
      ∙ back (at v j) (at w j)))
      (λ (n : is_listed places j ≡ false).
      off j l n ∙ sym (ap (λ (y : ℕ). at w j ⊕ y) (spread_off places x j n) ∙ zero_r (at w j)))
      (either (is_listed places j)))
    where
      back : (a b : ℕ) → b ⊕ (a ⊕ b) ≡ a
      back a b = simp xors

  -- it is the word where a step leaves the changes XORed on
  pub toggled_changed : {w' : List ℕ} (x : ℕ → ℕ) → length w ≡ word_length s → Toggled (length places) (at places) x w w' → w' ≡ mended s w (spread places x)
  unfolding mended spread
  toggled_changed {w'} x size t = is_tabulate (word_length s) _ w' (t.size ∙ size) (λ j l. t.entry j)

  -- as many symbols differ as changes are not zero
  pub changed_count : (x : ℕ → ℕ) → differences s (mended s w (spread places x)) w ≡ count (length places) (λ k. not (eqb (x k) 0))
  unfolding differences
  changed_count x =
      count_cong (word_length s) _ _
      (λ j l.
      ap not
      (sym (eqb_xor (at (mended s w (spread places x)) j) (at w j))
      ∙ ap (λ (y : ℕ). eqb y 0) (ap (λ (y : ℕ). y ⊕ at w j) (mended_at s w (spread places x) j l) ∙ forth (at w j) (spread places x j))))
      ∙ spread_count h x
    where
      forth : (a b : ℕ) → a ⊕ b ⊕ a ≡ b
      forth a b = simp xors

  -- silent and narrow it agrees
  pub changed_agrees : (x : ℕ → ℕ) → Word s w → ((k : ℕ) → k < length places → x k < 2 ^ s.b) → Silent s (at (mended s w (spread places x)))
      → Agrees s w places (mended s w (spread places x))
  changed_agrees x hw small quiet = record {
    codeword = record {
      word = mended_word s w (spread places x) hw (λ j l. spread_lt places x s.b j small);
      checks = quiet;
    };
    same = λ j l n. mended_at s w (spread places x) j l ∙ ap (λ (y : ℕ). at w j ⊕ y) (spread_off places x j n) ∙ zero_r (at w j);
  }

pub changed_cong : (s : Shape) (places w : List ℕ) (x y : ℕ → ℕ) → ((k : ℕ) → k < length places → x k ≡ y k)
    → mended s w (spread places x) ≡ mended s w (spread places y)
unfolding mended
changed_cong s places w x y h = tabulate_cong (word_length s) _ _ (λ j l. ap (λ (v : ℕ). at w j ⊕ v) (spread_cong places x y h j))
