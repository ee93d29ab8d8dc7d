-- What reading means: it accepts exactly where a codeword and clean damage explain the word, and gives that codeword and the damage's weight.
use mathlib.Core.Path.{◌≡◌, refl, sym, ap, ◌∙◌}
use mathlib.Core.Bool.{true, false, not}
use mathlib.Core.List.{List}
use mathlib.Core.Logic.{⊎_elim}
use Prim.Native.Nat.{ℕ, ◌-◌, ◌^◌, ◌<◌}
use native.Mathlib.Omega.{arith}
use lib.Dec.{eqb}
use lib.ListN.{length}
use lib.Pow.{pow_pos}
use borrow.Author.Tests.{leb-true, eq-eqb, ne_eqb, eqb-false, not-true}
use Rattle.parity.specs.Xor.{◌⊕◌}
use Rattle.parity.specs.Count.{count}
use Rattle.parity.specs.Lists.{tabulate}
use Rattle.parity.proofs.Xors.{xors, self, lt_pow}
use Rattle.parity.proofs.Tests.{either, clash, and_left, not_of_true, not_of_false, all_elim}
use Rattle.parity.proofs.Sums.{count_cong}
use Rattle.parity.proofs.Lists.{at_tabulate, is_tabulate}
use Rattle.gtb.specs.declared.Shape.{Shape}
use Rattle.gtb.specs.declared.Refusal.{Refusal}
use Rattle.gtb.specs.Shape.{Lawful, word_length}
use Rattle.gtb.specs.Square.{line_of, at, Word, Codeword}
use Rattle.gtb.proofs.Bounds.{bounds}
use Rattle.gtb.proofs.Rows.{syndrome_cong, syndrome_width}
use Rattle.gtb.proofs.Words.{tabulate_word}
use Rattle.gtb.proofs.Answers.{Foreign}
use Rattle.distance.specs.Distance.{Near}
use Rattle.distance.proofs.Near.{near_self}
use Rattle.std.specs.Prelude.{Ok, Err}
use Rattle.correction.specs.Error.{weight, damaged, on_check}
use Rattle.correction.specs.Answer.{decoded_word}
use Rattle.correction.specs.Reading.{changes_by, restored_by, accepted_by}
use Rattle.correction.proofs.Near.{error_of, error_size, near_shown, damaged_error, damaged_near, mended_error, accepted_near, near_gives}
use Rattle.correction.proofs.Readings.{Meant, means_read, means_unique, meets, read_never}
use Rattle.decoder.specs.Damage.{Unmasked, Explains}
use Rattle.decoder.specs.Decode.{located, error_at, clean, decode_of, restored, Decoding}
use Rattle.decoder.proofs.Clean.{first_private, error_located, error_elsewhere, located_exact, error_exact}

-- ---- a codeword near the word, and clean damage between the two
unmasked_cong : (s : Shape) (e e' : ℕ → ℕ) → ((j : ℕ) → j < word_length s → e j ≡ e' j) → Unmasked s e → Unmasked s e'
unmasked_cong s e e' same u = record {
  unmasked = λ t j lt lj some quiet. u.unmasked t j lt lj (λ z. some (sym (same j lj) ∙ z)) (syndrome_cong s e e' t (line_of s t j) same ∙ quiet);
}

module _ (s : Shape) (w v : List ℕ) (k : ℕ) (x : Explains s w v k) where
  -- the number of symbols changed is the number of places where received and restored differ
  pub explains_near : Near s (s.n - 1) w v k
  explains_near = rw (x.received, ← x.changed) (damaged_near s (s.n - 1) v x.error x.codeword x.word (rw x.changed x.few))

  pub explains_unmasked : Unmasked s (error_of w v)
  explains_unmasked = rw x.received (unmasked_cong s (at x.error) _ (λ j l. sym (damaged_error s v x.error x.codeword.word x.word j l)) x.unmasked)

pub near_explains : (s : Shape) (w v : List ℕ) (k : ℕ) → Near s (s.n - 1) w v k → Unmasked s (error_of w v) → Explains s w v k
unfolding damaged weight
near_explains s w v k near u = record {
  codeword = near.codeword;
  error = tabulate (word_length s) (error_of w v);
  word = tabulate_word s (error_of w v) (λ j l. lt_pow s.b (at w j) (at v j) (near.word.width j) (near.codeword.word.width j));
  unmasked = unmasked_cong s (error_of w v) _ (λ j l. sym (at_tabulate (word_length s) (error_of w v) j l)) u;
  changed = count_cong (word_length s) _ _ (λ j l. ap (λ (x : ℕ). not (eqb x 0)) (at_tabulate (word_length s) (error_of w v) j l)) ∙ error_size s w v ∙ near.changed;
  few = near.few;
  received =
      is_tabulate (length v) (λ j. at v j ⊕ at (tabulate (word_length s) (error_of w v)) j) w (near.word.size ∙ sym near.codeword.word.size)
      (λ j l. let lj : j < word_length s = rw near.codeword.word.size at l in rw (at_tabulate (word_length s) (error_of w v) j lj) (simp xors));
}

-- a codeword explains itself
pub codeword_explains : (s : Shape) (v : List ℕ) → Codeword s v → Explains s v v 0
codeword_explains s v c = near_explains s v v 0 (near_self c) (record { unmasked = λ t j lt lj some quiet. some (self (at v j)) })

-- ---- the errors found in a word that is accepted explain it
module _ (s : Shape) (law : Lawful s) (w : List ℕ) (hw : Word s w) (ok : accepted_by clean s w ≡ true) where
  few : count (word_length s) (located s (at w)) < s.n
  unfolding accepted_by changes_by
  few = let b = (bounds s law).n2 in omega (arith, leb-true (count (word_length s) (located s (at w))) (clean.bound s) (and_left _ _ ok))

  -- the error at a located position is the value of one of its checks
  error_shown : (j : ℕ) → j < word_length s → located s (at w) j ≡ true → (t : ℕ) × (t < s.n) × (error_at s (at w) j ≡ on_check s (at w) j t)
  error_shown j lj h = let (t, lt, free, e) = first_private s law (at w) j lj few in (t, lt, error_located s (at w) j h ∙ e)

  -- and below 2^b
  error_narrow : (j : ℕ) → j < word_length s → error_at s (at w) j < 2 ^ s.b
  error_narrow j lj =
      ⊎_elim
      (λ (h : located s (at w) j ≡ true).
      let (t, lt, e) = error_shown j lj h in
      rw e (syndrome_width s (at w) s.b t (line_of s t j) (λ i l. hw.width i)))
      (λ (h : located s (at w) j ≡ false). rw (error_elsewhere s (at w) j h) (pow_pos s.b))
      (either (located s (at w) j))

  -- a located position's checks are nonzero
  sounds : (j : ℕ) → located s (at w) j ≡ true → (t : ℕ) → t < s.n → on_check s (at w) j t ≡ 0 → ⊥
  unfolding located
  sounds j h t lt =
      eqb-false (on_check s (at w) j t) 0
      (not-true (eqb (on_check s (at w) j t) 0) (all_elim s.n (λ t. not (eqb (on_check s (at w) j t) 0)) h t lt))

  -- the error is nonzero exactly where a position is located
  error_where : (j : ℕ) → j < word_length s → not (eqb (error_at s (at w) j) 0) ≡ located s (at w) j
  error_where j lj =
      ⊎_elim
      (λ (h : located s (at w) j ≡ true).
      let (t, lt, e) = error_shown j lj h in
      not_of_false (ne_eqb (error_at s (at w) j) 0 (λ z. sounds j h t lt (sym e ∙ z))) ∙ sym h)
      (λ (h : located s (at w) j ≡ false). not_of_true (eq-eqb (error_at s (at w) j) 0 (error_elsewhere s (at w) j h)) ∙ sym h)
      (either (located s (at w) j))

  restored_near : Near s (s.n - 1) w (restored s w) (changes_by clean s w)
  restored_near = accepted_near clean s w hw error_narrow error_where ok

  -- the error has the word's syndromes, so it is unmasked
  restored_unmasked : Unmasked s (error_of w (restored s w))
  unfolding restored_by
  restored_unmasked = record {
    unmasked = λ t j lt lj nonzero masked.
        ⊎_elim (λ (h : located s (at w) j ≡ true). sounds j h t lt (near_shown law restored_near j t lj lt ∙ masked))
        (λ (h : located s (at w) j ≡ false). nonzero (mended_error s w (error_at s (at w)) j lj ∙ error_elsewhere s (at w) j h))
        (either (located s (at w) j));
  }

  pub decode_explains : Explains s w (restored s w) (changes_by clean s w)
  decode_explains = near_explains s w (restored s w) (changes_by clean s w) restored_near restored_unmasked

pub clean_meant : Meant clean Explains
clean_meant = record {
  late = refl;
  word = λ s w v k x. (explains_near s w v k x).word;
  shows = λ s law fits. decode_explains s law;
  gives = λ s law fits w v k x.
      let near = explains_near s w v k x in
      let u = explains_unmasked s w v k x in
      near_gives clean s w near (error_exact s law w v k near u) (located_exact s law w v k near u);
}

-- an explained word is accepted, with that codeword and that number, and there is one at most
pub explains_decode : (s : Shape) → Lawful s → (w v : List ℕ) (k : ℕ) → Explains s w v k → (decode_of s w ≡ Ok k) × (restored s w ≡ v)
explains_decode s law = means_read clean_meant s law refl

pub explains_unique : (s : Shape) → Lawful s → (w v v' : List ℕ) (k k' : ℕ) → Explains s w v k → Explains s w v' k' → (v ≡ v') × (k ≡ k')
explains_unique s law = means_unique clean_meant s law refl

-- for every shape and word: the answer by equation, and what it means
pub decode_meets : (s : Shape) (w : List ℕ) → Decoding s w (decoded_word w (restored s w) (decode_of s w)) (decode_of s w)
decode_meets = meets clean_meant

-- it refuses with 1, 18, 2, 3 and 4 alone
pub decode_never : (s : Shape) (w : List ℕ) (e : Refusal) → Foreign s e → decode_of s w ≡ Err e → ⊥
decode_never s w e f = read_never clean s w e f (λ no. absurd (clash refl no)) f.damage
