-- A codeword near a word: the two differ by an error that shows in the word's syndromes, and a reader that changes every symbol by it reads that codeword.
use mathlib.Core.Path.{◌≡◌, sym, ap, ◌∙◌}
use mathlib.Core.Bool.{Bool, true, false, not}
use mathlib.Core.List.{List}
use Prim.Native.Nat.{ℕ, ◌^◌, ◌<◌, ◌≤◌}
use native.Mathlib.Omega.{arith}
use lib.Dec.{eqb, leb}
use lib.ListN.{length}
use borrow.Author.Tests.{le-leb, leb-true, eqb-true, not-false}
use Rattle.parity.specs.Xor.{◌⊕◌}
use Rattle.parity.specs.Count.{count}
use Rattle.parity.proofs.Xors.{xors, comm, twice}
use Rattle.parity.proofs.Tests.{and_left, and_right, and_both}
use Rattle.parity.proofs.Sums.{count_cong}
use Rattle.parity.proofs.Lists.{is_tabulate}
use Rattle.gtb.specs.declared.Shape.{Shape}
use Rattle.gtb.specs.Shape.{Lawful, word_length}
use Rattle.gtb.specs.Square.{line_of, at, silent_test, Word, Codeword}
use Rattle.gtb.specs.Answer.{is_early}
use Rattle.gtb.proofs.Lines.{line_lt}
use Rattle.gtb.proofs.Rows.{silent_hidden}
use Rattle.gtb.proofs.Words.{test_silent, silent_test_lem}
use Rattle.gtb.proofs.Crossing.{others, private_value, eqb_xor}
use Rattle.distance.specs.Distance.{differences, Near}
use Rattle.correction.specs.Error.{weight, damaged, on_check, mended}
use Rattle.correction.specs.Reading.{Reader, changes_by, restored_by, accepted_by}
use Rattle.correction.proofs.Errors.{damaged_at, damaged_word, mended_at, mended_word}
use Rattle.correction.proofs.Readings.{Gives, Meant}

-- what was XORed onto v to give w
abbrev pub error_of : List ℕ → List ℕ → ℕ → ℕ
error_of w v j = at w j ⊕ at v j

-- where it is not zero
abbrev pub support : List ℕ → List ℕ → ℕ → Bool
support w v j = not (eqb (error_of w v j) 0)

pub outside : (w v : List ℕ) (j : ℕ) → support w v j ≡ false → error_of w v j ≡ 0
outside w v j h = eqb-true (error_of w v j) 0 (not-false (eqb (error_of w v j) 0) h)

-- as many symbols differ
pub error_size : (s : Shape) (w v : List ℕ) → count (word_length s) (support w v) ≡ differences s v w
unfolding differences
error_size s w v = count_cong (word_length s) _ _ (λ j l. ap not (ap (λ (x : ℕ). eqb x 0) (comm (at w j) (at v j)) ∙ eqb_xor (at v j) (at w j)))

-- a check shows it alone
pub near_shown : {s : Shape} {l k : ℕ} {w v : List ℕ} → Lawful s → Near s l w v k → (j t : ℕ) → j < word_length s → t < s.n
    → on_check s (at w) j t ≡ on_check s (error_of w v) j t
near_shown {s} {l} {k} {w} {v} law x j t lj lt = silent_hidden s (at w) (at v) x.codeword.checks t (line_of s t j) lt (line_lt s law t j lt lj)

-- and at j, if no other wrong position is on it
pub near_private : {s : Shape} {l k : ℕ} {w v : List ℕ} → Lawful s → Near s l w v k → (j t : ℕ) → j < word_length s → t < s.n
    → others s (support w v) j t ≡ false → on_check s (at w) j t ≡ error_of w v j
near_private {s} {l} {k} {w} {v} law x j t lj lt free =
    near_shown law x j t lj lt ∙ private_value s (support w v) (error_of w v) j t lj (λ i li h. outside w v i h) free

-- ---- an error on a codeword
pub damaged_error : (s : Shape) (v e : List ℕ) → Word s v → Word s e → (j : ℕ) → j < word_length s → error_of (damaged v e) v j ≡ at e j
damaged_error s v e hv he j l = ap (λ (x : ℕ). x ⊕ at v j) (damaged_at s v e hv he j l) ∙ simp xors

pub damaged_near : (s : Shape) (l : ℕ) (v e : List ℕ) → Codeword s v → Word s e → weight s (at e) ≤ l → Near s l (damaged v e) v (weight s (at e))
unfolding weight
damaged_near s l v e hv he few = record {
  word = damaged_word s v e hv.word he;
  codeword = hv;
  changed = sym (error_size s (damaged v e) v) ∙ count_cong (word_length s) _ _ (λ j lj. ap (λ (x : ℕ). not (eqb x 0)) (damaged_error s v e hv.word he j lj));
  few = few;
}

-- and back: what two words differ by is an error on one that gives the other
pub record Damages (s : Shape) (w v : List ℕ) (k : ℕ) : Type 0 where
  pub error : List ℕ
  pub word : Word s error
  pub changed : weight s (at error) ≡ k
  pub received : w ≡ damaged v error

pub near_damages : {s : Shape} {l k : ℕ} {w v : List ℕ} → Near s l w v k → Damages s w v k
unfolding weight damaged
near_damages {s} {l} {k} {w} {v} x =
    let hv : Word s v = x.codeword.word in
    record {
      error = damaged w v;
      word = damaged_word s w v x.word hv;
      changed = count_cong (word_length s) _ _ (λ j lj. ap (λ (y : ℕ). not (eqb y 0)) (damaged_at s w v x.word hv j lj)) ∙ error_size s w v ∙ x.changed;
      received =
          is_tabulate (length v) (λ j. at v j ⊕ at (damaged w v) j) w (x.word.size ∙ sym hv.size)
          (λ j lj.
          let l : j < word_length s = rw hv.size at lj in
          sym (ap (λ (y : ℕ). at v j ⊕ y) (damaged_at s w v x.word hv j l ∙ comm (at w j) (at v j)) ∙ twice (at v j) (at w j)));
    }

-- ---- the error that a function gives, taken off
module _ (s : Shape) (w : List ℕ) (error : ℕ → ℕ) where
  pub mended_error : (j : ℕ) → j < word_length s → error_of w (mended s w error) j ≡ error j
  mended_error j l = ap (λ (x : ℕ). at w j ⊕ x) (mended_at s w error j l) ∙ twice (at w j) (error j)

  -- if it changes few symbols and silences every check, what is left is near
  pub error_near : (l : ℕ) → Word s w → ((j : ℕ) → j < word_length s → error j < 2 ^ s.b) → count (word_length s) (λ j. not (eqb (error j) 0)) ≤ l
      → silent_test s (at (mended s w error)) ≡ true → Near s l w (mended s w error) (count (word_length s) (λ j. not (eqb (error j) 0)))
  error_near l hw small few quiet = record {
    word = hw;
    codeword = record { word = mended_word s w error hw small; checks = test_silent s (at (mended s w error)) quiet };
    changed = sym (error_size s w (mended s w error)) ∙ count_cong (word_length s) _ _ (λ j lj. ap (λ (x : ℕ). not (eqb x 0)) (mended_error j lj));
    few = few;
  }

-- ---- a reader
module _ (reader : Reader) (s : Shape) (w : List ℕ) where
  -- one whose changes are narrow, and nonzero exactly where it finds one: what it accepts is near
  pub accepted_near : Word s w → ((j : ℕ) → j < word_length s → reader.change s (at w) j < 2 ^ s.b)
      → ((j : ℕ) → j < word_length s → not (eqb (reader.change s (at w) j) 0) ≡ reader.found s (at w) j)
      → accepted_by reader s w ≡ true → Near s (reader.bound s) w (restored_by reader s w) (changes_by reader s w)
  unfolding accepted_by restored_by changes_by
  accepted_near hw small exact ok =
      let same = count_cong (word_length s) _ _ exact in
      let few = leb-true (count (word_length s) (reader.found s (at w))) (reader.bound s) (and_left _ _ ok) in
      rw same at (error_near s w (reader.change s (at w)) (reader.bound s) hw small (omega arith)
      (and_right (leb (count (word_length s) (reader.found s (at w))) (reader.bound s)) _ ok))

  -- one that changes every symbol by what it differs from a codeword that is near
  pub near_gives : {v : List ℕ} {k : ℕ} → Near s (reader.bound s) w v k → ((j : ℕ) → j < word_length s → reader.change s (at w) j ≡ error_of w v j)
      → ((j : ℕ) → j < word_length s → reader.found s (at w) j ≡ not (eqb (error_of w v j) 0)) → Gives reader s w v k
  unfolding accepted_by restored_by changes_by mended
  near_gives {v} {k} x change found = record { accepted = accepted; changed = changed; word = word }
    where
      word : restored_by reader s w ≡ v
      word =
          sym
          (is_tabulate (word_length s) (λ j. at w j ⊕ reader.change s (at w) j) v x.codeword.word.size
          (λ j l. sym (ap (λ (y : ℕ). at w j ⊕ y) (change j l) ∙ twice (at w j) (at v j))))

      changed : changes_by reader s w ≡ k
      changed = count_cong (word_length s) _ _ found ∙ error_size s w v ∙ x.changed

      accepted : accepted_by reader s w ≡ true
      accepted =
          and_both (le-leb (changes_by reader s w) (reader.bound s) (rw changed x.few))
          (ap (λ (u : List ℕ). silent_test s (at u)) word ∙ silent_test_lem s (at v) x.codeword.checks)

-- what a reader means that finds whatever is near
pub near_meant : (reader : Reader) → is_early reader.refusal ≡ false → ((s : Shape) (f : ℕ → ℕ) (j : ℕ) → reader.found s f j ≡ not (eqb (reader.change s f j) 0))
    → ((s : Shape) (w : List ℕ) → Word s w → (j : ℕ) → j < word_length s → reader.change s (at w) j < 2 ^ s.b)
    → ((s : Shape) → Lawful s → reader.suits s ≡ true → (w v : List ℕ) (k : ℕ) → Near s (reader.bound s) w v k → (j : ℕ) → j < word_length s → reader.change s (at w) j ≡ error_of w v j)
    → Meant reader (λ s. Near s (reader.bound s))
near_meant reader late nonzero small exact = record {
  late = late;
  word = λ s w v k x. x.word;
  shows = λ s law fits w hw ok. accepted_near reader s w hw (small s w hw) (λ j l. sym (nonzero s (at w) j)) ok;
  gives = λ s law fits w v k x.
      near_gives reader s w x (exact s law fits w v k x) (λ j l. nonzero s (at w) j ∙ ap (λ (y : ℕ). not (eqb y 0)) (exact s law fits w v k x j l));
}
