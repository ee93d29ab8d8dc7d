-- A way of reading by its equation: its tests, which refusals it has, and what its answers mean.
use mathlib.Core.Path.{◌≡◌, refl, sym, ap, ◌∙◌, subst, subst₂}
use mathlib.Core.Bool.{Bool, true, false}
use mathlib.Core.List.{List}
use mathlib.Core.Logic.{⊎_elim}
use Prim.Native.Nat.{ℕ, ◌<◌}
use native.Mathlib.Omega.{arith}
use lib.Dec.{eqb, leb}
use lib.ListN.{length}
use borrow.Author.Tests.{eq-eqb, lt-leb}
use Rattle.parity.proofs.Tests.{either, clash, and_no_left, and_no_right}
use Rattle.gtb.specs.declared.Shape.{Shape}
use Rattle.gtb.specs.declared.Refusal.{Refusal}
use Rattle.std.specs.Prelude.{Result, Ok, Err, Option, Some, None}
use Rattle.gtb.specs.Shape.{lawful, shape_refusal, Lawful, word_length}
use Rattle.gtb.specs.Square.{at, narrow, silent_test, Word, Syndromes}
use Rattle.gtb.specs.Answer.{unless, is_early}
use Rattle.gtb.specs.Lent.{word_status}
use Rattle.gtb.proofs.Answers.{unless_passed, unless_never, unless_done, shape_early, late_next, Foreign}
use Rattle.gtb.proofs.Words.{status_word, word_status_lem}
use Rattle.correction.specs.Answer.{decoded_word}
use Rattle.correction.specs.Reading.{Reader, changes_by, restored_by, accepted_by, read_of, Meaning, Reads}
use Rattle.correction.specs.Steps.{tests_of, Corrects, Within, Mends, Corrections, Found}
use Rattle.correction.proofs.Errors.{mended_size}

pub corrected_not : (e : Refusal) (k : ℕ) → Err e ≡ Ok k → ⊥
corrected_not e k h = let z : ◌≡◌ {A = ℕ} 0 1 = cc in omega arith

-- ---- the tests, and what comes past them
pub tests_passed : (s : Shape) (suits : Bool) (w : List ℕ) → tests_of s suits w ≡ Ok tt → Lawful s × (suits ≡ true) × Word s w
unfolding tests_of
tests_passed s suits w h =
    let (law, h2) = unless_done (lawful s) (shape_refusal s) _ h in
    let (fits, h3) = unless_done suits Refusal.Directions (word_status s w) h2 in
    (law, fits, status_word s w h3)

abbrev past : Result (Unit {0}) Refusal → Result ℕ Refusal → Result ℕ Refusal
past (Ok tt) r = r
past (Err e) r = Err e

by_tests : (a b c d : Bool) (e : Refusal) (r : Result ℕ Refusal)
    → unless a (Err e) (unless b (Err Refusal.Directions) (unless c (Err Refusal.Length) (unless d (Err Refusal.Width) r)))
    ≡ past (unless a (Err e) (unless b (Err Refusal.Directions) (unless c (Err Refusal.Length) (unless d (Err Refusal.Width) (Ok tt))))) r
by_tests false b c d e r = refl
by_tests true false c d e r = refl
by_tests true true false d e r = refl
by_tests true true true false e r = refl
by_tests true true true true e r = refl

past_corrected : (t : Result (Unit {0}) Refusal) (r : Result ℕ Refusal) (k : ℕ) → past t r ≡ Ok k → (t ≡ Ok tt) × (r ≡ Ok k)
past_corrected (Ok tt) r k h = (refl, h)
past_corrected (Err e) r k h = absurd (corrected_not e k h)

module _ (reader : Reader) (s : Shape) (w : List ℕ) where
  -- the reader's own test
  abbrev own : Result ℕ Refusal
  own = unless (accepted_by reader s w) (Err reader.refusal) (Ok (changes_by reader s w))

  read_past : (t : Result (Unit {0}) Refusal) → tests_of s (reader.suits s) w ≡ t → read_of reader s w ≡ past t own
  unfolding read_of tests_of word_status
  read_past t h = by_tests (lawful s) (reader.suits s) (eqb (length w) (word_length s)) (narrow s.b w) (shape_refusal s) own ∙ ap (λ (x : Result (Unit {0}) Refusal). past x own) h

  -- an accepted word has passed every test
  pub record Accepted (k : ℕ) : Type 0 where
    pub lawful : Lawful s
    pub suits : reader.suits s ≡ true
    pub word : Word s w
    pub accepted : accepted_by reader s w ≡ true
    pub changed : changes_by reader s w ≡ k

  pub read_accepted : (k : ℕ) → read_of reader s w ≡ Ok k → Accepted k
  read_accepted k h =
      let (done, last) = past_corrected (tests_of s (reader.suits s) w) own k (sym (read_past (tests_of s (reader.suits s) w) refl) ∙ h) in
      let (law, fits, hw) = tests_passed s (reader.suits s) w done in
      let (ok, number) = unless_passed (accepted_by reader s w) (Err reader.refusal) _ (corrected_not reader.refusal k) last in
      record { lawful = law; suits = fits; word = hw; accepted = ok; changed = cc }

  -- its refusals are those of the tests and its own
  pub read_never : (e : Refusal) → Foreign s e → (reader.suits s ≡ false → Refusal.Directions ≡ e → ⊥) → (reader.refusal ≡ e → ⊥) → read_of reader s w ≡ Err e → ⊥
  unfolding read_of
  read_never e f directions last =
      next (lawful s) (shape_refusal s) _ f.shape
      (next (reader.suits s) Refusal.Directions _ directions
      (next (eqb (length w) (word_length s)) Refusal.Length _ (λ _. f.length)
      (next (narrow s.b w) Refusal.Width _ (λ _. f.width) (next (accepted_by reader s w) reader.refusal _ (λ _. last) (λ r. corrected_not e _ (sym r))))))
    where
      next : (t : Bool) (e' : Refusal) (r : Result ℕ Refusal) → (t ≡ false → e' ≡ e → ⊥) → (r ≡ Err e → ⊥) → unless t (Err e') r ≡ Err e → ⊥
      next t e' r ne = unless_never t (Err e') r (λ f h. ne f (cc))

  -- past tests 1, 18, 16 and 2 they come late, if its own does
  pub read_late : is_early reader.refusal ≡ false → Lawful s → reader.suits s ≡ true → length w ≡ word_length s → (e : Refusal) → read_of reader s w ≡ Err e
      → is_early e ≡ false
  unfolding read_of
  read_late late law fits size e h =
      next (narrow s.b w) Refusal.Width _ refl (next (accepted_by reader s w) reader.refusal _ late (λ e' r. absurd (corrected_not e' _ (sym r)))) e
      (rw (law, fits, eq-eqb (length w) (word_length s) size) at h)
    where
      next : (t : Bool) (e : Refusal) (r : Result ℕ Refusal) → is_early e ≡ false → ((e' : Refusal) → r ≡ Err e' → is_early e' ≡ false)
          → (e' : Refusal) → unless t (Err e) r ≡ Err e' → is_early e' ≡ false
      next = late_next Err (λ e e' h. cc)

  -- the word that it gives is one of the shape
  pub restored_size : length (restored_by reader s w) ≡ word_length s
  unfolding restored_by
  restored_size = mended_size s w _

  -- ---- the reader's own test: what fails it, and the answers of the work
  pub too_many : reader.bound s < changes_by reader s w → accepted_by reader s w ≡ false
  unfolding accepted_by
  too_many l = and_no_left _ (lt-leb (changes_by reader s w) (reader.bound s) l)

  pub still_loud : silent_test s (at (restored_by reader s w)) ≡ false → accepted_by reader s w ≡ false
  unfolding accepted_by
  still_loud h = and_no_right (leb (changes_by reader s w) (reader.bound s)) h

  pub uncorrected : accepted_by reader s w ≡ false → Corrects reader s w w (Err reader.refusal)
  uncorrected h = record { answer = rw h; word = refl }

  pub corrected : {w' places errors : List ℕ} {k : ℕ} → Corrections reader s w k places errors → Mends s k places errors w w' → Corrects reader s w w' (Ok k)
  corrected c m = record { answer = rw (c.accepted, c.changed); word = m.mends c.error c.listed ∙ sym c.word }

  -- ---- it accepts the word, with k changes, and gives v
  pub record Gives (v : List ℕ) (k : ℕ) : Type 0 where
    pub accepted : accepted_by reader s w ≡ true
    pub changed : changes_by reader s w ≡ k
    pub word : restored_by reader s w ≡ v

-- ---- what a search gives
module _ {reader : Reader} {s : Shape} {whole : Bool} {syn places errors : List ℕ} where
  pub found_none : (whole ≡ true → (w : List ℕ) → Word s w → Syndromes s w syn → accepted_by reader s w ≡ false) → Found reader s whole syn places errors None
  found_none none = record {
    within = λ k is. let z : ◌≡◌ {A = ℕ} 0 1 = cc in absurd (omega arith);
    few = λ k is. let z : ◌≡◌ {A = ℕ} 0 1 = cc in absurd (omega arith);
    many = λ all is. none all;
  }

  pub found_few : {k : ℕ} → Within s k places → ((w : List ℕ) → Word s w → Syndromes s w syn → Corrections reader s w k places errors) → Found reader s whole syn places errors (Some k)
  found_few {k} within given = record {
    within = λ k' is. let same : k ≡ k' = cc in subst (λ (x : ℕ). Within s x places) same within;
    few = λ k' is w hw hs. let same : k ≡ k' = cc in subst (λ (x : ℕ). Corrections reader s w x places errors) same (given w hw hs);
    many = λ all is. let z : ◌≡◌ {A = ℕ} 0 1 = cc in absurd (omega arith);
  }

-- ---- what the answers mean
-- what is accepted has that meaning, and what has it is accepted
pub record Meant (reader : Reader) (Means : Meaning) : Type 0 where
  pub late : is_early reader.refusal ≡ false
  pub word : (s : Shape) (w v : List ℕ) (k : ℕ) → Means s w v k → Word s w
  pub shows : (s : Shape) → Lawful s → reader.suits s ≡ true → (w : List ℕ) → Word s w → accepted_by reader s w ≡ true → Means s w (restored_by reader s w) (changes_by reader s w)
  pub gives : (s : Shape) → Lawful s → reader.suits s ≡ true → (w v : List ℕ) (k : ℕ) → Means s w v k → Gives reader s w v k

module _ {reader : Reader} {Means : Meaning} (m : Meant reader Means) (s : Shape) where
  -- with a shape that it can be used with
  module _ (law : Lawful s) (fits : reader.suits s ≡ true) (w : List ℕ) where
    pub takes : {v : List ℕ} {k : ℕ} → Means s w v k → Corrects reader s w v (Ok k)
    takes {v} {k} x = let g = m.gives s law fits w v k x in record { answer = rw (g.accepted, g.changed); word = sym g.word }

    pub leaves : Word s w → ((v : List ℕ) (k : ℕ) → Means s w v k → ⊥) → Corrects reader s w w (Err reader.refusal)
    leaves hw none =
        uncorrected reader s w
        (⊎_elim (λ (h : accepted_by reader s w ≡ true). absurd (none _ _ (m.shows s law fits w hw h))) (λ h. h) (either (accepted_by reader s w)))

    -- a word with that meaning is accepted, with that codeword and that number
    pub means_read : (v : List ℕ) (k : ℕ) → Means s w v k → (read_of reader s w ≡ Ok k) × (restored_by reader s w ≡ v)
    unfolding tests_of
    means_read v k x =
        let g = m.gives s law fits w v k x in
        (read_past reader s w (Ok tt) (rw (law, fits) (word_status_lem s w (m.word s w v k x))) ∙ rw (g.accepted, g.changed), g.word)

    -- and there is one at most
    pub means_unique : (v v' : List ℕ) (k k' : ℕ) → Means s w v k → Means s w v' k' → (v ≡ v') × (k ≡ k')
    means_unique v v' k k' x y =
        let (a, b) = means_read v k x in
        let (a', b') = means_read v' k' y in
        (sym b ∙ b', cc)

  -- what is accepted has that meaning
  pub read_means : (w : List ℕ) (k : ℕ) → read_of reader s w ≡ Ok k → Means s w (restored_by reader s w) k
  read_means w k h = let a = read_accepted reader s w k h in rw a.changed at (m.shows s a.lawful a.suits w a.word a.accepted)

  -- its own refusal: the tests of the shape were passed
  own_refused : (w : List ℕ) → read_of reader s w ≡ Err reader.refusal → Lawful s × (reader.suits s ≡ true)
  unfolding read_of
  own_refused w h =
      let (law, h2) = unless_passed (lawful s) _ _ (λ e. early (shape_refusal s) (shape_early s) e) h in
      (law, (unless_passed (reader.suits s) _ _ (λ e. early Refusal.Directions refl e) h2).0)
    where
      early : (e : Refusal) → is_early e ≡ true → ◌≡◌ {A = Result ℕ Refusal} (Err e) (Err reader.refusal) → ⊥
      early e yes-early same = let is : e ≡ reader.refusal = cc in clash yes-early (ap is_early is ∙ m.late)

  -- for every shape and word: the answer by equation, and what it means
  pub meets : (w : List ℕ) → Reads reader Means s w (decoded_word w (restored_by reader s w) (read_of reader s w)) (read_of reader s w)
  meets w = record {
    answer = refl;
    word = refl;
    accepted = λ k h. rw h (read_means w k h);
    none = λ h v k x. let (law, fits) = own_refused w h in corrected_not reader.refusal k (sym h ∙ (means_read law fits w v k x).0);
  }

  -- ---- the contract: a test refuses, or the work answers
  reads : {w w' : List ℕ} {r : Result ℕ Refusal} → r ≡ read_of reader s w → w' ≡ decoded_word w (restored_by reader s w) r → Reads reader Means s w w' r
  reads {w} answer word =
      subst₂ (λ (x : List ℕ) (y : Result ℕ Refusal). Reads reader Means s w x y) (sym (word ∙ ap (decoded_word w (restored_by reader s w)) answer)) (sym answer) (meets w)

  pub refuses : {w : List ℕ} {e : Refusal} → tests_of s (reader.suits s) w ≡ Err e → Reads reader Means s w w (Err e)
  refuses {w} {e} h = reads (sym (read_past reader s w (Err e) h)) refl

  pub answers : {w w' : List ℕ} {r : Result ℕ Refusal} → tests_of s (reader.suits s) w ≡ Ok tt → Corrects reader s w w' r → Reads reader Means s w w' r
  answers {w} h c = reads (c.answer ∙ sym (read_past reader s w (Ok tt) h)) c.word
