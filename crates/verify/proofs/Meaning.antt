-- What checking means: yes exactly where the proposal explains the received word, so exactly for the proposal that reading gives.
use mathlib.Core.Path.{◌≡◌, refl, sym, ap, ◌∙◌}
use mathlib.Core.Bool.{Bool, true, false, not, ◌&&◌, ◌||◌}
use mathlib.Core.List.{List}
use mathlib.Core.Logic.{⊎_elim}
use Prim.Native.Nat.{ℕ, ◌-◌, ◌<◌}
use native.Mathlib.Omega.{arith}
use lib.Dec.{eqb, leb}
use lib.ListN.{length}
use borrow.Author.Tests.{leb-true, le-leb, eq-eqb, ne_eqb, eqb-true, eqb-false, not-true}
use Rattle.parity.specs.Count.{all}
use Rattle.parity.proofs.Tests.{either, and_left, and_right, and_both, not_of_false, all_elim, all_intro, or_cases}
use Rattle.gtb.specs.declared.Shape.{Shape}
use Rattle.gtb.specs.declared.Refusal.{Refusal}
use Rattle.gtb.specs.Shape.{lawful, shape_refusal, Lawful, word_length}
use Rattle.gtb.specs.Square.{line_of, at, narrow, syndrome, Word, silent_test}
use Rattle.gtb.proofs.Words.{word_narrow, narrow_word, test_silent, silent_test_lem}
use Rattle.gtb.proofs.Answers.{unless_passed}
use Rattle.std.specs.Prelude.{Result, Ok, Err}
use Rattle.correction.specs.Error.{weight}
use Rattle.correction.proofs.Near.{error_size}
use Rattle.correction.proofs.Readings.{read_accepted, read_means}
use Rattle.decoder.specs.Damage.{Unmasked, Explains}
use Rattle.decoder.specs.Decode.{clean, decode_of, restored}
use Rattle.decoder.proofs.Meaning.{explains_near, explains_unmasked, near_explains, clean_meant, explains_decode}
use Rattle.verify.specs.Verify.{difference, unmasked_test, restores, verdict_of, Checking}

-- ---- the test and what it says
-- the symbol at j is 0, or its check of direction t sounds
abbrev sounds : Shape → (ℕ → ℕ) → ℕ → ℕ → Bool
sounds s e t j = eqb (e j) 0 || not (eqb (syndrome s e t (line_of s t j)) 0)

pub test_unmasked : (s : Shape) (e : ℕ → ℕ) → unmasked_test s e ≡ true → Unmasked s e
unfolding unmasked_test
test_unmasked s e h = record {
  unmasked = λ t j lt lj some quiet.
      ⊎_elim (λ (z : eqb (e j) 0 ≡ true). some (eqb-true (e j) 0 z))
      (λ (z : not (eqb (syndrome s e t (line_of s t j)) 0) ≡ true).
      eqb-false (syndrome s e t (line_of s t j)) 0 (not-true (eqb (syndrome s e t (line_of s t j)) 0) z) quiet)
      (or_cases (eqb (e j) 0) (not (eqb (syndrome s e t (line_of s t j)) 0))
      (all_elim (word_length s) (λ j. sounds s e t j) (all_elim s.n (λ t. all (word_length s) (λ j. sounds s e t j)) h t lt) j lj));
}

pub unmasked_test_lem : (s : Shape) (e : ℕ → ℕ) → Unmasked s e → unmasked_test s e ≡ true
unfolding unmasked_test
unmasked_test_lem s e u =
    all_intro s.n (λ t. all (word_length s) (λ j. sounds s e t j)) (λ t lt. all_intro (word_length s) (λ j. sounds s e t j) (each t lt))
  where
    each : (t : ℕ) → t < s.n → (j : ℕ) → j < word_length s → sounds s e t j ≡ true
    each t lt j lj =
        ⊎_elim (λ (z : eqb (e j) 0 ≡ true). rw z)
        (λ (z : eqb (e j) 0 ≡ false).
        rw z (not_of_false (ne_eqb (syndrome s e t (line_of s t j)) 0 (u.unmasked t j lt lj (eqb-false (e j) 0 z)))))
        (either (eqb (e j) 0))

-- ---- a proposal that restores explains
module _ (s : Shape) (w v : List ℕ) where
  pub restores_explains : Word s w → Word s v → restores s w v ≡ true → Explains s w v (weight s (difference w v))
  unfolding restores weight
  restores_explains hw hv h =
      let first : (silent_test s (at v) && leb (weight s (difference w v)) (s.n - 1)) ≡ true = and_left _ (unmasked_test s (difference w v)) h in
      near_explains s w v (weight s (difference w v))
      (record {
        word = hw;
        codeword = record { word = hv; checks = test_silent s (at v) (and_left (silent_test s (at v)) _ first) };
        changed = sym (error_size s w v);
        few = leb-true (weight s (difference w v)) (s.n - 1) (and_right (silent_test s (at v)) _ first);
      })
      (test_unmasked s (difference w v) (and_right (silent_test s (at v) && leb (weight s (difference w v)) (s.n - 1)) _ h))

  -- and one that explains restores
  explains_restores : (k : ℕ) → Explains s w v k → restores s w v ≡ true
  unfolding restores weight
  explains_restores k x =
      let near = explains_near s w v k x in
      and_both
      (and_both (silent_test_lem s (at v) x.codeword.checks) (le-leb (weight s (difference w v)) (s.n - 1) (omega (arith, error_size s w v, near.changed, near.few))))
      (unmasked_test_lem s (difference w v) (explains_unmasked s w v k x))

-- ---- the tests before
abbrev is_refused : Result Bool Refusal → Type 0
is_refused r = (e : Refusal) × (Err e ≡ r)

-- what has passed the tests, and what decides then
record Passed (s : Shape) (w v : List ℕ) (r : Result Bool Refusal) : Type 0 where
  pub law : Lawful s
  pub received : Word s w
  pub proposed : Word s v
  pub decides : Ok (restores s w v) ≡ r

passed : (s : Shape) (w v : List ℕ) (r : Result Bool Refusal) → (is_refused r → ⊥) → verdict_of s w v ≡ r → Passed s w v r
unfolding verdict_of
passed s w v r ne h =
    let (law, h2) = unless_passed (lawful s) _ _ (λ e. ne (shape_refusal s, e)) h in
    let (sizes, h3) = unless_passed (eqb (length w) (word_length s) && eqb (length v) (word_length s)) _ _ (λ e. ne (Refusal.Length, e)) h2 in
    let (slim, h4) = unless_passed (narrow s.b w && narrow s.b v) _ _ (λ e. ne (Refusal.Width, e)) h3 in
    record {
      law = law;
      received = narrow_word s w (eqb-true (length w) (word_length s) (and_left _ (eqb (length v) (word_length s)) sizes)) (and_left _ (narrow s.b v) slim);
      proposed = narrow_word s v (eqb-true (length v) (word_length s) (and_right (eqb (length w) (word_length s)) _ sizes)) (and_right (narrow s.b w) _ slim);
      decides = h4;
    }

-- past them
verdict_by : (s : Shape) (w v : List ℕ) → Lawful s → Word s w → Word s v → verdict_of s w v ≡ Ok (restores s w v)
unfolding verdict_of
verdict_by s w v law hw hv =
    rw (law, eq-eqb (length w) (word_length s) hw.size, eq-eqb (length v) (word_length s) hv.size, word_narrow s w hw, word_narrow s v hv)

yes_true : (b : Bool) → ◌≡◌ {A = Result Bool Refusal} (Ok b) (Ok true) → b ≡ true
yes_true true h = refl
yes_true false h = let z : ◌≡◌ {A = ℕ} 0 1 = cc in absurd (omega arith)

yes_plain : is_refused (Ok true) → ⊥
yes_plain (e, h) = let z : ◌≡◌ {A = ℕ} 0 1 = cc in omega arith

no_plain : is_refused (Ok false) → ⊥
no_plain (e, h) = let z : ◌≡◌ {A = ℕ} 0 1 = cc in omega arith

-- a proposal that explains gets yes
pub explains_yes : (s : Shape) → Lawful s → (w v : List ℕ) (k : ℕ) → Explains s w v k → verdict_of s w v ≡ Ok true
explains_yes s law w v k x =
    verdict_by s w v law (explains_near s w v k x).word x.codeword.word ∙ ap (λ (b : Bool). Ok b) (explains_restores s w v k x)

-- and one that gets yes explains
pub record Accepted (s : Shape) (w v : List ℕ) : Type 0 where
  pub law : Lawful s
  pub received : Word s w
  pub changed : ℕ
  pub explains : Explains s w v changed

pub yes_explains : (s : Shape) (w v : List ℕ) → verdict_of s w v ≡ Ok true → Accepted s w v
yes_explains s w v h =
    let p = passed s w v (Ok true) yes_plain h in
    record {
      law = p.law;
      received = p.received;
      changed = weight s (difference w v);
      explains = restores_explains s w v p.received p.proposed (yes_true (restores s w v) p.decides);
    }

-- ---- yes exactly for the proposal that reading gives
pub yes_decodes : (s : Shape) (w v : List ℕ) → verdict_of s w v ≡ Ok true → (k : ℕ) × ((decode_of s w ≡ Ok k) × (restored s w ≡ v))
yes_decodes s w v h = let a = yes_explains s w v h in (a.changed, explains_decode s a.law w v a.changed a.explains)

pub decodes_yes : (s : Shape) (w v : List ℕ) (k : ℕ) → decode_of s w ≡ Ok k → restored s w ≡ v → verdict_of s w v ≡ Ok true
decodes_yes s w v k h e = explains_yes s (read_accepted clean s w k h).lawful w v k (rw e at (read_means clean_meant s w k h))

-- ---- for every shape and two words: the answer by equation, and what it means
pub check_meets : (s : Shape) (w v : List ℕ) → Checking s w v (verdict_of s w v)
check_meets s w v = record {
  answer = refl;
  yes = λ h. let a = yes_explains s w v h in (a.changed, a.explains);
  no = λ h k x.
      let y = explains_yes s (passed s w v (Ok false) no_plain h).law w v k x in
      let z : ◌≡◌ {A = ℕ} 0 1 = cc in
      omega arith;
}
