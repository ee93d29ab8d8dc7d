-- Filling in leaves one answer and one word; with few places it never leaves a choice, and undoes damage on them alone; with none it tells whether the word is a codeword.
use mathlib.Core.Path.{◌≡◌, refl, sym, ap, ◌∙◌, subst}
use mathlib.Core.Bool.{true, not, ◌&&◌, ◌||◌}
use mathlib.Core.List.{List, []}
use mathlib.Core.Logic.{inl, inr, ⊎_elim}
use Prim.Native.Nat.{ℕ, ◌<◌, ◌≤◌}
use native.Mathlib.Omega.{arith}
use lib.Dec.{eqb, lit<}
use lib.ListN.{length}
use lib.Seq.{ext_get_or}
use borrow.Author.Tests.{eqb-true, eq-eqb, not-false}
use Rattle.parity.specs.Count.{any, count}
use Rattle.parity.proofs.Tests.{and_left, or_no}
use Rattle.parity.proofs.Sums.{count_none}
use Rattle.gtb.specs.declared.Shape.{Shape}
use Rattle.gtb.specs.declared.Refusal.{Refusal}
use Rattle.std.specs.Prelude.{Result, Ok, Err}
use Rattle.gtb.specs.Shape.{lawful, Lawful, word_length, scratch_length}
use Rattle.gtb.specs.Square.{at, narrow, Word, Codeword}
use Rattle.gtb.proofs.Answers.{same_refusal, never_refused, unless_never, unless_done, other_refusal, Foreign, late_foreign}
use Rattle.gtb.proofs.Words.{narrow_word, word_narrow}
use Rattle.distance.specs.Distance.{differences, minimum_distance}
use Rattle.distance.proofs.Distance.{few_unambiguous}
use Rattle.gtb.specs.Answer.{answer_number}
use Rattle.erasure.specs.Fill.{is_listed, rising, fill_status, Agrees, FilledIn, NoWord, SeveralWords, Decision, TestedFirst, Filling}
use Rattle.erasure.specs.Steps.{Places}
use Rattle.erasure.proofs.Lists.{rising_places, listed_count}
use Rattle.erasure.proofs.Answers.{status_cases, tested_unique}

-- ---- one answer and one word
module _ {s : Shape} {word places w₁ w₂ : List ℕ} {r₁ r₂ : Result ℕ Refusal} where
  one_one : FilledIn s word places w₁ r₁ → FilledIn s word places w₂ r₂ → (r₁ ≡ r₂) × (w₁ ≡ w₂)
  one_one a b =
      let e : w₁ ≡ w₂ = b.only w₁ a.agrees in
      (a.answer ∙ ap (λ (v : List ℕ). Ok (differences s v word)) e ∙ sym b.answer, e)

  one_none : FilledIn s word places w₁ r₁ → NoWord s word places w₂ r₂ → ⊥
  one_none a b = b.none w₁ a.agrees

  one_several : FilledIn s word places w₁ r₁ → SeveralWords s word places w₂ r₂ → ⊥
  one_several a b = b.different (a.only b.one b.agrees ∙ sym (a.only b.another b.agrees_too))

  none_several : NoWord s word places w₁ r₁ → SeveralWords s word places w₂ r₂ → ⊥
  none_several a b = a.none b.one b.agrees

decision_unique : {s : Shape} {word places w₁ w₂ : List ℕ} {r₁ r₂ : Result ℕ Refusal} → Decision s word places w₁ r₁ → Decision s word places w₂ r₂
    → (r₁ ≡ r₂) × (w₁ ≡ w₂)
decision_unique (inl a) (inl b) = one_one a b
decision_unique (inl a) (inr (inl b)) = absurd (one_none a b)
decision_unique (inl a) (inr (inr b)) = absurd (one_several a b)
decision_unique (inr (inl a)) (inl b) = absurd (one_none b a)
decision_unique (inr (inl a)) (inr (inl b)) = (a.answer ∙ sym b.answer, a.left ∙ sym b.left)
decision_unique (inr (inl a)) (inr (inr b)) = absurd (none_several a b)
decision_unique (inr (inr a)) (inl b) = absurd (one_several b a)
decision_unique (inr (inr a)) (inr (inl b)) = absurd (none_several b a)
decision_unique (inr (inr a)) (inr (inr b)) = (a.answer ∙ sym b.answer, a.left ∙ sym b.left)

pub filling_unique : {s : Shape} {word places scratch w₁ w₂ x₁ x₂ : List ℕ} {r₁ r₂ : Result ℕ Refusal} → Filling s word places scratch w₁ x₁ r₁
    → Filling s word places scratch w₂ x₂ r₂ → (r₁ ≡ r₂) × (w₁ ≡ w₂) × (x₁ ≡ x₂)
filling_unique = tested_unique decision_unique

-- ---- few places leave no choice
-- no test answers 14
foreign : (s : Shape) → Foreign s Refusal.Ambiguous
foreign s = late_foreign s Refusal.Ambiguous (lit< tt) (λ h. omega arith)

pub tests_never : (s : Shape) (word places scratch : List ℕ) → fill_status s word places scratch ≡ Err Refusal.Ambiguous → ⊥
unfolding fill_status
tests_never s word places scratch =
    unless_never (lawful s) _ _ (λ no e. (foreign s).shape no (same_refusal _ _ e))
    (unless_never (eqb (length word) (word_length s) && eqb (length scratch) (scratch_length s)) _ _ (λ no e. (foreign s).length (same_refusal _ _ e))
    (unless_never (narrow s.b word) _ _ (λ no e. (foreign s).width (same_refusal _ _ e))
    (unless_never (rising (word_length s) places) _ _ (λ no e. other_refusal Refusal.Places Refusal.Ambiguous refl (same_refusal _ _ e))
    (never_refused Refusal.Ambiguous))))

-- what the tests let pass
pub record Passed (s : Shape) (word places : List ℕ) : Type 0 where
  pub law : Lawful s
  pub came : Word s word
  pub rises : rising (word_length s) places ≡ true

pub passed : (s : Shape) (word places scratch : List ℕ) → fill_status s word places scratch ≡ Ok tt → Passed s word places
unfolding fill_status
passed s word places scratch h =
    let (law, h₁) = unless_done (lawful s) _ _ h in
    let (fits, h₂) = unless_done (eqb (length word) (word_length s) && eqb (length scratch) (scratch_length s)) _ _ h₁ in
    let (slim, h₃) = unless_done (narrow s.b word) _ _ h₂ in
    let (up, h₄) = unless_done (rising (word_length s) places) _ _ h₃ in
    record { law = law; came = narrow_word s word (eqb-true _ _ (and_left _ _ fits)) slim; rises = up }

-- and that they let it pass
pub tests_pass : (s : Shape) (word places scratch : List ℕ) → Lawful s → Word s word → length scratch ≡ scratch_length s → rising (word_length s) places ≡ true
    → fill_status s word places scratch ≡ Ok tt
unfolding fill_status
tests_pass s word places scratch law hw size up =
    rw (law, eq-eqb (length word) (word_length s) hw.size, eq-eqb (length scratch) (scratch_length s) size, word_narrow s word hw, up)

pub never_both : (k : ℕ) (e : Refusal) (r : Result ℕ Refusal) → r ≡ Ok k → r ≡ Err e → ⊥
never_both k e r a b = let z : ◌≡◌ {A = ℕ} 0 1 = cc in omega arith

pub refused_same : (e e' : Refusal) (r : Result ℕ Refusal) → r ≡ Err e → r ≡ Err e' → e ≡ e'
refused_same e e' r a b = cc

pub no_choice : {s : Shape} {word places word' : List ℕ} {r : Result ℕ Refusal} → Lawful s → length places < minimum_distance s.n → Places (word_length s) places
    → Decision s word places word' r → r ≡ Err Refusal.Ambiguous → ⊥
no_choice {r = r} law few h (inl a) e = never_both _ _ r a.answer e
no_choice {r = r} law few h (inr (inl a)) e = other_refusal Refusal.Unfillable Refusal.Ambiguous refl (refused_same _ _ r a.answer e)
no_choice {s} {places = places} law few h (inr (inr a)) e =
    a.different
    ((few_unambiguous s law (is_listed places) (omega (arith, listed_count h))).one a.one a.another a.agrees.codeword a.agrees_too.codeword
    (λ j l n. a.agrees.same j l n ∙ sym (a.agrees_too.same j l n)))

-- no test answers 14, so an entry whose work never does never does
pub never_ambiguous : {Decided : Type 0} {s : Shape} {word places scratch word' scratch' : List ℕ} {r : Result ℕ Refusal}
    → (Passed s word places → Decided → r ≡ Err Refusal.Ambiguous → ⊥) → TestedFirst Decided s word places scratch word' scratch' r → r ≡ Err Refusal.Ambiguous → ⊥
never_ambiguous {s = s} {word = word} {places = places} {scratch = scratch} {r = r} never f e =
    ⊎_elim
    (λ (h : (e : Refusal) × (fill_status s word places scratch ≡ Err e)).
    tests_never s word places scratch (h.1 ∙ ap Err (refused_same _ _ r (f.tested h.0 h.1).0 e)))
    (λ (h : fill_status s word places scratch ≡ Ok tt). never (passed s word places scratch h) (f.decided h).0 e)
    (status_cases (fill_status s word places scratch))

-- with fewer places than codewords are apart the answer is never 14: up to 2 n - 1 places
pub never_several : {s : Shape} {word places scratch word' scratch' : List ℕ} {r : Result ℕ Refusal} → Lawful s → length places < minimum_distance s.n
    → Filling s word places scratch word' scratch' r → r ≡ Err Refusal.Ambiguous → ⊥
never_several law few = never_ambiguous (λ p. no_choice law few (rising_places p.rises))

-- that takes in N2's limit: n places are always few
pub n_few : (n : ℕ) → 2 ≤ n → n < minimum_distance n
unfolding minimum_distance
n_few n h = omega arith

-- ---- damage on few listed places alone is undone
decision_right : {s : Shape} {word places word' v : List ℕ} {r : Result ℕ Refusal} → Lawful s → length places < minimum_distance s.n → Places (word_length s) places
    → Agrees s word places v → Decision s word places word' r
    → (r ≡ Ok (differences s v word)) × (word' ≡ v) × (answer_number r ≡ differences s v word)
decision_right {v = v} law few h stored (inl a) = rw (a.only v stored) (a.answer, refl, a.number)
decision_right {v = v} law few h stored (inr (inl a)) = absurd (a.none v stored)
decision_right law few h stored (inr (inr a)) = absurd (no_choice law few h (inr (inr a)) a.answer)

-- the word that agrees off the list comes back, with how many symbols changed
pub fill_right : {s : Shape} {word places scratch word' scratch' v : List ℕ} {r : Result ℕ Refusal} → fill_status s word places scratch ≡ Ok tt
    → length places < minimum_distance s.n → Agrees s word places v → Filling s word places scratch word' scratch' r
    → (r ≡ Ok (differences s v word)) × (word' ≡ v) × (answer_number r ≡ differences s v word)
fill_right {s} {word} {places} {scratch} tests few stored f =
    let p = passed s word places scratch tests in
    decision_right p.law few (rising_places p.rises) stored (f.decided tests).0

-- ---- wrong symbols that are not listed
-- where the positions that are listed or wrong are fewer than codewords are apart, no other codeword agrees
pub never_another : (s : Shape) → Lawful s → (word places v : List ℕ) → Codeword s v
    → count (word_length s) (λ j. is_listed places j || not (eqb (at v j) (at word j))) < minimum_distance s.n → (u : List ℕ) → Agrees s word places u → u ≡ v
never_another s law word places v stored few u a =
    (few_unambiguous s law (λ j. is_listed places j || not (eqb (at v j) (at word j))) few).one u v a.codeword stored
    (λ j l off.
    let (unlisted, right) = or_no (is_listed places j) (not (eqb (at v j) (at word j))) off in
    a.same j l unlisted ∙ sym (eqb-true _ _ (not-false _ right)))

-- ---- no places
-- what agrees with the word is the word
agrees_word : (s : Shape) (word v : List ℕ) → length word ≡ word_length s → Agrees s word [] v → v ≡ word
unfolding is_listed any
agrees_word s word v size a = ext_get_or 0 v word (a.codeword.word.size ∙ sym size) (λ j l. a.same j (rw a.codeword.word.size at l) refl)

word_agrees : {s : Shape} {word : List ℕ} → Codeword s word → Agrees s word [] word
word_agrees c = record { codeword = c; same = λ j l n. refl }

differences_none : (s : Shape) (w : List ℕ) → differences s w w ≡ 0
unfolding differences
differences_none s w = count_none (word_length s) (λ j. not (eqb (at w j) (at w j))) (λ j l. ap not (eq-eqb (at w j) (at w j) refl))

-- a codeword is left and nothing changed; of any other word none agrees
pub record Emptied (s : Shape) (word word' : List ℕ) (r : Result ℕ Refusal) : Type 0 where
  pub left : word' ≡ word
  pub codeword : Codeword s word → r ≡ Ok 0
  pub other : (Codeword s word → ⊥) → r ≡ Err Refusal.Unfillable

empty_decision : {s : Shape} {word word' : List ℕ} {r : Result ℕ Refusal} → length word ≡ word_length s → Decision s word [] word' r → Emptied s word word' r
empty_decision {s} {word} {word'} size (inl a) =
    let e : word' ≡ word = agrees_word s word word' size a.agrees in
    record {
      left = e;
      codeword = λ c. a.answer ∙ ap Ok (ap (λ (v : List ℕ). differences s v word) e ∙ differences_none s word);
      other = λ no. absurd (no (subst (Codeword s) e a.agrees.codeword));
    }
empty_decision {word = word} size (inr (inl a)) = record {
  left = a.left;
  codeword = λ c. absurd (a.none word (word_agrees c));
  other = λ no. a.answer;
}
empty_decision {s} {word} size (inr (inr a)) =
    absurd (a.different (agrees_word s word a.one size a.agrees ∙ sym (agrees_word s word a.another size a.agrees_too)))

pub empty_fill : {s : Shape} {word scratch word' scratch' : List ℕ} {r : Result ℕ Refusal} → fill_status s word [] scratch ≡ Ok tt
    → Filling s word [] scratch word' scratch' r → Emptied s word word' r
empty_fill {s} {word} {scratch} tests f = empty_decision (passed s word [] scratch tests).came.size (f.decided tests).0
