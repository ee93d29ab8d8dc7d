-- Restoring leaves one answer and one word; with few places it never leaves a choice, and undoes any damage on them and on as many others as are in reach;
-- with none, what is in reach is within n - 1 symbols; and what filling in accepts it answers the same.
use mathlib.Core.Path.{◌≡◌, refl, sym, ap, ◌∙◌}
use mathlib.Core.Bool.{Bool, not, ◌&&◌}
use mathlib.Core.List.{List, []}
use mathlib.Core.Logic.{inl, inr, ⊎_elim}
use Prim.Native.Nat.{ℕ, ◌-◌, ◌*◌, ◌<◌, ◌≤◌}
use native.Mathlib.Decide.{dec_lt}
use native.Mathlib.Omega.{arith}
use lib.Dec.{eqb}
use lib.ListN.{length, replicate}
use Rattle.parity.specs.Count.{any}
use Rattle.parity.proofs.Xors.{comm}
use Rattle.parity.proofs.Sums.{count_cong}
use Rattle.gtb.specs.declared.Shape.{Shape}
use Rattle.gtb.specs.declared.Refusal.{Refusal}
use Rattle.std.specs.Prelude.{Result, Ok, Err}
use Rattle.gtb.specs.Shape.{Lawful, word_length}
use Rattle.gtb.specs.Square.{at, Word, Codeword}
use Rattle.gtb.proofs.Answers.{never_refused, other_refusal}
use Rattle.gtb.proofs.Bounds.{bounds}
use Rattle.gtb.proofs.Crossing.{eqb_xor}
use Rattle.distance.specs.Distance.{differences, minimum_distance, Near}
use Rattle.gtb.specs.Answer.{answer_number}
use Rattle.correction.specs.Error.{weight, damaged}
use Rattle.correction.proofs.Near.{damaged_error}
use Rattle.erasure.specs.Fill.{is_listed, fill_status, Decision, Filling}
use Rattle.erasure.specs.Steps.{Places}
use Rattle.erasure.proofs.Lists.{rising_places}
use Rattle.erasure.proofs.Answers.{status_cases, tested_unique}
use Rattle.erasure.proofs.Filling.{passed, never_ambiguous, never_both, refused_same}
use Rattle.restore.specs.Restore.{reach, weight_beside, strays, Reaches, Restored, SeveralReach, Judgement, Recovering}
use Rattle.restore.proofs.Straying.{agrees_close}
use Rattle.restore.proofs.Judging.{reach_half, reaches_agrees, close_unique}

-- ---- one answer and one word
module _ {s : Shape} {word places w₁ w₂ : List ℕ} {r₁ r₂ : Result ℕ Refusal} where
  one_one : Restored s word places w₁ r₁ → Restored s word places w₂ r₂ → (r₁ ≡ r₂) × (w₁ ≡ w₂)
  one_one a b =
      let e : w₁ ≡ w₂ = b.only w₁ a.reaches in
      (a.answer ∙ ap (λ (v : List ℕ). Ok (differences s v word)) e ∙ sym b.answer, e)

  one_several : Restored s word places w₁ r₁ → SeveralReach s word places w₂ r₂ → ⊥
  one_several a b = b.different (a.only b.one b.reaches ∙ sym (a.only b.another b.reaches_too))

judgement_unique : {s : Shape} {word places w₁ w₂ : List ℕ} {r₁ r₂ : Result ℕ Refusal} → Judgement s word places w₁ r₁ → Judgement s word places w₂ r₂
    → (r₁ ≡ r₂) × (w₁ ≡ w₂)
judgement_unique (inl a) (inl b) = one_one a b
judgement_unique {w₁ = w₁} (inl a) (inr (inl b)) = absurd (b.none w₁ a.reaches)
judgement_unique (inl a) (inr (inr b)) = absurd (one_several a b)
judgement_unique {w₂ = w₂} (inr (inl a)) (inl b) = absurd (a.none w₂ b.reaches)
judgement_unique (inr (inl a)) (inr (inl b)) = (a.answer ∙ sym b.answer, a.left ∙ sym b.left)
judgement_unique (inr (inl a)) (inr (inr b)) = absurd (a.none b.one b.reaches)
judgement_unique (inr (inr a)) (inl b) = absurd (one_several b a)
judgement_unique (inr (inr a)) (inr (inl b)) = absurd (b.none a.one a.reaches)
judgement_unique (inr (inr a)) (inr (inr b)) = (a.answer ∙ sym b.answer, a.left ∙ sym b.left)

pub recovering_unique : {s : Shape} {word places scratch w₁ w₂ x₁ x₂ : List ℕ} {r₁ r₂ : Result ℕ Refusal} → Recovering s word places scratch w₁ x₁ r₁
    → Recovering s word places scratch w₂ x₂ r₂ → (r₁ ≡ r₂) × (w₁ ≡ w₂) × (x₁ ≡ x₂)
recovering_unique = tested_unique judgement_unique

-- ---- few places leave no choice
module _ {s : Shape} {word places : List ℕ} (law : Lawful s) (few : length places < minimum_distance s.n) (h : Places (word_length s) places) where
  reaches_unique : {v u : List ℕ} → Reaches s word places v → Reaches s word places u → v ≡ u
  unfolding minimum_distance
  reaches_unique = close_unique s law h (reach_half s (length places) few)

  no_choice : {word' : List ℕ} {r : Result ℕ Refusal} → Judgement s word places word' r → r ≡ Err Refusal.Ambiguous → ⊥
  no_choice {r = r} (inl a) e = never_both _ _ r a.answer e
  no_choice {r = r} (inr (inl a)) e = other_refusal Refusal.Far Refusal.Ambiguous refl (refused_same _ _ r a.answer e)
  no_choice (inr (inr a)) e = a.different (reaches_unique a.reaches a.reaches_too)

  judgement_right : {word' v : List ℕ} {r : Result ℕ Refusal} → Reaches s word places v → Judgement s word places word' r
      → (r ≡ Ok (differences s v word)) × (word' ≡ v) × (answer_number r ≡ differences s v word)
  judgement_right {v = v} stored (inl a) = rw (a.only v stored) (a.answer, refl, a.number)
  judgement_right {v = v} stored (inr (inl a)) = absurd (a.none v stored)
  judgement_right stored (inr (inr a)) = absurd (no_choice (inr (inr a)) a.answer)

-- with fewer places than codewords are apart the answer is never 14: up to 2 n - 1 places
pub never_several : {s : Shape} {word places scratch word' scratch' : List ℕ} {r : Result ℕ Refusal} → Lawful s → length places < minimum_distance s.n
    → Recovering s word places scratch word' scratch' r → r ≡ Err Refusal.Ambiguous → ⊥
never_several law few = never_ambiguous (λ p. no_choice law few (rising_places p.rises))

-- ---- the codeword that was stored comes back
pub restore_right : {s : Shape} {word places scratch word' scratch' v : List ℕ} {r : Result ℕ Refusal} → fill_status s word places scratch ≡ Ok tt
    → length places < minimum_distance s.n → Reaches s word places v → Recovering s word places scratch word' scratch' r
    → (r ≡ Ok (differences s v word)) × (word' ≡ v) × (answer_number r ≡ differences s v word)
restore_right {s} {word} {places} {scratch} tests few stored f =
    let p = passed s word places scratch tests in
    judgement_right p.law few (rising_places p.rises) stored (f.decided tests).0

-- and that is an answer that the contract allows
pub recovering_there : {s : Shape} {word places scratch v : List ℕ} → fill_status s word places scratch ≡ Ok tt → length places < minimum_distance s.n
    → Reaches s word places v → Recovering s word places scratch v (replicate (length scratch) 0) (Ok (differences s v word))
recovering_there {s} {word} {places} {scratch} {v} tests few stored =
    let p = passed s word places scratch tests in
    record {
      tested = λ e h. absurd (never_refused e (sym tests ∙ h));
      decided = λ h. (
        inl (record { reaches = stored; only = λ u a. reaches_unique p.law few (rising_places p.rises) a stored; answer = refl; number = refl }),
        refl,
      );
    }

-- any damage on the listed places, and on as many others as are in reach
pub damage_reaches : (s : Shape) (v e places : List ℕ) → Codeword s v → Word s e
    → weight_beside s places (at e) ≤ reach s (length places) → Reaches s (damaged v e) places v
unfolding strays weight_beside
damage_reaches s v e places hv he few = record {
  codeword = hv;
  few =
      omega (
        arith,
        count_cong (word_length s) (λ j. not (is_listed places j) && not (eqb (at v j) (at (damaged v e) j))) (λ j. not (is_listed places j) && not (eqb (at e j) 0))
            (λ j l.
            ap (λ (b : Bool). not (is_listed places j) && not b)
            (sym (eqb_xor (at v j) (at (damaged v e) j)) ∙ ap (λ (x : ℕ). eqb x 0) (comm (at v j) (at (damaged v e) j) ∙ damaged_error s v e hv.word he j l))),
      );
}

-- ---- what filling in accepts
module _ {s : Shape} {word places w₁ w₂ : List ℕ} {r₁ r₂ : Result ℕ Refusal} (law : Lawful s) (list : Places (word_length s) places) where
  decisions_agree : {c : ℕ} → Decision s word places w₁ r₁ → r₁ ≡ Ok c → Judgement s word places w₂ r₂ → (r₂ ≡ Ok c) × (w₂ ≡ w₁)
  unfolding minimum_distance
  decisions_agree (inl a) h (inl b) =
      let e : w₁ ≡ w₂ = b.only w₁ (agrees_close _ a.agrees) in
      (b.answer ∙ ap (λ (v : List ℕ). Ok (differences s v word)) (sym e) ∙ sym a.answer ∙ h, sym e)
  decisions_agree (inl a) h (inr (inl b)) = absurd (b.none w₁ (agrees_close _ a.agrees))
  decisions_agree (inl a) h (inr (inr b)) =
      elim (dec_lt (length places) (2 * s.n)) [
        | yes few ↦ absurd (b.different (reaches_unique law few list b.reaches b.reaches_too))
        | no many ↦
            let l : 2 * s.n ≤ length places = omega arith in
            absurd (b.different (a.only b.one (reaches_agrees l b.reaches) ∙ sym (a.only b.another (reaches_agrees l b.reaches_too))))
      ]
  decisions_agree (inr (inl a)) h b = absurd (never_both _ _ r₁ h a.answer)
  decisions_agree (inr (inr a)) h b = absurd (never_both _ _ r₁ h a.answer)

-- is answered with the same number and the same word
pub accepts_filled : {s : Shape} {word places scratch w₁ w₂ x₁ x₂ : List ℕ} {r₁ r₂ : Result ℕ Refusal} {c : ℕ} → Filling s word places scratch w₁ x₁ r₁ → r₁ ≡ Ok c
    → Recovering s word places scratch w₂ x₂ r₂ → (r₂ ≡ Ok c) × (w₂ ≡ w₁)
accepts_filled {s} {word} {places} {scratch} {r₁ = r₁} f e g =
    ⊎_elim
    (λ (h : (e : Refusal) × (fill_status s word places scratch ≡ Err e)). absurd (never_both _ _ r₁ e (f.tested h.0 h.1).0))
    (λ (h : fill_status s word places scratch ≡ Ok tt).
    let p = passed s word places scratch h in
    decisions_agree p.law (rising_places p.rises) (f.decided h).0 e (g.decided h).0)
    (status_cases (fill_status s word places scratch))

-- ---- no places
-- n - 1 symbols are in reach, wherever they are: what `decode_nearest` looks for
module _ (s : Shape) (word : List ℕ) (law : Lawful s) where
  pub empty_reach : reach s 0 ≡ s.n - 1
  unfolding reach
  empty_reach = omega (arith, (bounds s law).n2)

  pub empty_strays : (v : List ℕ) → strays s word [] v ≡ differences s v word
  unfolding strays differences is_listed any
  empty_strays v = refl

  pub empty_weight : (e : ℕ → ℕ) → weight_beside s [] e ≡ weight s e
  unfolding weight_beside weight is_listed any
  empty_weight e = refl

  pub reaches_near : {v : List ℕ} → Word s word → Reaches s word [] v → Near s (s.n - 1) word v (differences s v word)
  reaches_near {v} hw a = record { word = hw; codeword = a.codeword; changed = refl; few = omega (arith, a.few, empty_strays v, empty_reach) }

  pub near_reaches : {v : List ℕ} {k : ℕ} → Near s (s.n - 1) word v k → Reaches s word [] v
  near_reaches {v} x = record { codeword = x.codeword; few = omega (arith, x.few, x.changed, empty_strays v, empty_reach) }
