-- The tests, then the work, whatever is decided there.
use mathlib.Core.Path.{◌≡◌, refl, sym, ap, ◌∙◌}
use mathlib.Core.Bool.{Bool, true, false, ◌&&◌}
use mathlib.Core.List.{List}
use mathlib.Core.Logic.{◌⊎◌, inl, inr, ⊎_elim}
use Prim.Native.Nat.{ℕ}
use lib.Dec.{eqb}
use lib.ListN.{length, replicate}
use borrow.Author.Tests.{eqb-true}
use Rattle.parity.proofs.Tests.{and_left, and_right}
use Rattle.gtb.specs.declared.Shape.{Shape}
use Rattle.gtb.specs.declared.Refusal.{Refusal}
use Rattle.std.specs.Prelude.{Result, Ok, Err}
use Rattle.gtb.specs.Shape.{lawful, Lawful, shape_refusal, word_length, scratch_length}
use Rattle.gtb.specs.Square.{narrow, Word}
use Rattle.gtb.specs.Answer.{unless, scratch_after, answer_number}
use Rattle.gtb.proofs.Words.{narrow_word}
use Rattle.gtb.proofs.Answers.{same_refusal, never_done, never_refused, shape_scratch}
use Rattle.erasure.specs.Fill.{rising, fill_status, TestedFirst}
use Rattle.erasure.specs.Steps.{Places, length_tests, value_tests, LateTests}
use Rattle.erasure.proofs.Lists.{rising_places}

-- ---- what holds of the work holds of the whole
pub status_cases : (t : Result (Unit {0}) Refusal) → ((e : Refusal) × (t ≡ Err e)) ⊎ (t ≡ Ok tt)
status_cases (Ok tt) = inr refl
status_cases (Err e) = inl (e, refl)

-- where the work leaves one answer and one word
pub tested_unique : {Decided Decided' : Type 0} {s : Shape} {word places scratch w₁ w₂ x₁ x₂ : List ℕ} {r₁ r₂ : Result ℕ Refusal}
    → (Decided → Decided' → (r₁ ≡ r₂) × (w₁ ≡ w₂)) → TestedFirst Decided s word places scratch w₁ x₁ r₁ → TestedFirst Decided' s word places scratch w₂ x₂ r₂
    → (r₁ ≡ r₂) × (w₁ ≡ w₂) × (x₁ ≡ x₂)
tested_unique {s = s} {word = word} {places = places} {scratch = scratch} one f g =
    ⊎_elim
    (λ (h : (e : Refusal) × (fill_status s word places scratch ≡ Err e)).
    let (rf, nf, wf, xf) = f.tested h.0 h.1 in
    let (rg, ng, wg, xg) = g.tested h.0 h.1 in
    (rf ∙ sym rg, wf ∙ sym wg, xf ∙ sym xg))
    (λ (h : fill_status s word places scratch ≡ Ok tt).
    let (df, xf) = f.decided h in
    let (dg, xg) = g.decided h in
    let (r, w) = one df dg in
    (r, w, xf ∙ sym xg))
    (status_cases (fill_status s word places scratch))

-- ---- tests 1, 18 and 2, and what follows them
abbrev early : Refusal → Bool → Bool → Result (Unit {0}) Refusal → Result (Unit {0}) Refusal
early refusal a b next = unless a (Err refusal) (unless b (Err Refusal.Length) next)

early_refuses : (refusal : Refusal) (a b : Bool) (next : Result (Unit {0}) Refusal) {e : Refusal} → early refusal a b (Ok tt) ≡ Err e → early refusal a b next ≡ Err e
early_refuses refusal true true next {e} h = absurd (never_refused e h)
early_refuses refusal true false next h = h
early_refuses refusal false b next h = h

early_passed : (refusal : Refusal) (a b : Bool) (next : Result (Unit {0}) Refusal) → early refusal a b (Ok tt) ≡ Ok tt
    → (a ≡ true) × (b ≡ true) × (early refusal a b next ≡ next)
early_passed refusal true true next h = (refl, refl, refl)
early_passed refusal true false next h = absurd (never_done Refusal.Length h)
early_passed refusal false b next h = absurd (never_done refusal h)

early_scratch : (refusal : Refusal) (a b : Bool) (scratch : List ℕ) {e : Refusal} → scratch ≡ scratch_after refusal scratch → early refusal a b (Ok tt) ≡ Err e
    → scratch ≡ scratch_after e scratch
unfolding scratch_after
early_scratch refusal true true scratch {e} kept h = absurd (never_refused e h)
early_scratch refusal true false scratch {e} kept h = ap (λ (x : Refusal). scratch_after x scratch) (same_refusal Refusal.Length e h)
early_scratch refusal false b scratch {e} kept h = kept ∙ ap (λ (x : Refusal). scratch_after x scratch) (same_refusal refusal e h)

-- ---- tests 3 and 12
abbrev late : Bool → Bool → Result (Unit {0}) Refusal
late a b = unless a (Err Refusal.Width) (unless b (Err Refusal.Places) (Ok tt))

late_scratch : (a b : Bool) (scratch : List ℕ) {e : Refusal} → late a b ≡ Err e → replicate (length scratch) 0 ≡ scratch_after e scratch
unfolding scratch_after
late_scratch true true scratch {e} h = absurd (never_refused e h)
late_scratch true false scratch {e} h = ap (λ (x : Refusal). scratch_after x scratch) (same_refusal Refusal.Places e h)
late_scratch false b scratch {e} h = ap (λ (x : Refusal). scratch_after x scratch) (same_refusal Refusal.Width e h)

late_passed : (a b : Bool) → late a b ≡ Ok tt → (a ≡ true) × (b ≡ true)
late_passed true true h = (refl, refl)
late_passed true false h = absurd (never_done Refusal.Places h)
late_passed false b h = absurd (never_done Refusal.Width h)

pub values_passed : (s : Shape) (word places : List ℕ) → length word ≡ word_length s → value_tests s word places ≡ Ok tt → Word s word × Places (word_length s) places
unfolding value_tests
values_passed s word places size h =
    let p = late_passed (narrow s.b word) (rising (word_length s) places) h in
    (narrow_word s word size p.0, rising_places p.1)

-- ---- both
module _ (s : Shape) (word scratch : List ℕ) where
  abbrev fitting : Bool
  fitting = eqb (length word) (word_length s) && eqb (length scratch) (scratch_length s)

  pub lengths_passed : length_tests s word scratch ≡ Ok tt → Lawful s × (length word ≡ word_length s) × (length scratch ≡ scratch_length s)
  unfolding length_tests
  lengths_passed h =
      let p = early_passed (shape_refusal s) (lawful s) fitting (Ok tt) h in
      (p.0, eqb-true _ _ (and_left _ _ p.1), eqb-true _ _ (and_right (eqb (length word) (word_length s)) _ p.1))

  pub refuses : {Decided : Type 0} {places : List ℕ} {e : Refusal} → length_tests s word scratch ≡ Err e → TestedFirst Decided s word places scratch word scratch (Err e)
  unfolding length_tests value_tests fill_status
  refuses {places = places} {e} h = record {
    tested = λ d t.
        let same : e ≡ d = same_refusal e d (sym (early_refuses (shape_refusal s) (lawful s) fitting (value_tests s word places) h) ∙ t) in
        (ap Err same, ap (λ (x : Refusal). answer_number (Err x)) same, refl, early_scratch (shape_refusal s) (lawful s) fitting scratch (shape_scratch s scratch) h ∙ ap (λ (x : Refusal). scratch_after x scratch) same);
    decided = λ t. absurd (never_done e (sym (early_refuses (shape_refusal s) (lawful s) fitting (value_tests s word places) h) ∙ t));
  }

  pub decides : {Decided : Type 0} {places word' scratch' : List ℕ} {r : Result ℕ Refusal} → length_tests s word scratch ≡ Ok tt → LateTests Decided s word places word' r
      → scratch' ≡ replicate (length scratch) 0 → TestedFirst Decided s word places scratch word' scratch' r
  unfolding length_tests value_tests fill_status
  decides {places = places} h work cleared = record {
    tested = λ e t.
        let late : value_tests s word places ≡ Err e = sym (early_passed (shape_refusal s) (lawful s) fitting (value_tests s word places) h).2 ∙ t in
        let p = work.tested e late in
        (p.0, ap answer_number p.0, p.1, cleared ∙ late_scratch (narrow s.b word) (rising (word_length s) places) scratch late);
    decided = λ t. (work.decided (sym (early_passed (shape_refusal s) (lawful s) fitting (value_tests s word places) h).2 ∙ t), cleared);
  }

-- ---- what the steps past test 2 give
pub answers_refused : {Decided : Type 0} {s : Shape} {word places : List ℕ} {e : Refusal} → value_tests s word places ≡ Err e → LateTests Decided s word places word (Err e)
answers_refused {e = e} h = record { tested = λ d t. (ap Err (same_refusal e d (sym h ∙ t)), refl); decided = λ t. absurd (never_done e (sym h ∙ t)) }

pub answers_decided : {Decided : Type 0} {s : Shape} {word places word' : List ℕ} {r : Result ℕ Refusal} → value_tests s word places ≡ Ok tt → Decided
    → LateTests Decided s word places word' r
answers_decided h d = record { tested = λ e t. absurd (never_done e (sym t ∙ h)); decided = λ t. d }
