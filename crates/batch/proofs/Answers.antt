-- The answers to the whole call, and that the contract leaves one answer, one session and one of each slice.
use mathlib.Core.Path.{◌≡◌, refl, sym, ap, ap₂, ◌∙◌}
use mathlib.Core.Bool.{◌&&◌}
use mathlib.Core.List.{List}
use Prim.Native.Nat.{ℕ}
use lib.Dec.{eqb}
use lib.ListN.{length}
use borrow.Author.Tests.{eqb-true}
use Rattle.parity.proofs.Tests.{and_left, and_right}
use Rattle.gtb.specs.declared.Refusal.{Refusal}
use Rattle.std.specs.Prelude.{Result, Ok, Err}
use Rattle.gtb.specs.Shape.{word_length, scratch_length}
use Rattle.gtb.proofs.Answers.{never_done, never_refused, unless_done}
use Rattle.session.specs.declared.Session.{Session}
use Rattle.session.specs.declared.Outcome.{Outcome}
use Rattle.session.specs.Arrival.{way_of, the_ways, arrival_status, word_after}
use Rattle.session.specs.Claim.{answer_at}
use Rattle.session.proofs.Arrive.{past_done, admitted}
use Rattle.session.proofs.Demand.{run_unique}
use Rattle.batch.specs.declared.Delivered.{Delivered}
use Rattle.batch.specs.Batch.{words_in, whole_run, all_fit, word_at, batch_status, values_of, Arrivals, Batching}
use Rattle.batch.specs.Steps.{Tested}
use Rattle.batch.proofs.Runs.{run_words, same_words}

module _ (σ : Session) (k : ℕ) (words scratch outcomes : List ℕ) where
  -- not turned down: all tests were passed
  pub status_tested : batch_status σ k words scratch outcomes ≡ Ok tt → Tested σ k words scratch outcomes
  unfolding batch_status
  status_tested h =
      let (passed, h₁) = past_done (arrival_status the_ways σ k) _ h in
      let (fit, h₂) = unless_done (all_fit σ.shape words scratch outcomes) _ _ h₁ in
      let two = and_left (whole_run σ.shape words && eqb (length scratch) (scratch_length σ.shape)) (eqb (length outcomes) 192) fit in
      record {
        admitted = admitted σ k passed;
        run = and_left (whole_run σ.shape words) (eqb (length scratch) (scratch_length σ.shape)) two;
        scratch_size = eqb-true _ _ (and_right (whole_run σ.shape words) (eqb (length scratch) (scratch_length σ.shape)) two);
        outcomes_size = eqb-true _ _ (and_right (whole_run σ.shape words && eqb (length scratch) (scratch_length σ.shape)) (eqb (length outcomes) 192) fit);
      }

  -- ---- the two answers
  pub batching_refused : {r : Delivered} (e : Refusal) → batch_status σ k words scratch outcomes ≡ Err e → r.session ≡ σ → r.status ≡ Err e
      → Batching σ k words scratch outcomes words scratch outcomes r
  batching_refused e h same is = record {
    status = is ∙ sym h;
    refused = λ e' h'. (same, refl, refl, refl);
    done = λ h'. absurd (never_done e (sym is ∙ h'));
  }

  pub batching_done : {r : Delivered} {words' scratch' outcomes' : List ℕ} → batch_status σ k words scratch outcomes ≡ Ok tt → r.status ≡ Ok tt
      → Arrivals σ k words scratch words' scratch' outcomes' r.session → Batching σ k words scratch outcomes words' scratch' outcomes' r
  batching_done h is arrivals = record {
    status = is ∙ sym h;
    refused = λ e h'. absurd (never_refused e (sym is ∙ h'));
    done = λ h'. arrivals;
  }

-- ---- there is one answer
module _ {σ : Session} {k : ℕ} {words scratch outcomes : List ℕ} {words₁ scratch₁ outcomes₁ words₂ scratch₂ outcomes₂ : List ℕ} where
  -- so with all that the arrivals leave
  arrivals_unique : {end₁ end₂ : Session} → Tested σ k words scratch outcomes → Arrivals σ k words scratch words₁ scratch₁ outcomes₁ end₁ → Arrivals σ k words scratch words₂ scratch₂ outcomes₂ end₂
      → (end₁ ≡ end₂) × (words₁ ≡ words₂) × (scratch₁ ≡ scratch₂) × (outcomes₁ ≡ outcomes₂)
  arrivals_unique tested a b =
      let (answers, ends) = run_unique a.run b.run in
      let whole = run_words σ.shape tested.admitted.lawful words tested.run in
      let word : ℕ → List Outcome → List ℕ = λ i rs. word_after (word_at σ.shape words i) ((way_of k).word σ.shape (word_at σ.shape words i)) (answer_at rs i) in (
        ends,
        same_words (word_length σ.shape) words₁ words₂ (words_in σ.shape words) (a.size ∙ whole.size) (b.size ∙ whole.size)
            (λ i l. a.word i l ∙ ap (word i) answers ∙ sym (b.word i l)),
        a.scratch_left ∙ sym b.scratch_left,
        a.outcomes_left ∙ ap values_of answers ∙ sym b.outcomes_left,
      )

  unique_by : {r₁ r₂ : Delivered} (answer : Result (Unit {0}) Refusal) → batch_status σ k words scratch outcomes ≡ answer
      → Batching σ k words scratch outcomes words₁ scratch₁ outcomes₁ r₁ → Batching σ k words scratch outcomes words₂ scratch₂ outcomes₂ r₂
      → (r₁.session ≡ r₂.session) × (words₁ ≡ words₂) × (scratch₁ ≡ scratch₂) × (outcomes₁ ≡ outcomes₂)
  unique_by (Ok tt) h a b = arrivals_unique (status_tested σ k words scratch outcomes h) (a.done (a.status ∙ h)) (b.done (b.status ∙ h))
  unique_by (Err e) h a b =
      let x = a.refused e (a.status ∙ h) in
      let y = b.refused e (b.status ∙ h) in
      (x.0 ∙ sym y.0, x.1 ∙ sym y.1, x.2 ∙ sym y.2, x.3 ∙ sym y.3)

  pub batching_unique : {r₁ r₂ : Delivered} → Batching σ k words scratch outcomes words₁ scratch₁ outcomes₁ r₁ → Batching σ k words scratch outcomes words₂ scratch₂ outcomes₂ r₂
      → (r₁ ≡ r₂) × (words₁ ≡ words₂) × (scratch₁ ≡ scratch₂) × (outcomes₁ ≡ outcomes₂)
  batching_unique a b =
      let u = unique_by (batch_status σ k words scratch outcomes) refl a b in
      (ap₂ (λ (τ : Session) (answer : Result (Unit {0}) Refusal). record { session = τ; status = answer }) u.0 (a.status ∙ sym b.status), u.1, u.2, u.3)
