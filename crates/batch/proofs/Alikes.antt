-- A bundle looks at the first n - 1 slopes of the session's shape alone, and refuses the scratch of before N7.
use mathlib.Core.Path.{◌≡◌, refl, sym, ap, ◌∙◌}
use mathlib.Core.Bool.{false}
use mathlib.Core.List.{List, ◌∷◌, [], ◌++◌}
use Prim.Native.Nat.{ℕ, zero, suc, ◌+◌, ◌*◌, ◌/◌}
use lib.Dec.{eqb}
use lib.ListN.{length}
use borrow.Author.Tests.{ne_eqb}
use Rattle.parity.proofs.Tests.{and_no_right}
use Rattle.gtb.specs.declared.Shape.{Shape}
use Rattle.gtb.specs.declared.Refusal.{Refusal}
use Rattle.std.specs.Prelude.{Result, Ok, Err}
use Rattle.gtb.specs.Shape.{kept_checks, scratch_length}
use Rattle.gtb.specs.Answer.{unless}
use Rattle.gtb.specs.Alike.{reslope, Alike}
use Rattle.gtb.proofs.Kept.{old_scratch}
use Rattle.session.specs.declared.Session.{Session}
use Rattle.session.specs.Session.{past}
use Rattle.session.specs.Arrival.{the_ways, arrival_status, word_after}
use Rattle.session.specs.Recording.{Arrival}
use Rattle.session.specs.Claim.{answer_at}
use Rattle.session.proofs.Ways.{all_read}
use Rattle.session.proofs.Arrive.{admitted}
use Rattle.session.proofs.Alikes.{resloped, arrival_status_alike, run_alike}
use Rattle.batch.specs.declared.Delivered.{Delivered}
use Rattle.batch.specs.Batch.{words_in, whole_run, word_at, all_fit, batch_status, arrival_of, first_arrivals, Arrivals, Batching}

first_alike : (s : Shape) (slopes : List ℕ) (k : ℕ) (words scratch : List ℕ) (m : ℕ)
    → first_arrivals (reslope s slopes) k words scratch m ≡ first_arrivals s k words scratch m
unfolding first_arrivals
first_alike s slopes k words scratch zero = refl
first_alike s slopes k words scratch (suc m) = ap (λ (xs : List Arrival). xs ++ (arrival_of s k words scratch m ∷ [])) (first_alike s slopes k words scratch m)

module _ (σ : Session) (slopes : List ℕ) (alike : Alike σ.shape slopes) (k : ℕ) (words scratch : List ℕ) where
  pub batch_status_alike : (outcomes : List ℕ) → batch_status (resloped σ slopes) k words scratch outcomes ≡ batch_status σ k words scratch outcomes
  unfolding batch_status whole_run scratch_length kept_checks
  batch_status_alike outcomes =
      ap (λ (t : Result (Unit {0}) Refusal). past t Err (unless (all_fit σ.shape words scratch outcomes) (Err Refusal.Length) (Ok tt))) (arrival_status_alike σ slopes alike k)

  arrivals_alike : {words' scratch' outcomes' : List ℕ} {end : Session} → Arrivals σ k words scratch words' scratch' outcomes' end
      → Arrivals (resloped σ slopes) k words scratch words' scratch' outcomes' (resloped end slopes)
  arrivals_alike a = record {
    answers = a.answers;
    run = rw (first_alike σ.shape slopes k words scratch (words_in σ.shape words)) (run_alike slopes alike a.run);
    size = a.size;
    word = λ i l.
        a.word i l
        ∙ ap (λ (v : List ℕ). word_after (word_at σ.shape words i) v (answer_at a.answers i)) (sym ((all_read k).same_word σ.shape slopes alike (word_at σ.shape words i)));
    outcomes_left = a.outcomes_left;
    scratch_left = a.scratch_left;
  }

  -- the same answer, words and outcomes, and the session but for these slopes
  pub batch_alike : {outcomes words' scratch' outcomes' : List ℕ} {r : Delivered} → Batching σ k words scratch outcomes words' scratch' outcomes' r
      → Batching (resloped σ slopes) k words scratch outcomes words' scratch' outcomes' (record { session = resloped r.session slopes; status = r.status })
  batch_alike {outcomes} b = record {
    status = b.status ∙ sym (batch_status_alike outcomes);
    refused = λ e is. let (same, left, lent, list) = b.refused e is in (ap (λ (τ : Session). resloped τ slopes) same, left, lent, list);
    done = λ is. arrivals_alike (b.done is);
  }

-- ---- the scratch of before N7
pub batch_old : (σ : Session) (k : ℕ) (words scratch outcomes : List ℕ) → arrival_status the_ways σ k ≡ Ok tt
    → length scratch ≡ σ.shape.n * σ.shape.q * ((σ.shape.q * σ.shape.q + 31) / 32)
    → batch_status σ k words scratch outcomes ≡ Err Refusal.Length
unfolding batch_status
batch_old σ k words scratch outcomes passed e =
    let s : Shape = σ.shape in
    let wrong : eqb (length scratch) (scratch_length s) ≡ false = ne_eqb _ _ (λ z. old_scratch s (admitted σ k passed).lawful (sym e ∙ z)) in
    rw (passed, and_no_right (whole_run s words) wrong)
