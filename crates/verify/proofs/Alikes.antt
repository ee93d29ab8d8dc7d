-- A check of a proposal looks at the first n - 1 slopes alone; so do arrivals of proposals.
use mathlib.Core.Path.{◌≡◌, ap, ◌∙◌}
use mathlib.Core.Bool.{not, ◌&&◌, ◌||◌}
use mathlib.Core.List.{List}
use mathlib.Core.Logic.{inl, inr, ⊎_elim}
use Prim.Native.Nat.{ℕ, ◌-◌}
use lib.Dec.{eqb, leb}
use lib.ListN.{length}
use Rattle.parity.proofs.Tests.{all_cong}
use Rattle.gtb.specs.declared.Shape.{Shape}
use Rattle.gtb.specs.declared.Refusal.{Refusal}
use Rattle.gtb.specs.Shape.{word_length}
use Rattle.gtb.specs.Square.{at, narrow, syndrome}
use Rattle.gtb.specs.Answer.{unless}
use Rattle.gtb.specs.Alike.{reslope, Alike}
use Rattle.gtb.proofs.Alikes.{lawful_alike, refusal_alike, line_alike, syndrome_alike, silent_alike}
use Rattle.correction.specs.Error.{weight}
use Rattle.session.specs.declared.Session.{Session}
use Rattle.session.specs.declared.Outcome.{Outcome}
use Rattle.session.specs.Arrival.{the_ways}
use Rattle.session.specs.Recording.{Arrival, arrival_at}
use Rattle.session.specs.Claim.{Run}
use Rattle.std.specs.Prelude.{Ok, Err}
use Rattle.verify.specs.Verify.{difference, unmasked_test, restores, verdict_of}
use Rattle.verify.specs.Proposals.{Replaced, Proposed, AnswersAlike}
use Rattle.verify.proofs.Proposals.{proposals_alike}

module _ (s : Shape) (slopes : List ℕ) (alike : Alike s slopes) where
  unmasked_alike : (e : ℕ → ℕ) → unmasked_test (reslope s slopes) e ≡ unmasked_test s e
  unfolding unmasked_test
  unmasked_alike e =
      all_cong s.n _ _
      (λ t lt.
      all_cong (word_length s) _ _
      (λ j lj. ap (λ (x : ℕ). eqb (e j) 0 || not (eqb x 0)) (syndrome_alike s slopes alike e t _ lt ∙ ap (syndrome s e t) (line_alike s slopes alike t j lt))))

  restores_alike : (w v : List ℕ) → restores (reslope s slopes) w v ≡ restores s w v
  unfolding restores weight
  restores_alike w v = λ i.
      silent_alike s slopes alike (at v) i && leb (weight s (difference w v)) (s.n - 1) && unmasked_alike (difference w v) i

  pub check_alike : (w v : List ℕ) → verdict_of (reslope s slopes) w v ≡ verdict_of s w v
  unfolding verdict_of
  check_alike w v = λ i.
      unless (lawful_alike s slopes alike i) (Err (refusal_alike s slopes alike i))
      (unless (eqb (length w) (word_length s) && eqb (length v) (word_length s)) (Err Refusal.Length)
      (unless (narrow s.b w && narrow s.b v) (Err Refusal.Width)
      (Ok (restores_alike w v i))))

  -- proposals that were checked under such a shape
  proposed_alike : {arrivals others : List Arrival} → Proposed s arrivals others → Proposed (reslope s slopes) arrivals others
  proposed_alike {arrivals} {others} p = record {
    size = p.size;
    each = λ j l.
        ⊎_elim (λ (same : arrival_at others j ≡ arrival_at arrivals j). inl same)
        (λ (r : Replaced s (arrival_at arrivals j) (arrival_at others j)).
        inr (record { clean = r.clean; named = r.named; scratch = r.scratch; yes = check_alike (arrival_at arrivals j).word (arrival_at others j).word ∙ r.yes }))
        (p.each j l);
  }

  -- and handed to a session whose shape has other slopes past the first n - 1
  pub proposals_resloped : (σ : Session) → σ.shape ≡ reslope s slopes → (arrivals others : List Arrival) → Proposed s arrivals others
      → (answers answers' : List Outcome) (end end' : Session) → Run the_ways σ arrivals answers end → Run the_ways σ others answers' end'
      → (end' ≡ end) × AnswersAlike answers answers'
  proposals_resloped σ is arrivals others p = proposals_alike (reslope s slopes) σ is arrivals others (proposed_alike p)
