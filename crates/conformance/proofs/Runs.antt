-- A run in the paper's words is ours, arrival by arrival; so what holds of every list of ours holds of every list of the paper's.
use mathlib.Core.Path.{◌≡◌, refl, sym, ap, ◌∙◌, subst}
use mathlib.Core.Bool.{true}
use mathlib.Core.List.{List, [], ◌∷◌, map}
use mathlib.Core.Logic.{◌≢◌}
use Prim.Native.Nat.{ℕ, zero, suc, ◌+◌, ◌^◌, ◌<◌, ◌≤◌}
use native.Mathlib.Nat.{le_of_lt}
use native.Mathlib.Omega.{arith}
use lib.ListN.{length, get_or, take, length-map, get_or-map}
use lib.Seq.{length-take-le, get_or-take}
use Rattle.paper.specs.Paper as paper
use Rattle.gtb.specs.declared.Shape.{Shape}
use Rattle.gtb.specs.declared.Refusal.{Refusal}
use Rattle.gtb.specs.Shape.{Lawful, of}
use Rattle.gtb.specs.Answer.{refusal_number}
use Rattle.session.specs.declared.Session.{Session}
use Rattle.session.specs.declared.Outcome.{Outcome}
use Rattle.session.specs.declared.Outcome.TheVariants.{Taken, Again, Refused}
use Rattle.session.specs.Session.{fresh_of, plain}
use Rattle.session.specs.Arrival.{by_session, the_ways, outcome_values, presented, outcome_of, session_after, word_after, outcome_scratch, Arriving}
use Rattle.session.specs.Recording.{Arrival, arrival_at}
use Rattle.session.specs.Claim.{Run, stop, step, EveryList}
use Rattle.session.proofs.Progress.{fresh_consistent}
use Rattle.session.proofs.Demand.{every_list_ways}
use Rattle.gtb.proofs.Judging.{judged_elim}
use Rattle.gtb.proofs.Conditions.{lawful_of}
use Rattle.session.proofs.Paper.{decides_figures}
use Rattle.session.proofs.Arriving.{arrival}
use Rattle.conformance.proofs.Bringing.{to_arrival}
use Rattle.conformance.proofs.Arrived.{Kept, kept_on, arrival_once, turned_arriving, arriving_turned}

-- ---- answers by their values
pub starts_refused : (r : Outcome) → get_or (outcome_values r) 0 0 ≡ 2 → (e : Refusal) × (r ≡ Refused e)
starts_refused (Taken p k) h = absurd (omega arith)
starts_refused (Again p k) h = absurd (omega arith)
starts_refused (Refused e) h = (e, refl)

refused_by : (r : Outcome) (k : ℕ) → outcome_values r ≡ 2 ∷ k ∷ 0 ∷ [] → (e : Refusal) × (r ≡ Refused e) × (refusal_number e ≡ k)
refused_by r k h =
    let (e, is) = starts_refused r (ap (λ (xs : List ℕ). get_or xs 0 0) h) in
    (e, is, ap (λ (xs : List ℕ). get_or xs 1 0) (sym (ap outcome_values is) ∙ h))

nine : (e : Refusal) → refusal_number e ≡ 9 → by_session e ≡ true
nine e h = rw h

eleven : (e : Refusal) → refusal_number e ≡ 11 → by_session e ≡ true
eleven e h = rw h

-- ---- answers in a list
abbrev pub listed : ℕ → (ℕ → Outcome) → List Outcome
listed zero f = []
listed (suc n) f = f 0 ∷ listed n (λ j. f (suc j))

pub listed_at : (n : ℕ) (f : ℕ → Outcome) (j : ℕ) (d : Outcome) → j < n → get_or (listed n f) j d ≡ f j
listed_at zero f j d l = absurd (omega arith)
listed_at (suc n) f zero d l = refl
listed_at (suc n) f (suc j) d l = listed_at n (λ j. f (suc j)) j d (omega arith)

pub listed_length : (n : ℕ) (f : ℕ → Outcome) → length (listed n f) ≡ n
listed_length zero f = refl
listed_length (suc n) f = ap suc (listed_length n (λ j. f (suc j)))

-- each arrival takes the session that the one before it left
pub record Steps (arrivals : List Arrival) (σ : ℕ → Session) (out : ℕ → Outcome) : Type 0 where
  pub each : (j : ℕ) → j < length arrivals → (word' scratch' : List ℕ)
      × Arriving the_ways (σ j) (arrival_at arrivals j).way (arrival_at arrivals j).word (arrival_at arrivals j).scratch word' scratch' (record { session = σ (suc j); outcome = out j })

pub steps_run : (arrivals : List Arrival) (σ : ℕ → Session) (out : ℕ → Outcome) → Steps arrivals σ out → Run the_ways (σ 0) arrivals (listed (length arrivals) out) (σ (length arrivals))
steps_run [] σ out x = stop
steps_run (a ∷ rest) σ out x =
    let (word', scratch', first) = x.each 0 (omega arith) in
    step first (steps_run rest (λ j. σ (suc j)) (λ j. out (suc j)) (record { each = λ j l. x.each (suc j) (omega arith) }))

steps_first : (m : ℕ) (arrivals : List Arrival) (σ : ℕ → Session) (out : ℕ → Outcome) → m ≤ length arrivals → Steps arrivals σ out → Steps (take m arrivals) σ out
steps_first m arrivals σ out l x = record {
  each = λ j lj.
      let lm : j < m = rw (length-take-le m arrivals l) at lj in
      rw (get_or-take m arrivals j) (x.each j (omega arith));
}

-- ---- our run of the paper's arrivals
module _ (s : Shape) (arrivals : List paper.Arrival) where
  abbrev pub arrivals' : List Arrival
  arrivals' = map to_arrival arrivals

  abbrev pub σ : ℕ → Session
  σ zero = fresh_of s
  σ (suc j) =
      session_after (σ j) (presented the_ways (σ j) (paper.arrival_at arrivals j).way (paper.arrival_at arrivals j).word (paper.arrival_at arrivals j).scratch)

  abbrev pub out : ℕ → Outcome
  out j = outcome_of (σ j) (presented the_ways (σ j) (paper.arrival_at arrivals j).way (paper.arrival_at arrivals j).word (paper.arrival_at arrivals j).scratch)

  -- what arrival j leaves
  abbrev left : ℕ → paper.Arrived
  left j = record {
    session = plain (σ (suc j));
    word = word_after (paper.arrival_at arrivals j).word ((the_ways.named (paper.arrival_at arrivals j).way).word (σ j).shape (paper.arrival_at arrivals j).word) (out j);
    scratch = outcome_scratch (paper.arrival_at arrivals j).scratch (out j);
    answer = outcome_values (out j);
  }

  our_step : (j : ℕ)
      → Arriving the_ways (σ j) (paper.arrival_at arrivals j).way (paper.arrival_at arrivals j).word (paper.arrival_at arrivals j).scratch (left j).word (left j).scratch (record { session = σ (suc j); outcome = out j })
  our_step j = record { outcome = refl; session = refl; word_left = refl; scratch_left = refl }

  paper_step : (j : ℕ) → length (σ j).taken ≡ 1024 → paper.Arriving (plain (σ j)) (paper.arrival_at arrivals j) (left j)
  paper_step j size = arrival (σ j) size (paper.arrival_at arrivals j).word (paper.arrival_at arrivals j).scratch (paper.arrival_at arrivals j).way (our_step j)

  fresh_kept : Kept (of s) (plain (fresh_of s))
  unfolding fresh_of
  fresh_kept = record { shape = refl; size = refl; figures = (decides_figures (fresh_of s)).fails (fresh_consistent s) }

  pub keeps : (j : ℕ) → Kept (of s) (plain (σ j))
  keeps zero = fresh_kept
  keeps (suc j) = kept_on (paper.arrival_at arrivals j) (keeps j) (paper_step j (keeps j).size)

  pub size : length arrivals' ≡ length arrivals
  size = length-map arrivals to_arrival

  pub arrival_at_lem : (j : ℕ) → arrival_at arrivals' j ≡ to_arrival (paper.arrival_at arrivals j)
  arrival_at_lem j = get_or-map to_arrival arrivals j _

  steps : Steps arrivals' σ out
  steps = record { each = λ j l. ((left j).word, (left j).scratch, rw (arrival_at_lem j) (our_step j)) }

  pub our_run : Run the_ways (fresh_of s) arrivals' (listed (length arrivals') out) (σ (length arrivals'))
  our_run = steps_run arrivals' σ out steps

  pub first_run : (m : ℕ) → m ≤ length arrivals → Run the_ways (fresh_of s) (take m arrivals') (listed (length (take m arrivals')) out) (σ (length (take m arrivals')))
  first_run m lm = steps_run (take m arrivals') σ out (steps_first m arrivals' σ out (rw size lm) steps)

  -- an arrival that is turned down by what was handed in is answered so
  pub turned_out : (j k : ℕ) → paper.TurnedDown (of s) (paper.arrival_at arrivals j) k → (outcome_values (out j) ≡ 2 ∷ k ∷ 0 ∷ []) × (plain (σ (suc j)) ≡ plain (σ j))
  turned_out j k down =
      turned_arriving (plain (σ j)) (paper.arrival_at arrivals j) (keeps j).figures
      (subst (λ (z : paper.Shape). paper.TurnedDown z (paper.arrival_at arrivals j) k) (sym (keeps j).shape) down) (paper_step j (keeps j).size)

  out_turned : (j k : ℕ) → k ≢ 9 → outcome_values (out j) ≡ 2 ∷ k ∷ 0 ∷ [] → paper.TurnedDown (of s) (paper.arrival_at arrivals j) k
  out_turned j k other is =
      subst (λ (z : paper.Shape). paper.TurnedDown z (paper.arrival_at arrivals j) k) (keeps j).shape
      (arriving_turned (plain (σ j)) (paper.arrival_at arrivals j) (keeps j).figures k other is (paper_step j (keeps j).size))

  pub answer_at : (j : ℕ) → j < length arrivals' → get_or (listed (length arrivals') out) j (Refused Refusal.Shape) ≡ out j
  answer_at j l = listed_at (length arrivals') out j _ l

  -- ---- the paper's run
  module _ (session : ℕ → paper.Session) (answer : ℕ → List ℕ) (run : paper.Run (of s) arrivals session answer) where
    refused_not : (k : ℕ) {C : Type 0} → 0 ≡ paper.refusal k → C
    refused_not k h = absurd (let big : 0 ≡ 2 ^ 31 + k = h in omega arith)

    pub law : Lawful s
    law = judged_elim (paper.fresh_tests (of s)) (λ k. 0 ≡ paper.refusal k) _ (Lawful s) (λ k h. refused_not k h) (λ passed _. let (listed, (right, none)) = passed in lawful_of s listed right) run.first

    at_first : session 0 ≡ plain (fresh_of s)
    unfolding fresh_of
    at_first = judged_elim (paper.fresh_tests (of s)) (λ k. 0 ≡ paper.refusal k) _ (session 0 ≡ paper.fresh (of s)) (λ k h. refused_not k h) (λ _ x. x.1) run.first

    at_next : (j : ℕ) → j < length arrivals → session j ≡ plain (σ j) → (session (suc j) ≡ plain (σ (suc j))) × (answer j ≡ outcome_values (out j))
    at_next j l same =
        let (word', scratch', h) = run.next j l in
        let x : paper.Arrived = record { session = session (suc j); word = word'; scratch = scratch'; answer = answer j } in
        let e : x ≡ left j = arrival_once (plain (σ j)) (paper.arrival_at arrivals j) (subst (λ (τ : paper.Session). paper.Arriving τ (paper.arrival_at arrivals j) x) same h) (paper_step j (keeps j).size) in
        (ap (λ (y : paper.Arrived). y.session) e, ap (λ (y : paper.Arrived). y.answer) e)

    pub same_session : (m : ℕ) → m ≤ length arrivals → session m ≡ plain (σ m)
    same_session zero l = at_first
    same_session (suc j) l = (at_next j l (same_session j (le_of_lt l))).0

    pub same_answer : (j : ℕ) → j < length arrivals → answer j ≡ outcome_values (out j)
    same_answer j l = (at_next j l (same_session j (le_of_lt l))).1

    pub ours : EveryList the_ways s (fresh_of s) arrivals' (listed (length arrivals') out) (σ (length arrivals'))
    ours = every_list_ways s law arrivals' _ _ our_run

    never : (j : ℕ) → j < length arrivals → (k : ℕ) → ((e : Refusal) → refusal_number e ≡ k → by_session e ≡ true) → answer j ≢ 2 ∷ k ∷ 0 ∷ []
    never j l k by h =
        let (e, is, number) = refused_by (out j) k (sym (same_answer j l) ∙ h) in
        let l' : j < length arrivals' = rw size l in
        ours.never j l' e (by e number) (answer_at j l' ∙ is)

    pub every_list : paper.EveryList (of s) arrivals session answer
    every_list = record {
      shape = λ m l. ap (λ (τ : paper.Session). τ.shape) (same_session m l) ∙ (keeps m).shape;
      figures = λ m l. subst (λ (τ : paper.Session). ¬ paper.WrongFigures τ) (sym (same_session m l)) (keeps m).figures;
      refused = λ j k l. (
        λ h. out_turned j k (λ is. never j l 9 nine (h ∙ ap (λ (c : ℕ). 2 ∷ c ∷ 0 ∷ []) is)) (sym (same_answer j l) ∙ h),
        λ down. same_answer j l ∙ (turned_out j k down).0,
      );
      kept = λ j k l down. same_session (suc j) l ∙ (turned_out j k down).1 ∙ sym (same_session j (le_of_lt l));
      never = λ j l. (never j l 9 nine, never j l 11 eleven);
    }
