-- Demand 3 as a program in C meets it: after every call the values are those of the session that the call gave.
use mathlib.Core.Path.{◌≡◌, refl, sym, ap, ap₂, ◌∙◌, subst}
use mathlib.Core.Bool.{Bool, true, false}
use mathlib.Core.List.{List, [], ◌∷◌, ◌++◌}
use mathlib.Core.Logic.{⊎_elim}
use Prim.Native.Nat.{ℕ, ◌*◌}
use native.Mathlib.Omega.{arith}
use lib.Dec.{eqb}
use lib.ListN.{length, take, length-drop, length-replicate}
use lib.Seq.{take_at, get_or-drop}
use borrow.Author.Tests.{eq-eqb, eqb-true}
use Rattle.parity.proofs.Tests.{either, clash}
use Rattle.gtb.specs.declared.Shape.{Shape}
use Rattle.gtb.specs.declared.Refusal.{Refusal}
use Rattle.std.specs.Prelude.{Result, Ok, Err}
use Rattle.gtb.specs.Shape.{Lawful}
use Rattle.gtb.specs.Answer.{status_number}
use Rattle.session.specs.declared.Session.{Session}
use Rattle.session.specs.declared.Outcome.{Outcome}
use Rattle.session.specs.declared.Outcome.TheVariants.{Taken, Again, Refused}
use Rattle.session.specs.Session.{fresh_of}
use Rattle.session.specs.Arrival.{the_ways, Opened, Page, Bad, outcome_of, presented, session_by, session_after}
use Rattle.session.specs.Recording.{Arrival}
use Rattle.session.specs.Claim.{Run, stop, step, is_taken}
use Rattle.session.proofs.Demand.{made_begins, demand3_ways}
use Rattle.session.proofs.Growth.{Sized, Grows, Kept, arrival_keeps, run_grows}
use Rattle.session.proofs.Joins.{run_join, run_answered}
use Rattle.session.proofs.Progress.{fresh_consistent}
use Rattle.batch.specs.Batch.{words_in, all_values}
use Rattle.batch.specs.Batch as batch
use Rattle.batch.proofs.Demand.{arrivals_number}
use Rattle.batch.proofs.Outcomes.{all_values_size, all_values_join}
use Rattle.host.specs.Crossing.{shape_in, session_of, values_of}
use Rattle.host.specs.Entries.{session_in, bundle_in}
use Rattle.host.specs.Calls.{Calls, none, one, bundle, turned, ClaimAtBoundary}
use Rattle.host.proofs.Values.{values_back, values_size}

-- the values hold the session that a call gave
pub record Holds (values : List ℕ) (σ : Session) : Type 0 where
  pub back : session_of values ≡ σ
  pub size : length values ≡ 1292

written : {values : List ℕ} {σ : Session} → Sized σ → values ≡ values_of σ → Holds values σ
written {σ = σ} sized is = rw is (record { back = values_back σ sized; size = values_size σ sized })

-- ---- an arrival
-- every answer but taken leaves the session
unmoved : (σ : Session) (o : Opened) (r : Outcome) → is_taken r ≡ false → session_by σ o r ≡ σ
unmoved σ (Page number marks k) (Taken p c) h = absurd (clash refl h)
unmoved σ (Page number marks k) (Again p c) h = refl
unmoved σ (Page number marks k) (Refused e) h = refl
unmoved σ (Bad e) r h = refl

module _ (values : List ℕ) (size : length values ≡ 1292) where
  kept_values : {values' : List ℕ} {σ : Session} → values' ≡ values → σ ≡ session_of values → Holds values' σ
  kept_values same is = record { back = ap session_of same ∙ sym is; size = ap length same ∙ size }

  arrived_holds : (o : Opened) {values' : List ℕ} (σ : Session) (r : Outcome) → Sized σ → r ≡ outcome_of (session_of values) o → σ ≡ session_after (session_of values) o
      → values' ≡ session_in values σ r → Holds values' σ
  unfolding session_after
  arrived_holds o σ (Taken p k) sized is after left = written sized left
  arrived_holds o σ (Again p k) sized is after left = kept_values left (after ∙ ap (session_by (session_of values) o) (sym is) ∙ unmoved (session_of values) o (Again p k) refl)
  arrived_holds o σ (Refused e) sized is after left = kept_values left (after ∙ ap (session_by (session_of values) o) (sym is) ∙ unmoved (session_of values) o (Refused e) refl)

  -- ---- a bundle
  delivered_holds : {values' : List ℕ} (τ : Session) → Sized τ → Grows (session_of values) τ → values' ≡ bundle_in values τ → Holds values' τ
  delivered_holds τ sized grows left =
      ⊎_elim
      (λ (t : eqb τ.pages (session_of values).pages ≡ true). kept_values (left ∙ rw t) (grows.same (eqb-true _ _ t)))
      (λ (f : eqb τ.pages (session_of values).pages ≡ false). written sized (left ∙ rw f))
      (either (eqb τ.pages (session_of values).pages))

  turned_holds : {values' : List ℕ} {τ : Session} → τ ≡ session_of values → values' ≡ bundle_in values τ → Holds values' (session_of values)
  turned_holds {τ = τ} same left = kept_values (left ∙ rw (eq-eqb τ.pages (session_of values).pages (ap (λ (σ : Session). σ.pages) same))) refl

-- the number of the answer tells whether the bundle was turned down
whole : (t : Result (Unit {0}) Refusal) → status_number t ≡ 0 → t ≡ Ok tt
whole (Ok tt) h = refl
whole (Err e) h = absurd (omega (arith, h))

down : (t : Result (Unit {0}) Refusal) → (status_number t ≡ 0 → ⊥) → (e : Refusal) × (t ≡ Err e)
down (Ok tt) h = absurd (h refl)
down (Err e) h = (e, refl)

-- ---- calls one after the other are one run
pub record Ran (values : List ℕ) (arrivals : List Arrival) (given end : List ℕ) : Type 0 where
  pub answers : List Outcome
  pub run : Run the_ways (session_of values) arrivals answers (session_of end)
  pub outcomes : given ≡ all_values answers
  pub size : length end ≡ 1292

-- a run from the session that the values hold
run_from : {values : List ℕ} (end : List ℕ) {σ : Session} {arrivals : List Arrival} {answers : List Outcome} → Holds values σ → Run the_ways (session_of values) arrivals answers (session_of end)
    → Run the_ways σ arrivals answers (session_of end)
run_from end {arrivals = arrivals} {answers = answers} h = subst (λ (σ : Session). Run the_ways σ arrivals answers (session_of end)) h.back

module _ {s : Shape} (law : Lawful s) where
  pub calls_run : {values end : List ℕ} {arrivals : List Arrival} {outcomes : List ℕ} → length values ≡ 1292 → Kept s (session_of values) → Calls values arrivals outcomes end
      → Ran values arrivals outcomes end
  unfolding all_values batch.values_of
  calls_run size kept none = record { answers = []; run = stop; outcomes = refl; size = size }
  calls_run {values = values} {end = end} size kept (one {way = way} {word = word} {scratch = scratch} call rest) =
      let a = call.arrived in
      let next : Kept s a.session = arrival_keeps law kept call.holds in
      let holds = arrived_holds values size (presented the_ways (session_of values) way word scratch) a.session a.outcome next.sized call.holds.outcome call.holds.session call.session_left in
      let ran = calls_run holds.size (subst (Kept s) (sym holds.back) next) rest in
      record {
        answers = a.outcome ∷ ran.answers;
        run = step {a = record { way = way; word = word; scratch = scratch }} call.holds (run_from end holds ran.run);
        outcomes = ap₂ (λ (xs ys : List ℕ). xs ++ ys) call.outcome_left ran.outcomes;
        size = ran.size;
      }
  calls_run {values = values} {end = end} size kept (bundle {way = way} {words = words} {scratch = scratch} call zero rest) =
      let d = call.delivered in
      let arrivals = call.holds.done (whole d.status (sym call.answer ∙ zero)) in
      let (grows, next) = run_grows law kept arrivals.run in
      let holds = delivered_holds values size d.session next.sized grows call.session_left in
      let ran = calls_run holds.size (subst (Kept s) (sym holds.back) next) rest in
      let number : 3 * length arrivals.answers ≡ 3 * words_in (session_of values).shape words =
      ap (λ (n : ℕ). 3 * n) (run_answered arrivals.run ∙ arrivals_number (session_of values).shape way words scratch) in
      let first : take (3 * words_in (session_of values).shape words) _ ≡ all_values arrivals.answers =
      ap (take (3 * words_in (session_of values).shape words)) arrivals.outcomes_left ∙ take_at (all_values arrivals.answers) _ _ (all_values_size arrivals.answers ∙ number) in
      record {
        answers = arrivals.answers ++ ran.answers;
        run = run_join arrivals.run (run_from end holds ran.run);
        outcomes = ap₂ (λ (xs ys : List ℕ). xs ++ ys) first ran.outcomes ∙ sym (all_values_join arrivals.answers ran.answers);
        size = ran.size;
      }
  calls_run {values = values} {end = end} size kept (turned call other rest) =
      let d = call.delivered in
      let (e, is) = down d.status (λ z. other (call.answer ∙ z)) in
      let holds = turned_holds values size (call.holds.refused e is).0 call.session_left in
      let ran = calls_run holds.size (subst (Kept s) (sym holds.back) kept) rest in
      record { answers = ran.answers; run = run_from end holds ran.run; outcomes = ran.outcomes; size = ran.size }

-- ---- from a fresh session on
fresh_kept : (s : Shape) → length s.slopes ≡ 7 → Kept s (fresh_of s)
unfolding fresh_of
fresh_kept s seven = record {
  shape = refl;
  consistent = fresh_consistent s;
  sized = record { slopes = seven; taken = length-replicate {A = Bool} 1024 false; calls = length-replicate {A = ℕ} 256 0 };
}

seven_slopes : (shape : List ℕ) → length shape ≡ 10 → length (shape_in shape).slopes ≡ 7
unfolding shape_in
seven_slopes shape ten = omega (arith, ten, length-drop 3 shape)

pub demand3_boundary : ClaimAtBoundary
unfolding session_of
demand3_boundary shape blank start number pages arrivals given end ten fresh r fits calls =
    let s = shape_in shape in
    let done = sym (made_begins s r.lawful).status in
    let kept = fresh_kept s (seven_slopes shape ten) in
    let holds : Holds start (fresh_of s) = written kept.sized (fresh.left ∙ rw done) in
    let ran = calls_run r.lawful holds.size (subst (Kept s) (sym holds.back) kept) calls in
    let demand = demand3_ways s pages arrivals ran.answers (Ok (session_of start)) (session_of end) r fits (record { session = holds.back; status = sym done }) ran.run in
    record {
      made = fresh.answer ∙ rw done;
      answers = ran.answers;
      outcomes = ran.outcomes;
      demand = demand;
      counts = λ f l. sym (get_or-drop 1036 end f 0) ∙ demand.whole f l;
      size = ran.size;
    }
