-- A session grows by pages alone: where their number is as before, all of it is.
use mathlib.Core.Path.{◌≡◌, refl, ap, ◌∙◌}
use mathlib.Core.Bool.{Bool, true, false, cond}
use mathlib.Core.List.{List}
use Prim.Native.Nat.{ℕ, ◌<◌, ◌≤◌}
use native.Mathlib.Nat.{le_refl, le_trans}
use native.Mathlib.Omega.{arith}
use lib.ListN.{length, get_or, length-set}
use Rattle.gtb.specs.declared.Shape.{Shape}
use Rattle.gtb.specs.declared.Refusal.{Refusal}
use Rattle.gtb.specs.Shape.{Lawful}
use Rattle.session.specs.declared.Session.{Session}
use Rattle.session.specs.declared.Outcome.{Outcome}
use Rattle.session.specs.declared.Outcome.TheVariants.{Taken, Again, Refused}
use Rattle.session.specs.declared.Arrived.{Arrived}
use Rattle.session.specs.Session.{Consistent, overflows, recorded}
use Rattle.session.specs.Arrival.{the_ways, Opened, Page, Bad, opened, presented, outcome_of, session_by, session_after, Arriving}
use Rattle.session.specs.Recording.{Arrival}
use Rattle.session.specs.Claim.{Run, stop, step}
use Rattle.session.proofs.Marks.{added_size}
use Rattle.session.proofs.Settle.{after_cases}
use Rattle.session.proofs.Progress.{more_pages, arrival_consistent}
use Rattle.session.proofs.Openings.{Sane, opened_sane}
use Rattle.session.proofs.Arrive.{presented_opened}
use Rattle.session.proofs.Alikes.{shape_kept}
use Rattle.session.proofs.Ways.{all_sound}

-- the lists of a session have their lengths
pub record Sized (σ : Session) : Type 0 where
  pub slopes : length σ.shape.slopes ≡ 7
  pub taken : length σ.taken ≡ 1024
  pub calls : length σ.calls ≡ 256

sized_after : {σ : Session} → Sized σ → (o : Opened) → Sized (session_after σ o)
unfolding recorded
sized_after {σ} h =
    after_cases Sized σ h
    (λ number marks. record { slopes = h.slopes; taken = length-set σ.taken number true ∙ h.taken; calls = added_size σ.calls marks })

-- one session is the other with pages taken
pub record Grows (σ τ : Session) : Type 0 where
  pub upto : σ.pages ≤ τ.pages
  pub same : τ.pages ≡ σ.pages → τ ≡ σ

grows_none : {σ : Session} → Grows σ σ
grows_none {σ} = record { upto = le_refl σ.pages; same = λ _. refl }

grows_on : {σ τ υ : Session} → Grows σ τ → Grows τ υ → Grows σ υ
grows_on g h = record {
  upto = le_trans g.upto h.upto;
  same = λ e. h.same (omega (arith, e, g.upto, h.upto)) ∙ g.same (omega (arith, e, g.upto, h.upto));
}

-- ---- by what an arrival brings
module _ (σ : Session) (right : Consistent σ) (size : length σ.taken ≡ 1024) where
  page_grows : (number : ℕ) (marks : List ℕ) (k : ℕ) → number < 1024 → (again over : Bool) → get_or σ.taken number false ≡ again
      → Grows σ (session_by σ (Page number marks k) (cond again (Again number k) (cond over (Refused Refusal.Overflow) (Taken number k))))
  unfolding recorded
  page_grows number marks k l true over h = grows_none
  page_grows number marks k l false true h = grows_none
  page_grows number marks k l false false h =
      let more = more_pages σ right number size l h in
      record { upto = omega (arith, more); same = λ e. absurd (omega (arith, more, e)) }

  after_grows : (o : Opened) → Sane o → Grows σ (session_after σ o)
  unfolding session_after outcome_of
  after_grows (Page number marks k) h = page_grows number marks k h.0 (get_or σ.taken number false) (overflows σ.calls marks) refl
  after_grows (Bad e) h = grows_none

-- ---- arrivals at a session of a lawful shape
-- what holds of the session before and after each
pub record Kept (s : Shape) (σ : Session) : Type 0 where
  pub shape : σ.shape ≡ s
  pub consistent : Consistent σ
  pub sized : Sized σ

module _ {s : Shape} (law : Lawful s) where
  arrival_grows : {σ : Session} → Kept s σ → {way : ℕ} {word scratch word' scratch' : List ℕ} {r : Arrived} → Arriving the_ways σ way word scratch word' scratch' r → Grows σ r.session
  arrival_grows {σ} kept {way} {word} {scratch} h =
      rw (h.session, presented_opened the_ways σ way word scratch kept.consistent)
      (after_grows σ kept.consistent kept.sized.taken (opened the_ways σ.shape way word scratch)
      (opened_sane the_ways σ.shape (all_sound σ.shape (rw kept.shape law)) way word scratch))

  pub arrival_keeps : {σ : Session} → Kept s σ → {way : ℕ} {word scratch word' scratch' : List ℕ} {r : Arrived} → Arriving the_ways σ way word scratch word' scratch' r → Kept s r.session
  arrival_keeps {σ} kept {way} {word} {scratch} h =
      let o = presented the_ways σ way word scratch in
      record {
        shape = ap (λ (τ : Session). τ.shape) h.session ∙ shape_kept σ o ∙ kept.shape;
        consistent = arrival_consistent the_ways σ h kept.consistent;
        sized = rw h.session (sized_after kept.sized o);
      }

  pub run_grows : {σ end : Session} {arrivals : List Arrival} {answers : List Outcome} → Kept s σ → Run the_ways σ arrivals answers end → Grows σ end × Kept s end
  run_grows kept stop = (grows_none, kept)
  run_grows kept (step h run) =
      let (later, end) = run_grows (arrival_keeps kept h) run in
      (grows_on (arrival_grows kept h) later, end)
