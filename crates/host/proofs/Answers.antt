-- What the entries answer and leave, by the tests passed.
use mathlib.Core.Path.{◌≡◌, refl, sym, ap, ◌∙◌, subst}
use mathlib.Core.Bool.{false, not, cond}
use mathlib.Core.List.{List}
use Prim.Native.Nat.{ℕ, ◌+◌, ◌-◌, ◌^◌, ◌<◌}
use lib.ListN.{get_or, take, drop, get_or-map}
use lib.Seq.{get_or-drop, get_or-take}
use borrow.Author.Tests.{eq-eqb, ne_eqb}
use Rattle.gtb.specs.declared.Shape.{Shape}
use Rattle.gtb.specs.declared.Refusal.{Refusal}
use Rattle.std.specs.Prelude.{Result, Ok, Err}
use Rattle.gtb.specs.Shape.{lawful, Lawful}
use Rattle.gtb.specs.Answer.{refusal_number, status_number}
use Rattle.session.specs.declared.Session.{Session}
use Rattle.session.specs.declared.Brought.{Brought}
use Rattle.session.specs.declared.Outcome.{Outcome}
use Rattle.session.specs.declared.Outcome.TheVariants.{Taken, Again, Refused}
use Rattle.session.specs.declared.Arrived.{Arrived}
use Rattle.session.specs.Session.{marked, fresh_of, fresh_status}
use Rattle.session.specs.Arrival.{way_of, the_ways, Page, is_accepted, outcome_values, Arriving}
use Rattle.session.specs.Steps.{Settling, Keeps, Deciding}
use Rattle.session.proofs.Opens.{decides_refused, decides_again, decides_new}
use Rattle.batch.specs.declared.Delivered.{Delivered}
use Rattle.batch.specs.Batch.{Batching}
use Rattle.host.specs.Crossing.{shape_in, is_yes, session_of, values_of}
use Rattle.host.specs.Entries.{length_in, FreshCrossing, session_in, Arrives, bundle_in, Delivers}
use Rattle.host.specs.Steps.{AtValues}

-- ---- a length, by the test of the shape
module _ (size : Shape → ℕ) (values : List ℕ) {s : Shape} (is : s ≡ shape_in values) where
  pub length_none : lawful s ≡ false → 0 ≡ length_in size values
  length_none h = rw (← is, h)

  pub length_some : {r : ℕ} → Lawful s → r ≡ size s → r ≡ length_in size values
  length_some h e = rw (← is, h) e

-- ---- a fresh session
module _ (s : Shape) (session : List ℕ) where
  -- a refusal leaves the values
  pub fresh_refused : {e : Refusal} {r : ℕ} → fresh_status s ≡ Err e → r ≡ 2 ^ 31 + refusal_number e → FreshCrossing s session session r
  fresh_refused h is = record { answer = rw h is; left = rw h }

  pub fresh_done : {σ : Session} {session' : List ℕ} → fresh_status s ≡ Ok tt → σ ≡ fresh_of s → session' ≡ values_of σ → FreshCrossing s session session' 0
  fresh_done h f v = record { answer = rw h; left = rw h (v ∙ ap values_of f) }

-- ---- the session is written after a page was taken, and is as it was after every other answer
pub as_it_was : (session : List ℕ) (σ : Session) (o : Outcome) → ((p k : ℕ) → o ≡ Taken p k → ⊥) → session ≡ session_in session σ o
as_it_was session σ (Taken p k) other = absurd (other p k refl)
as_it_was session σ (Again p k) other = refl
as_it_was session σ (Refused e) other = refl

-- ---- an arrival's steps at lent values
module _ {values : List ℕ} {Promise : Session → Arrived → Type 0} where
  -- turned down or again: nothing is written
  pub at_kept : {r : Outcome} → values ≡ session_in values (session_of values) r → Promise (session_of values) (record { session = session_of values; outcome = r }) → AtValues values Promise values r
  at_kept left holds = record { after = session_of values; holds = holds; left = left }

  -- a promise that another gives
  pub at_other : {Other : Session → Arrived → Type 0} {values' : List ℕ} {r : Outcome} → AtValues values Other values' r
      → ((a : Arrived) → Other (session_of values) a → a.outcome ≡ r → Promise (session_of values) a) → AtValues values Promise values' r
  at_other h other = record { after = h.after; holds = other _ h.holds refl; left = h.left }

-- a page mark where it lies
pub mark_lent : (values : List ℕ) (number : ℕ) → number < 1024 → marked (session_of values).taken number ≡ is_yes (get_or values (12 + number) 0)
unfolding session_of
mark_lent values number l =
    get_or-map is_yes (take 1024 (drop 12 values)) number 0
    ∙ ap is_yes (get_or-take 1024 (drop 12 values) number 0 l ∙ get_or-drop 12 values number 0)

-- ---- both steps
module _ (way : ℕ) (values : List ℕ) {s : Shape} (same : (session_of values).shape ≡ s) {word word' came symbols : List ℕ} {found : Result Brought Refusal} (keeps : Keeps (way_of way) s word word' came symbols found) where
  -- by the session's own shape
  own : Keeps (way_of way) (session_of values).shape word word' came symbols found
  own = subst (λ (x : Shape). Keeps (way_of way) x word word' came symbols found) (sym same) keeps

  pub word_refused : {e : Refusal} → found ≡ Err e → AtValues values (λ σ a. Deciding (way_of way) σ word word' a) values (Refused e)
  word_refused h = at_kept refl (decides_refused (session_of values) own h (refl, refl))

  module _ {page : Brought} (h : found ≡ Ok page) where
    pub word_again : (get_or values (12 + page.number) 0 ≡ 0 → ⊥) → AtValues values (λ σ a. Deciding (way_of way) σ word word' a) values (Again page.number page.corrected)
    word_again marked = at_kept refl (decides_again (session_of values) own h (mark_lent values page.number (keeps.tells.readable _ _ _ h).low ∙ ap not (ne_eqb _ _ marked)))

    pub word_new : {values' word'' : List ℕ} {r : Outcome} → AtValues values (λ σ a. Settling σ (Page page.number (take (2 + page.count - 2) (drop 2 symbols)) page.corrected) a) values' r → word'' ≡ cond (is_accepted r) word' came
        → AtValues values (λ σ a. Deciding (way_of way) σ word word'' a) values' r
    word_new new put =
        at_other new (λ a settles is. decides_new (session_of values) own h settles (put ∙ ap (λ (o : Outcome). cond (is_accepted o) word' came) (sym is)))

-- ---- an arrival
pub arrives : {session session' : List ℕ} {way : ℕ} {word scratch word' scratch' outcome' : List ℕ} {r : Outcome}
    → AtValues session (λ σ a. Arriving the_ways σ way word scratch word' scratch' a) session' r → outcome' ≡ outcome_values r
    → Arrives session way word scratch session' word' scratch' outcome' 0
arrives {r = r} at o = record { arrived = record { session = at.after; outcome = r }; holds = at.holds; outcome_left = o; session_left = at.left; answer = refl }

-- ---- a bundle
module _ (session : List ℕ) (way : ℕ) (words scratch outcomes : List ℕ) {σ : Session} (r : Delivered) {session' words' scratch' outcomes' : List ℕ} {answer : ℕ} (is : σ ≡ session_of session) (holds : Batching σ way words scratch outcomes words' scratch' outcomes' r) (crossed : answer ≡ status_number r.status) where
  delivers : session' ≡ bundle_in session r.session → Delivers session way words scratch outcomes session' words' scratch' outcomes' answer
  delivers left = record { delivered = r; holds = rw (← is) holds; session_left = left; answer = crossed }

  -- no page more: as it was; else written
  pub delivers_kept : r.session.pages ≡ σ.pages → session' ≡ session → Delivers session way words scratch outcomes session' words' scratch' outcomes' answer
  delivers_kept same left = delivers (left ∙ sym (rw (eq-eqb r.session.pages (session_of session).pages (same ∙ ap (λ (τ : Session). τ.pages) is))))

  pub delivers_written : (r.session.pages ≡ σ.pages → ⊥) → session' ≡ values_of r.session → Delivers session way words scratch outcomes session' words' scratch' outcomes' answer
  delivers_written more left =
      delivers (left ∙ sym (rw (ne_eqb r.session.pages (session_of session).pages (λ e. more (e ∙ ap (λ (τ : Session). τ.pages) (sym is))))))
