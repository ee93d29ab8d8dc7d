-- The last step of an arrival, answer by answer.
use mathlib.Core.Path.{◌≡◌, refl, ◌∙◌}
use mathlib.Core.Bool.{Bool, true, false}
use mathlib.Core.List.{List}
use Prim.Native.Nat.{ℕ}
use lib.ListN.{get_or}
use Rattle.std.specs.Prelude.{cond, Option, Some, None, is_some}
use Rattle.gtb.specs.declared.Refusal.{Refusal}
use Rattle.session.specs.declared.Session.{Session}
use Rattle.session.specs.declared.Outcome.{Outcome}
use Rattle.session.specs.declared.Outcome.TheVariants.{Taken, Again, Refused}
use Rattle.session.specs.declared.Arrived.{Arrived}
use Rattle.session.specs.Session.{overflows, recorded}
use Rattle.session.specs.Arrival.{Opened, Page, Bad, outcome_of, session_by, session_after}
use Rattle.session.specs.Steps.{Settling}

-- what holds of a session, and of it with any page recorded, holds after an arrival
pub after_cases : (P : Session → Type 0) (σ : Session) → P σ → ((number : ℕ) (marks : List ℕ) → P (recorded σ number marks)) → (o : Opened) → P (session_after σ o)
unfolding session_after
after_cases P σ same more o = by o (outcome_of σ o)
  where
    by : (o : Opened) (r : Outcome) → P (session_by σ o r)
    by (Page number marks k) (Taken p c) = more number marks
    by (Page number marks k) (Again p c) = same
    by (Page number marks k) (Refused e) = same
    by (Bad e) r = same

-- whether the marks were added tells whether a count passes its limit
pub not_added : (passes : Bool) {r : Option (Unit {0})} → r ≡ cond passes None (Some tt) → is_some r ≡ false → passes ≡ true
not_added true h none = refl
not_added false h none = cc

pub all_added : (passes : Bool) {r : Option (Unit {0})} → r ≡ cond passes None (Some tt) → is_some r ≡ true → (passes ≡ false) × (r ≡ Some tt)
all_added true h some = cc
all_added false h some = (refl, h)

-- nothing was brought
pub settle_bad : {σ : Session} {e : Refusal} → Settling σ (Bad e) (record { session = σ; outcome = Refused e })
unfolding outcome_of session_after
settle_bad = record { outcome = refl; session = refl }

module _ {σ : Session} {number k : ℕ} {marks : List ℕ} where
  pub settle_again : get_or σ.taken number false ≡ true → Settling σ (Page number marks k) (record { session = σ; outcome = Again number k })
  unfolding outcome_of session_after
  settle_again h = record { outcome = rw h; session = rw h }

  module _ (first : get_or σ.taken number false ≡ false) where
    pub settle_overflow : overflows σ.calls marks ≡ true → {r : Arrived} → (r.session ≡ σ) × (r.outcome ≡ Refused Refusal.Overflow)
        → Settling σ (Page number marks k) r
    unfolding outcome_of session_after
    settle_overflow h answered = record { outcome = answered.1 ∙ rw (first, h); session = answered.0 ∙ rw (first, h) }

    pub settle_taken : overflows σ.calls marks ≡ false → {r : Arrived} → (r.session ≡ recorded σ number marks) × (r.outcome ≡ Taken number k)
        → Settling σ (Page number marks k) r
    unfolding outcome_of session_after
    settle_taken h answered = record { outcome = answered.1 ∙ rw (first, h); session = answered.0 ∙ rw (first, h) }
