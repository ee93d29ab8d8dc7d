-- Arrivals that come in bundles of any sizes: which they are, and demand 3 of them.
use Rattle.std.specs.Prelude.{Result}
use mathlib.Core.Path.{◌≡◌, refl, ◌∙◌}
use mathlib.Core.List.{List, [], ◌∷◌}
use mathlib.Core.Logic.{⊎_elim}
use Prim.Native.Nat.{ℕ, zero, suc, ◌<◌}
use native.Mathlib.Nat.{not-suc-le-zero, le_of_suc-le-suc, eq-or-lt_of_le}
use native.Mathlib.Omega.{arith}
use lib.ListN.{length, length-append, get_or-append}
use lib.Seq.{get_or_at}
use Rattle.gtb.specs.declared.Shape.{Shape}
use Rattle.session.specs.declared.Session.{Session}
use Rattle.session.specs.declared.Unlawful.{Unlawful}
use Rattle.session.specs.declared.Outcome.{Outcome}
use Rattle.session.specs.Session.{begun_session, Beginning}
use Rattle.session.specs.Arrival.{the_ways}
use Rattle.session.specs.Recording.{Sheet, Recording, Arrival, nothing, arrival_at, Fits}
use Rattle.session.specs.Claim.{Run, stop, Demand3}
use Rattle.session.proofs.Demand.{demand3_ways}
use Rattle.session.proofs.Joins.{run_join}
use Rattle.batch.specs.Batch.{words_in, arrival_of, first_arrivals, arrivals_of, Batches, none, more, turned}

-- ---- the arrivals of a run are its words, one each
module _ (s : Shape) (k : ℕ) (words scratch : List ℕ) where
  first_number : (m : ℕ) → length (first_arrivals s k words scratch m) ≡ m
  unfolding first_arrivals
  first_number zero = refl
  first_number (suc m) = omega (arith, length-append (first_arrivals s k words scratch m) (arrival_of s k words scratch m ∷ []), first_number m)

  first_at : (m i : ℕ) → i < m → arrival_at (first_arrivals s k words scratch m) i ≡ arrival_of s k words scratch i
  unfolding first_arrivals
  first_at zero i l = absurd (not-suc-le-zero l)
  first_at (suc m) i l =
      ⊎_elim
      (λ (e : i ≡ m). rw e (get_or_at (first_arrivals s k words scratch m) (arrival_of s k words scratch m) [] nothing m (first_number m)))
      (λ (b : i < m). get_or-append (first_arrivals s k words scratch m) (arrival_of s k words scratch m ∷ []) nothing i (rw (first_number m) b) ∙ first_at m i b)
      (eq-or-lt_of_le (le_of_suc-le-suc l))

  pub arrivals_number : length (arrivals_of s k words scratch) ≡ words_in s words
  arrivals_number = first_number (words_in s words)

  pub arrivals_at : (i : ℕ) → i < words_in s words → arrival_at (arrivals_of s k words scratch) i ≡ arrival_of s k words scratch i
  arrivals_at = first_at (words_in s words)

-- ---- bundles one after the other are one run
pub batches_run : {σ end : Session} {arrivals : List Arrival} {answers : List Outcome} → Batches σ arrivals answers end → Run the_ways σ arrivals answers end
batches_run none = stop
batches_run (more bundle whole rest) = run_join (bundle.done whole).run (batches_run rest)
batches_run (turned {e = e} bundle is rest) = rw (bundle.refused e is).0 at (batches_run rest)

-- so demand 3 holds of them
pub demand3_batches : (s : Shape) (pages : List Sheet) (arrivals : List Arrival) (answers : List Outcome) (begin : Result Session Unlawful) (end : Session)
    → Recording s pages → Fits the_ways s pages arrivals → Beginning s begin → Batches (begun_session begin) arrivals answers end
    → Demand3 the_ways s pages begin arrivals answers end
demand3_batches s pages arrivals answers begin end r fits made batches = demand3_ways s pages arrivals answers begin end r fits made (batches_run batches)
