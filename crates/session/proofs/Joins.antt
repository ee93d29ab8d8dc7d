-- Arrivals one after the other: two runs joined, and the answers of a run.
use mathlib.Core.Path.{◌≡◌, refl, ap}
use mathlib.Core.List.{List, ◌++◌}
use Prim.Native.Nat.{suc}
use lib.ListN.{length}
use Rattle.session.specs.declared.Session.{Session}
use Rattle.session.specs.declared.Outcome.{Outcome}
use Rattle.session.specs.declared.Outcome.TheVariants.{Taken, Again, Refused}
use Rattle.session.specs.Arrival.{Ways, outcome_values}
use Rattle.session.specs.Recording.{Arrival}
use Rattle.session.specs.Claim.{Run, stop, step}

-- two runs, the second from where the first ends
pub run_join : {ways : Ways} {σ middle end : Session} {first later : List Arrival} {answers others : List Outcome}
    → Run ways σ first answers middle → Run ways middle later others end → Run ways σ (first ++ later) (answers ++ others) end
run_join stop later = later
run_join (step h run) later = step h (run_join run later)

-- each arrival has its answer
pub run_answered : {ways : Ways} {σ end : Session} {arrivals : List Arrival} {answers : List Outcome} → Run ways σ arrivals answers end → length answers ≡ length arrivals
run_answered stop = refl
run_answered (step h run) = ap suc (run_answered run)

-- an outcome has three values
pub outcome_size : (r : Outcome) → length (outcome_values r) ≡ 3
outcome_size (Taken p k) = refl
outcome_size (Again p k) = refl
outcome_size (Refused e) = refl
