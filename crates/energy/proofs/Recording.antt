-- After a list that fits a recording the bill is that of the recording's own tally.
use mathlib.Core.Path.{◌≡◌, ap, ◌∙◌}
use mathlib.Core.Bool.{true}
use mathlib.Core.List.{List, ◌∷◌}
use Prim.Native.Nat.{ℕ, ◌+◌, ◌-◌, ◌*◌, ◌^◌, ◌<◌, ◌≤◌}
use native.Mathlib.Nat.{mul-le-mul}
use native.Mathlib.Numerals.{add-one}
use native.Mathlib.Omega.{arith}
use lib.Dec.{eqb, ltb}
use lib.ListN.{length, get_or}
use borrow.Author.Tests.{eq-eqb, lt-ltb}
use Rattle.parity.proofs.Sums.{sum_cong, sum_le, sum_const}
use Rattle.gtb.specs.declared.Shape.{Shape}
use Rattle.gtb.specs.declared.Refusal.{Refusal}
use Rattle.std.specs.Prelude.{Result, Ok, Err}
use Rattle.gtb.specs.Shape.{lawful, Lawful}
use Rattle.gtb.specs.Answer.{unless}
use Rattle.gtb.specs.Alike.{Alike}
use Rattle.session.specs.declared.Session.{Session}
use Rattle.session.specs.declared.Unlawful.{Unlawful}
use Rattle.session.specs.declared.Outcome.{Outcome}
use Rattle.session.specs.Session.{begun_session, Beginning, session_status, past}
use Rattle.session.specs.Arrival.{Ways, the_ways}
use Rattle.session.specs.Recording.{Sheet, Recording, tally, Arrival, Fits}
use Rattle.session.specs.Claim.{Run, EveryList, Demand3}
use Rattle.session.proofs.Demand.{demand3_ways}
use Rattle.session.proofs.Alikes.{resloped, session_status_alike}
use Rattle.energy.specs.Energy.{calls_of, millis, rounded_up, due, bill_of}

-- the counts of functions 1 to 255 decide
pub same_millis : (calls others : ℕ → ℕ) → ((f : ℕ) → f < 256 → calls f ≡ others f) → (prices : List ℕ) → millis calls prices ≡ millis others prices
unfolding millis
same_millis calls others same prices = sum_cong 255 _ _ (λ f l. ap (λ (x : ℕ). x * get_or prices (f + 1) 0) (same (f + 1) (omega arith)))

-- the price of function 0 has no bearing
pub idle_free : (calls : ℕ → ℕ) (price other : ℕ) (prices : List ℕ) → millis calls (price ∷ prices) ≡ millis calls (other ∷ prices)
unfolding millis
idle_free calls price other prices = sum_cong 255 _ _ (λ f l. rw (add-one f))

-- nor have the slopes past the first n - 1
pub bill_alike : (σ : Session) (slopes : List ℕ) → Alike σ.shape slopes → (prices : List ℕ) → bill_of (resloped σ slopes) prices ≡ bill_of σ prices
unfolding bill_of
bill_alike σ slopes alike prices =
    ap (λ (t : Result (Unit {0}) Refusal). past t Err (unless (eqb (length prices) 256) (Err Refusal.Length) (due (millis (calls_of σ) prices)))) (session_status_alike σ slopes alike)

pub recording_bill : {ways : Ways} {s : Shape} {pages : List Sheet} {begin : Result Session Unlawful} {arrivals : List Arrival} {answers : List Outcome} {end : Session}
    → Recording s pages → Demand3 ways s pages begin arrivals answers end → (prices : List ℕ) → length prices ≡ 256
    → bill_of end prices
    ≡ unless (ltb (millis (tally pages (λ p. true)) prices) (2 ^ 64)) (Err Refusal.Bill) (Ok (rounded_up (millis (tally pages (λ p. true)) prices)))
unfolding bill_of session_status due
recording_bill {pages = pages} {end = end} recording d prices size =
    rw (ap lawful d.every.shape ∙ recording.lawful, d.every.consistent, eq-eqb (length prices) 256 size)
    (ap due (same_millis (calls_of end) (tally pages (λ p. true)) d.whole prices))

-- 1,024 pages of 898 marks each at the highest price stay below 2^64 thousandths
pub millis_few : (calls : ℕ → ℕ) (prices : List ℕ) → ((f : ℕ) → f < 256 → calls f ≤ 1024 * 898) → ((f : ℕ) → f < 256 → get_or prices f 0 < 2 ^ 32)
    → millis calls prices < 2 ^ 64
unfolding millis
millis_few calls prices few priced =
    let top : ℕ = 1024 * 898 * (2 ^ 32 - 1) in
    let price : (f : ℕ) → f < 255 → get_or prices (f + 1) 0 ≤ 2 ^ 32 - 1 = λ f l. omega (arith, priced (f + 1) (omega arith)) in
    let each : (f : ℕ) → f < 255 → calls (f + 1) * get_or prices (f + 1) 0 ≤ top = λ f l. mul-le-mul (few (f + 1) (omega arith)) (price f l) in
    let all = sum_le 255 _ (λ f. top) each in
    omega (arith, all, sum_const 255 top)

-- so whatever arrived since the session was made, 19 never comes of prices below 2^32
pub never_over : {ways : Ways} {s : Shape} {start : Session} {arrivals : List Arrival} {answers : List Outcome} {end : Session}
    → Lawful s → EveryList ways s start arrivals answers end → (prices : List ℕ) → length prices ≡ 256 → ((f : ℕ) → f < 256 → get_or prices f 0 < 2 ^ 32)
    → bill_of end prices ≡ Ok (rounded_up (millis (calls_of end) prices))
unfolding bill_of session_status due
never_over {end = end} legal every prices size priced =
    rw (ap lawful every.shape ∙ legal, every.consistent, eq-eqb (length prices) 256 size, lt-ltb _ (2 ^ 64) (millis_few (calls_of end) prices every.few priced))

-- and for every recording and every list of arrivals that fits it the bill is that of its own tally
pub fitting_bill : {s : Shape} {pages : List Sheet} {begin : Result Session Unlawful} {arrivals : List Arrival} {answers : List Outcome} {end : Session}
    → Recording s pages → Fits the_ways s pages arrivals → Beginning s begin → Run the_ways (begun_session begin) arrivals answers end
    → (prices : List ℕ) → length prices ≡ 256 → ((f : ℕ) → f < 256 → get_or prices f 0 < 2 ^ 32)
    → bill_of end prices ≡ Ok (rounded_up (millis (tally pages (λ p. true)) prices))
fitting_bill {s} {pages} {begin} {arrivals} {answers} {end} recording fits made run prices size priced =
    let d = demand3_ways s pages arrivals answers begin end recording fits made run in
    never_over recording.lawful d.every prices size priced
    ∙ ap (λ (m : ℕ). Ok (rounded_up m)) (same_millis (calls_of end) (tally pages (λ p. true)) d.whole prices)
