-- The bill is what the paper asks.
use mathlib.Core.Path.{◌≡◌, ap}
use mathlib.Core.List.{List}
use Prim.Native.Nat.{ℕ, ◌+◌, ◌-◌, ◌*◌, ◌^◌, ◌<◌}
use native.Mathlib.Omega.{arith}
use lib.Dec.{eqb, ltb}
use lib.ListN.{length, get_or}
use borrow.Author.Tests.{ltb-true, ltb-false}
use Rattle.parity.proofs.Sums.{sum_cong}
use Rattle.paper.specs.Paper as paper
use Rattle.gtb.proofs.Judging.{Decides, decides_eqb, test}
use Rattle.session.specs.declared.Session.{Session}
use Rattle.session.specs.Session.{plain}
use Rattle.session.proofs.Paper.{session_tests_lem}
use Rattle.std.specs.Prelude.{Result, Err}
use Rattle.gtb.specs.declared.Refusal.{Refusal}
use Rattle.energy.specs.Energy.{calls_of, millis, rounded_up, due, bill_of, billed_number}

module _ (σ : Session) where
  same_cost : (prices : List ℕ) → millis (calls_of σ) prices ≡ paper.cost (plain σ) prices
  unfolding millis
  same_cost prices =
      sum_cong 255 _ _ (λ i l. let e : i + 1 ≡ 1 + i = omega arith in ap (λ (f : ℕ). get_or σ.calls f 0 * get_or prices f 0) e)

  decides_bill : (m : ℕ) → Decides (ltb m (2 ^ 64)) (2 ^ 64 - 1 < m)
  decides_bill m = record { holds = λ h. let l = ltb-false m (2 ^ 64) h in omega arith; fails = λ h large. let l = ltb-true m (2 ^ 64) h in omega arith }

  rounded : {m c p : ℕ} → m ≡ c → p ≡ rounded_up m → paper.RoundedUp c p
  rounded same h = record { enough = omega arith; least = omega arith }

  pub billing : (prices : List ℕ) {r : Result ℕ Refusal} → r ≡ bill_of σ prices
      → paper.Billing (plain σ) prices (billed_number r)
  unfolding bill_of due
  billing prices =
      session_tests_lem σ Err _ (ap billed_number) (ap billed_number) (ap billed_number)
      (test (eqb (length prices) 256) _ _ (decides_eqb _ _) (ap billed_number) (λ _.
      test (ltb (millis (calls_of σ) prices) (2 ^ 64)) _ _ (rw (same_cost prices) (decides_bill _)) (ap billed_number) (λ _ h.
      rounded (same_cost prices) (ap billed_number h))))

  pub billing_asked : (prices : List ℕ) {r : Result ℕ Refusal} → r ≡ bill_of σ prices → (r ≡ bill_of σ prices) × paper.Billing (plain σ) prices (billed_number r)
  billing_asked prices h = (h, billing prices h)
