-- The loop's sum, turn by turn, and how large a bill can be.
use mathlib.Core.Path.{◌≡◌, sym, ap, ◌∙◌}
use mathlib.Core.Bool.{Bool, true}
use mathlib.Core.List.{List}
use Prim.Native.Nat.{ℕ, ◌+◌, ◌-◌, ◌*◌, ◌^◌, ◌<◌, ◌≤◌}
use native.Mathlib.Nat.{mul-le-mul}
use native.Mathlib.Omega.{arith}
use Rattle.std.proofs.lemmas.List.{get_or-take, get_or-drop}
use Rattle.std.specs.Int.{div_ceil}
use Rattle.std.specs.Option.{SomeIff, ok_or}
use lib.Dec.{eqb, ltb}
use lib.ListN.{length, get_or, take, drop}
use borrow.Author.Tests.{lt-ltb, le-ltb, ltb-true}
use Rattle.parity.specs.Count.{sum}
use Rattle.parity.proofs.Sums.{sum_zero, sum_suc, sum_split}
use Rattle.gtb.specs.declared.Refusal.{Refusal}
use Rattle.std.specs.Prelude.{Option, Some, None, Result, Ok, Err}
use Rattle.gtb.specs.Answer.{unless}
use Rattle.gtb.proofs.Answers.{unless_passed}
use Rattle.session.specs.declared.Session.{Session}
use Rattle.session.specs.Session.{session_status, past}
use Rattle.energy.specs.Energy.{calls_of, millis, rounded_up, due, bill_of}

-- a longer range sums up to no less
sum_rises : (n m : ℕ) (f : ℕ → ℕ) → n ≤ m → sum n f ≤ sum m f
sum_rises n m f l =
    let e : sum m f ≡ sum (n + (m - n)) f = ap (λ (k : ℕ). sum k f) (omega arith) in
    omega (arith, sum_split n (m - n) f)

-- two u32 multiplied
pub product_fits : (a b : ℕ) → a < 2 ^ 32 → b < 2 ^ 32 → a * b < 2 ^ 64
product_fits a b la lb = let l : a * b ≤ 4294967295 * 4294967295 = mul-le-mul {n₁ = a} {m₁ = b} {n₂ = 4294967295} {m₂ = 4294967295} (omega arith) (omega arith) in omega arith

-- divided and rounded up
pub whole_up : (m : ℕ) → div_ceil m 1000 ≡ rounded_up m
whole_up m = omega arith

-- a checked sum
pub fitted : (r : Option ℕ) (a x : ℕ) → SomeIff r (a < 2 ^ 64) a → ok_or r Refusal.Bill ≡ Ok x → (a < 2 ^ 64) × (x ≡ a)
fitted (Some y) a x h is = (h.0, cc (h.1))
fitted None a x h is = cc

pub passed_limit : (r : Option ℕ) (a : ℕ) {e : Refusal} → SomeIff r (a < 2 ^ 64) a → ok_or r Refusal.Bill ≡ Err e → (2 ^ 64 ≤ a) × (e ≡ Refusal.Bill)
passed_limit (Some y) a h is = cc
passed_limit None a h is = (omega arith, cc)

-- item n of those behind the first
pub behind_first : (xs : List ℕ) (m n x : ℕ) → n < m → x ≡ get_or (take m (drop 1 xs)) n 0 → x ≡ get_or xs (n + 1) 0
behind_first xs m n x l h = h ∙ get_or-take m (drop 1 xs) n 0 l ∙ get_or-drop 1 xs n 0 ∙ ap (λ (k : ℕ). get_or xs k 0) (omega arith)

module _ (calls : ℕ → ℕ) (prices : List ℕ) where
  -- what n functions from function 1 on cost
  abbrev pub up_to : ℕ → ℕ
  up_to n = sum n (λ k. calls (k + 1) * get_or prices (k + 1) 0)

  pub up_to_none : 0 ≡ up_to 0
  up_to_none = sym (sum_zero (λ k. calls (k + 1) * get_or prices (k + 1) 0))

  pub up_to_more : (n : ℕ) {x : ℕ} → x ≡ up_to n → x + calls (n + 1) * get_or prices (n + 1) 0 ≡ up_to (n + 1)
  up_to_more n h = ap (λ (a : ℕ). a + calls (n + 1) * get_or prices (n + 1) 0) h ∙ sym (sum_suc n (λ k. calls (k + 1) * get_or prices (k + 1) 0)) ∙ ap up_to (omega arith)

  -- a sum that does not fit: nor does the whole
  pub over : {n x : ℕ} → n ≤ 255 → x ≡ up_to n → 2 ^ 64 ≤ x → due (millis calls prices) ≡ Err Refusal.Bill
  unfolding due millis
  over {n} {x} l h much =
      let rise : up_to n ≤ millis calls prices = sum_rises n 255 (λ k. calls (k + 1) * get_or prices (k + 1) 0) l in
      rw (le-ltb (millis calls prices) (2 ^ 64) (omega arith))

  -- every term fitted
  pub whole : {n x : ℕ} → n ≡ 255 → x ≡ up_to n → x < 2 ^ 64 → due (millis calls prices) ≡ Ok (rounded_up x)
  unfolding due millis
  whole {n} {x} e h fits =
      let is : millis calls prices ≡ x = ap up_to (sym e) ∙ sym h in
      rw (is, lt-ltb x (2 ^ 64) fits)

-- ---- a bill is below every refusal's number
passed : (t : Bool) (e : Refusal) (next : Result ℕ Refusal) (p : ℕ) → unless t (Err e) next ≡ Ok p → (t ≡ true) × (next ≡ Ok p)
passed t e next p = unless_passed t (Err e) next (λ h. let z : ◌≡◌ {A = ℕ} 0 1 = cc in omega arith)

past_billed : (t : Result (Unit {0}) Refusal) (next : Result ℕ Refusal) (p : ℕ) → past t Err next ≡ Ok p → next ≡ Ok p
past_billed (Ok tt) next p h = h
past_billed (Err e) next p h = let z : ◌≡◌ {A = ℕ} 0 1 = cc in absurd (omega arith)

due_small : (m p : ℕ) → due m ≡ Ok p → p < 2 ^ 63
unfolding due
due_small m p h =
    let fits = passed (ltb m (2 ^ 64)) Refusal.Bill (Ok (rounded_up m)) p h in
    let is : rounded_up m ≡ p = cc fits.1 in
    omega (arith, ltb-true m (2 ^ 64) fits.0)

pub bill_small : (σ : Session) (prices : List ℕ) (p : ℕ) → bill_of σ prices ≡ Ok p → p < 2 ^ 63
unfolding bill_of
bill_small σ prices p h =
    due_small (millis (calls_of σ) prices) p
    (passed (eqb (length prices) 256) Refusal.Length _ p (past_billed (session_status σ) _ p h)).1
