-- The energy of a run (RULES 5.1).
use Rattle.std.specs.Prelude.{List, ℕ, ◌+◌, ◌*◌, ◌/◌, ◌^◌, eqb, ltb, length, get_or, Result, Ok, Err}
use Rattle.parity.specs.Count.{sum}
use Rattle.gtb.specs.declared.Refusal.{Refusal}
use Rattle.gtb.specs.Answer.{refusal_number, unless}
use Rattle.session.specs.declared.Session.{Session}
use Rattle.session.specs.Session.{session_status, past}

-- how often a session counts function f
abbrev pub calls_of : Session → ℕ → ℕ
calls_of σ f = get_or σ.calls f 0

-- thousandths of a picojoule: the sum over functions 1 to 255 of calls × price
unfoldable pub millis : (ℕ → ℕ) → List ℕ → ℕ
millis calls prices = sum 255 (λ f. calls (f + 1) * get_or prices (f + 1) 0)

-- rounded up to whole picojoules, once
abbrev pub rounded_up : ℕ → ℕ
rounded_up m = (m + 999) / 1000

-- what such a sum is billed with: test 19, then rounded
unfoldable pub due : ℕ → Result ℕ Refusal
due m = unless (ltb m (2 ^ 64)) (Err Refusal.Bill) (Ok (rounded_up m))

-- a bill tests 1, 18, 11, 2, 19
unfoldable pub bill_of : Session → List ℕ → Result ℕ Refusal
bill_of σ prices =
    past (session_status σ) Err
    (unless (eqb (length prices) 256) (Err Refusal.Length)
    (due (millis (calls_of σ) prices)))

-- as one number, a refusal above all bills
abbrev pub billed_number : Result ℕ Refusal → ℕ
billed_number (Ok p) = p
billed_number (Err e) = 2 ^ 63 + refusal_number e
