-- The number of every answer (RULES 6) in numerals, and that no refusal's number is another answer's.
use Rattle.std.specs.Prelude.{◌≡◌, List, [], ◌∷◌, ℕ, ◌+◌, ◌*◌, ◌<◌, ◌≤◌, get_or, Result, Ok, Err, true, false}
use Rattle.gtb.specs.declared.Shape.{Shape}
use Rattle.gtb.specs.declared.Refusal.{Refusal}
use Rattle.gtb.specs.Answer.{refusal_number, status_number, answer_number}
use Rattle.decoder.specs.Decode.{Decoding}
use Rattle.majority.specs.Majority.{Voting}
use Rattle.double.specs.Double.{ReadingTwo}
use Rattle.nearest.specs.Nearest.{Restoring}
use Rattle.erasure.specs.Fill.{Filling}
use Rattle.restore.specs.Restore.{Recovering}
use Rattle.page.specs.Page.{page_of, read_number}
use Rattle.session.specs.declared.Session.{Session}
use Rattle.session.specs.declared.Outcome.TheVariants as outcome
use Rattle.session.specs.Session.{counted_of, counted_number}
use Rattle.session.specs.Arrival.{outcome_values}
use Rattle.energy.specs.Energy.{bill_of, billed_number}
use Rattle.coverage.specs.Coverage.{cover_of}
use Rattle.host.specs.Exported.{word_of, page_in}
use Rattle.verify.specs.Verify.{verdict_number}

-- what refusals add: 2^31 with u32, 2^32 for a count, 2^63 for a bill
abbrev above : {A : Type 0} → (A → ℕ) → (Refusal → A) → ℕ → Type 0
above form refused base = (e : Refusal) → form (refused e) ≡ base + refusal_number e

pub record Numbers : Type 0 where
  -- the refusals
  pub r1 : refusal_number Refusal.Shape ≡ 1
  pub r2 : refusal_number Refusal.Length ≡ 2
  pub r3 : refusal_number Refusal.Width ≡ 3
  pub r4 : refusal_number Refusal.Uncorrectable ≡ 4
  pub r5 : refusal_number Refusal.Page ≡ 5
  pub r6 : refusal_number Refusal.Count ≡ 6
  pub r7 : refusal_number Refusal.Function ≡ 7
  pub r8 : refusal_number Refusal.Tail ≡ 8
  pub r9 : refusal_number Refusal.Overflow ≡ 9
  pub r10 : refusal_number Refusal.Syntax ≡ 10
  pub r11 : refusal_number Refusal.Figures ≡ 11
  pub r12 : refusal_number Refusal.Places ≡ 12
  pub r13 : refusal_number Refusal.Unfillable ≡ 13
  pub r14 : refusal_number Refusal.Ambiguous ≡ 14
  pub r15 : refusal_number Refusal.NoMajority ≡ 15
  pub r16 : refusal_number Refusal.Directions ≡ 16
  pub r17 : refusal_number Refusal.BeyondTwo ≡ 17
  pub r18 : refusal_number Refusal.Slope ≡ 18
  pub r19 : refusal_number Refusal.Bill ≡ 19
  pub r20 : refusal_number Refusal.Far ≡ 20
  pub status : (status_number (Ok tt) ≡ 0) × above status_number Err 2147483648
  pub read : ((k : ℕ) → answer_number (Ok k) ≡ k) × above answer_number Err 2147483648
  pub page : ((p c : ℕ) → read_number (Ok (p, c)) ≡ 1024 * p + c) × above read_number Err 2147483648
  pub verdict : (verdict_number (Ok true) ≡ 1) × (verdict_number (Ok false) ≡ 0) × above verdict_number Err 2147483648
  pub cover : ((k : ℕ) → answer_number (Ok k) ≡ k) × above answer_number Err 2147483648
  pub counted : ((k : ℕ) → counted_number (Ok k) ≡ k) × above counted_number Err 4294967296
  pub bill : ((p : ℕ) → billed_number (Ok p) ≡ p) × above billed_number Err 9223372036854775808
  pub taken : (p k : ℕ) → outcome_values (outcome.Taken p k) ≡ 0 ∷ p ∷ k ∷ []
  pub again : (p k : ℕ) → outcome_values (outcome.Again p k) ≡ 1 ∷ p ∷ k ∷ []
  pub refused : (e : Refusal) → outcome_values (outcome.Refused e) ≡ 2 ∷ refusal_number e ∷ 0 ∷ []

-- what is no refusal stays below what refusals add; a count is a u32 of the session
pub record NoRefusal : Type 0 where
  pub clean : {s : Shape} {w w' : List ℕ} {r : Result ℕ Refusal} (k : ℕ) → Decoding s w w' r → r ≡ Ok k → k ≤ 7
  pub vote : {s : Shape} {w w' : List ℕ} {r : Result ℕ Refusal} (k : ℕ) → Voting s w w' r → r ≡ Ok k → k ≤ 7
  pub two : {s : Shape} {w w' : List ℕ} {r : Result ℕ Refusal} (k : ℕ) → ReadingTwo s w w' r → r ≡ Ok k → k ≤ 7
  pub nearest : {s : Shape} {w w' : List ℕ} {r : Result ℕ Refusal} (k : ℕ) → Restoring s w w' r → r ≡ Ok k → k ≤ 7
  pub filled : {s : Shape} {w places x w' x' : List ℕ} {r : Result ℕ Refusal} (k : ℕ) → Filling s w places x w' x' r → r ≡ Ok k → k ≤ 961
  pub restored : {s : Shape} {w places x w' x' : List ℕ} {r : Result ℕ Refusal} (k : ℕ) → Recovering s w places x w' x' r → r ≡ Ok k → k ≤ 961
  -- of the exported pair
  pub word_bytes : (s : Shape) (bytes : List ℕ) (k : ℕ) → word_of s bytes ≡ Ok k → k ≤ 7
  pub page_bytes : (s : Shape) (bytes : List ℕ) (p c : ℕ) → page_in s bytes ≡ Ok (p, c) → (p < 1024) × (c < 1024) × (1024 * p + c < 2147483648)
  -- of the page reader
  pub page : (s : Shape) (symbols : List ℕ) (p c : ℕ) → page_of s symbols ≡ Ok (p, c) → (p < 1024) × (c < 1024) × (1024 * p + c < 2147483648)
  pub cover : (σ : Session) (bytes : List ℕ) (k : ℕ) → cover_of σ bytes ≡ Ok k → k ≤ 256
  pub counted : (σ : Session) → ((f : ℕ) → get_or σ.calls f 0 < 4294967296) → (f k : ℕ) → counted_of σ f ≡ Ok k → k < 4294967296
  pub bill : (σ : Session) (prices : List ℕ) (p : ℕ) → bill_of σ prices ≡ Ok p → p < 9223372036854775808
