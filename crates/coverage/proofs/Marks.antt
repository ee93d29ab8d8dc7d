-- The loop over the functions, turn by turn, and the bytes that it leaves.
use mathlib.Core.Path.{◌≡◌, refl, sym, ap, ap₂, ◌∙◌}
use mathlib.Core.Bool.{Bool, true, false}
use mathlib.Core.List.{List}
use Prim.Native.Nat.{ℕ, ◌+◌, ◌<◌, ◌≤◌}
use native.Mathlib.Omega.{arith}
use lib.Dec.{eqb, ltb}
use lib.ListN.{length, get_or, set}
use borrow.Author.Tests.{lt-ltb, le-ltb}
use Rattle.parity.specs.Count.{bit, count}
use Rattle.parity.proofs.Sums.{bit_true, bit_false, bit_le, count_zero, count_more, count_bound, count_cong}
use Rattle.parity.proofs.Lists.{at_tabulate}
use Rattle.parity.proofs.Writes.{begins_none, begins_more, begins_all}
use Rattle.gtb.specs.declared.Refusal.{Refusal}
use Rattle.session.specs.declared.Session.{Session}
use Rattle.std.specs.Prelude.{Ok, Err}
use Rattle.coverage.specs.Coverage.{is_called, cover_byte, cover_bytes, cover_count, cover_of, Covering}
use Rattle.coverage.specs.Steps.{Marking}

-- a count above k or not, as a byte
pub byte_yes : (k calls : ℕ) → k < calls → 1 ≡ bit (ltb k calls)
byte_yes k calls l = sym (bit_true (lt-ltb k calls l))

pub byte_no : (k calls : ℕ) → calls ≤ k → 0 ≡ bit (ltb k calls)
byte_no k calls l = sym (bit_false (le-ltb k calls l))

-- no function yet
pub marking_none : (calls bytes : List ℕ) → length bytes ≡ 256 → Marking calls 0 bytes 0
marking_none calls bytes size = record { written = begins_none size; number = sym (count_zero (is_called calls)) }

-- one more
pub marking_more : {calls bytes : List ℕ} {f covered byte : ℕ} → Marking calls f bytes covered → f < 256 → byte ≡ cover_byte calls f
    → Marking calls (f + 1) (set bytes f byte) (covered + byte)
marking_more {calls} {bytes} {f} {covered} {byte} m l is = record {
  written = begins_more byte l is m.written;
  number = ap₂ (λ (x y : ℕ). x + y) m.number is ∙ sym (count_more f (is_called calls));
}

-- a yes more still fits
pub marking_fits : {calls bytes : List ℕ} {f covered byte : ℕ} → Marking calls f bytes covered → f < 256 → byte ≡ cover_byte calls f → covered + byte ≤ 256
marking_fits {calls} {bytes} {f} m l is = omega (arith, m.number, is, count_bound f (is_called calls), bit_le (is_called calls f))

-- all of them
marking_all : {calls bytes : List ℕ} {covered : ℕ} → Marking calls 256 bytes covered → (bytes ≡ cover_bytes calls) × (covered ≡ cover_count calls)
unfolding cover_bytes cover_count
marking_all {calls} {bytes} m = (begins_all m.written, m.number)

-- the answer is the number of bytes that are 1
yes_one : (b : Bool) → eqb (bit b) 1 ≡ b
unfolding bit
yes_one true = refl
yes_one false = refl

pub number_of_ones : (calls : List ℕ) → count 256 (λ f. eqb (get_or (cover_bytes calls) f 0) 1) ≡ cover_count calls
unfolding cover_bytes cover_count
number_of_ones calls =
    count_cong 256 _ _ (λ f l. ap (λ (x : ℕ). eqb x 1) (at_tabulate 256 (cover_byte calls) f l) ∙ yes_one (is_called calls f))

-- so it is below every refusal's number
pub cover_small : (calls : List ℕ) → cover_count calls ≤ 256
unfolding cover_count
cover_small calls = count_bound 256 (is_called calls)

-- ---- what the viewer answers and leaves
pub refusing : (σ : Session) (bytes : List ℕ) {e : Refusal} → Err e ≡ cover_of σ bytes → Covering σ bytes bytes (Err e)
refusing σ bytes h = record { answer = h; left = refl }

pub covering : (σ : Session) (bytes : List ℕ) {bytes' : List ℕ} {covered : ℕ} → cover_of σ bytes ≡ Ok (cover_count σ.calls)
    → Marking σ.calls 256 bytes' covered → Covering σ bytes bytes' (Ok covered)
covering σ bytes {bytes'} {covered} h m =
    let all = marking_all m in
    let is : Ok covered ≡ cover_of σ bytes = ap Ok all.1 ∙ sym h in
    record { answer = is; left = all.0 }
