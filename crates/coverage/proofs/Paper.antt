-- The coverage viewer does what the paper asks.
use mathlib.Core.Path.{◌≡◌, sym, ap, ◌∙◌}
use mathlib.Core.Bool.{true, false}
use mathlib.Core.List.{List}
use mathlib.Core.Logic.{◌⊎◌, inl, inr, ⊎_elim}
use Prim.Native.Nat.{ℕ, ◌+◌, ◌^◌, ◌<◌}
use native.Mathlib.Omega.{arith}
use lib.Dec.{eqb, ltb}
use lib.ListN.{length, get_or}
use borrow.Author.Tests.{ltb-true, ltb-false}
use Rattle.parity.specs.Count.{count}
use Rattle.parity.proofs.Tests.{either}
use Rattle.parity.proofs.Sums.{bit_true, bit_false}
use Rattle.parity.proofs.Lists.{length_tabulate, at_tabulate}
use Rattle.paper.specs.Paper as paper
use Rattle.gtb.specs.declared.Refusal.{Refusal}
use Rattle.gtb.specs.Answer.{refusal_number, answer_number}
use Rattle.gtb.proofs.Judging.{decides_eqb, test}
use Rattle.session.specs.declared.Session.{Session}
use Rattle.session.specs.Session.{plain}
use Rattle.session.proofs.Paper.{session_tests_lem}
use Rattle.std.specs.Prelude.{Result, Err}
use Rattle.coverage.specs.Coverage.{cover_byte, cover_bytes, cover_of, bytes_after, Covering}
use Rattle.coverage.proofs.Marks.{number_of_ones}

byte_at : (calls : List ℕ) (f : ℕ) → f < 256 → ((0 < get_or calls f 0) × (get_or (cover_bytes calls) f 0 ≡ 1)) ⊎ ((get_or calls f 0 ≡ 0) × (get_or (cover_bytes calls) f 0 ≡ 0))
unfolding cover_bytes
byte_at calls f l =
    ⊎_elim (λ (t : ltb 0 (get_or calls f 0) ≡ true). inl (ltb-true _ _ t, at_tabulate 256 (cover_byte calls) f l ∙ bit_true t))
    (λ (n : ltb 0 (get_or calls f 0) ≡ false). inr ((let few = ltb-false 0 (get_or calls f 0) n in omega arith), at_tabulate 256 (cover_byte calls) f l ∙ bit_false n))
    (either (ltb 0 (get_or calls f 0)))

bytes_size : (calls : List ℕ) → length (cover_bytes calls) ≡ 256
unfolding cover_bytes
bytes_size calls = length_tabulate 256 (cover_byte calls)

pub covering : (σ : Session) {bytes bytes' : List ℕ} {r : Result ℕ Refusal} → Covering σ bytes bytes' r
    → paper.Covering (plain σ) bytes bytes' (answer_number r)
unfolding cover_of
covering σ {bytes} {bytes'} {r} x =
    session_tests_lem σ Err _ (turn Refusal.Shape) (turn Refusal.Slope) (turn Refusal.Figures)
    (test (eqb (length bytes) 256) _ _ (decides_eqb _ _) (turn Refusal.Length) (λ _ h.
    let left : bytes' ≡ cover_bytes σ.calls = x.left ∙ ap (bytes_after σ bytes) h in
    (ap length left ∙ bytes_size σ.calls, (λ f l. rw left (byte_at σ.calls f l)), ap answer_number h ∙ sym (number_of_ones σ.calls) ∙ ap (λ (b : List ℕ). count 256 (λ f. eqb (get_or b f 0) 1)) (sym left))))
    x.answer
  where
    turn : (e : Refusal) → r ≡ Err e → (answer_number r ≡ 2 ^ 31 + refusal_number e) × (bytes' ≡ bytes)
    turn e h = (ap answer_number h, x.left ∙ ap (bytes_after σ bytes) h)

pub covering_asked : {σ : Session} {bytes bytes' : List ℕ} {r : Result ℕ Refusal} → Covering σ bytes bytes' r → Covering σ bytes bytes' r × paper.Covering (plain σ) bytes bytes' (answer_number r)
covering_asked {σ} x = (x, covering σ x)
