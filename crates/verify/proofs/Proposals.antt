-- Arrivals of proposals that got yes leave, from any session, what the received words would have left.
use mathlib.Core.Path.{◌≡◌, refl, sym, ap, ap₂, ◌∙◌, subst₂}
use mathlib.Core.Bool.{Bool, true, false, cond}
use mathlib.Core.List.{List, [], ◌∷◌}
use mathlib.Core.Logic.{◌⊎◌, ⊎_elim}
use Prim.Native.Nat.{◌<◌, ℕ, zero, suc, suc-le-suc, zero-le}
use native.Mathlib.Nat.{le_of_suc-le-suc}
use native.Mathlib.Omega.{arith}
use lib.Dec.{eqb}
use lib.ListN.{length, take, get_or}
use borrow.Author.Tests.{eq-eqb}
use Rattle.gtb.specs.declared.Shape.{Shape}
use Rattle.gtb.specs.declared.Refusal.{Refusal}
use Rattle.std.specs.Prelude.{Result, Ok, Err}
use Rattle.gtb.specs.Shape.{Lawful, word_length, scratch_length}
use Rattle.gtb.specs.Square.{Codeword}
use Rattle.gtb.specs.Positions.{extract_of}
use Rattle.gtb.specs.Answer.{unless}
use Rattle.decoder.specs.Decode.{decode_of, restored}
use Rattle.decoder.proofs.Meaning.{codeword_explains, explains_decode}
use Rattle.page.specs.Page.{page_of}
use Rattle.session.specs.declared.Session.{Session}
use Rattle.session.specs.declared.Outcome.{Outcome}
use Rattle.session.specs.declared.Outcome.TheVariants.{Taken, Again, Refused}
use Rattle.session.specs.Session.{past, overflows}
use Rattle.session.specs.Arrival.{is_way, way_of, the_ways, Opened, Page, Bad, open_page, opened, arrival_status, presented, outcome_of, session_by, session_after}
use Rattle.session.specs.Recording.{arrival_at, Arrival}
use Rattle.session.specs.Claim.{Run, answer_at}
use Rattle.session.proofs.Alikes.{shape_kept}
use Rattle.session.proofs.Fed.{brought, answers_of, end_of, run_answers, run_end}
use Rattle.verify.specs.Verify.{verdict_of}
use Rattle.verify.specs.Proposals.{Replaced, Proposed, without_number, AnswersAlike}
use Rattle.verify.proofs.Meaning.{yes_explains}

-- what was brought, without the digits changed
abbrev plain : Opened → Opened
plain (Page number marks k) = Page number marks 0
plain (Bad e) = Bad e

-- ---- one word

-- a codeword is read as it is
codeword_read : (s : Shape) → Lawful s → (v : List ℕ) → Codeword s v → (decode_of s v ≡ Ok 0) × (restored s v ≡ v)
codeword_read s law v stored = explains_decode s law v v 0 (codeword_explains s v stored)

-- what a word opens to that is read as v
abbrev opened_to : Shape → List ℕ → List ℕ → ℕ → Opened
opened_to s v scratch k = unless (eqb (length scratch) (scratch_length s)) (Bad Refusal.Length) (open_page s (extract_of s v) k (page_of s (extract_of s v)))

opens : (s : Shape) (w v scratch : List ℕ) (k : ℕ) → Lawful s → length w ≡ word_length s → decode_of s w ≡ Ok k → restored s w ≡ v
    → opened the_ways s 0 w scratch ≡ opened_to s v scratch k
unfolding opened is_way way_of
opens s w v scratch k law size read word = rw (law, eq-eqb (length w) (word_length s) size, read, word)

page_plain : (s : Shape) (symbols : List ℕ) (k k' : ℕ) (r : Result (ℕ × ℕ) Refusal) → plain (open_page s symbols k r) ≡ plain (open_page s symbols k' r)
page_plain s symbols k k' (Ok (number, c)) = refl
page_plain s symbols k k' (Err e) = refl

unless_plain : (t : Bool) (e : Refusal) (o o' : Opened) → plain o ≡ plain o' → plain (unless t (Bad e) o) ≡ plain (unless t (Bad e) o')
unless_plain true e o o' h = h
unless_plain false e o o' h = refl

past_plain : (t : Result (Unit {0}) Refusal) (o o' : Opened) → plain o ≡ plain o' → plain (past t Bad o) ≡ plain (past t Bad o')
past_plain (Ok tt) o o' h = h
past_plain (Err e) o o' h = refl

opened_plain : (s : Shape) (w v scratch : List ℕ) → verdict_of s w v ≡ Ok true → plain (opened the_ways s 0 v scratch) ≡ plain (opened the_ways s 0 w scratch)
opened_plain s w v scratch h =
    let a = yes_explains s w v h in
    let (read, word) = explains_decode s a.law w v a.changed a.explains in
    let (read', word') = codeword_read s a.law v a.explains.codeword in
    ap plain (opens s v v scratch 0 a.law a.explains.codeword.word.size read' word')
    ∙ unless_plain (eqb (length scratch) (scratch_length s)) Refusal.Length _ _ (page_plain s (extract_of s v) 0 a.changed (page_of s (extract_of s v)))
    ∙ sym (ap plain (opens s w v scratch a.changed a.law a.received.size read word))

-- ---- one arrival, at any session
presented_plain : (σ : Session) (w v scratch : List ℕ) → verdict_of σ.shape w v ≡ Ok true
    → plain (presented the_ways σ 0 v scratch) ≡ plain (presented the_ways σ 0 w scratch)
unfolding presented
presented_plain σ w v scratch h = past_plain (arrival_status the_ways σ 0) _ _ (opened_plain σ.shape w v scratch h)

-- the digits changed decide neither the answer nor the session
bare_answer : (again over : Bool) (number k : ℕ)
    → without_number (cond again (Again number k) (cond over (Refused Refusal.Overflow) (Taken number k)))
    ≡ without_number (cond again (Again number 0) (cond over (Refused Refusal.Overflow) (Taken number 0)))
bare_answer true over number k = refl
bare_answer false true number k = refl
bare_answer false false number k = refl

outcome_plain : (σ : Session) (o : Opened) → without_number (outcome_of σ o) ≡ without_number (outcome_of σ (plain o))
unfolding outcome_of
outcome_plain σ (Page number marks k) = bare_answer (get_or σ.taken number false) (overflows σ.calls marks) number k
outcome_plain σ (Bad e) = refl

left_by : (σ : Session) (again over : Bool) (number : ℕ) (marks : List ℕ) (k : ℕ)
    → session_by σ (Page number marks k) (cond again (Again number k) (cond over (Refused Refusal.Overflow) (Taken number k)))
    ≡ session_by σ (Page number marks 0) (cond again (Again number 0) (cond over (Refused Refusal.Overflow) (Taken number 0)))
left_by σ true over number marks k = refl
left_by σ false true number marks k = refl
left_by σ false false number marks k = refl

session_plain : (σ : Session) (o : Opened) → session_after σ o ≡ session_after σ (plain o)
unfolding session_after outcome_of
session_plain σ (Page number marks k) = left_by σ (get_or σ.taken number false) (overflows σ.calls marks) number marks k
session_plain σ (Bad e) = refl

arrival_plain : (s : Shape) (σ : Session) → σ.shape ≡ s → (a b : Arrival) → (b ≡ a) ⊎ Replaced s a b → plain (brought the_ways σ b) ≡ plain (brought the_ways σ a)
arrival_plain s σ e a b =
    ⊎_elim (λ (h : b ≡ a). ap (λ (x : Arrival). plain (brought the_ways σ x)) h)
    (λ (r : Replaced s a b).
    ap₂ (λ (k : ℕ) (x : List ℕ). plain (presented the_ways σ k b.word x)) r.named r.scratch
    ∙ presented_plain σ a.word b.word a.scratch (ap (λ (x : Shape). verdict_of x a.word b.word) e ∙ r.yes)
    ∙ ap (λ (k : ℕ). plain (presented the_ways σ k a.word a.scratch)) (sym r.clean))

-- ---- whole lists
proposed_rest : {s : Shape} {a b : Arrival} {arrivals others : List Arrival} → Proposed s (a ∷ arrivals) (b ∷ others) → Proposed s arrivals others
proposed_rest p = record { size = omega (arith, p.size); each = λ j l. p.each (suc j) (suc-le-suc l) }

proposed_take : {s : Shape} (m : ℕ) (arrivals others : List Arrival) → Proposed s arrivals others → Proposed s (take m arrivals) (take m others)
proposed_take zero arrivals others p = record { size = refl; each = λ j l. absurd (omega arith) }
proposed_take (suc m) [] [] p = p
proposed_take (suc m) [] (b ∷ others) p = absurd (omega (arith, p.size))
proposed_take (suc m) (a ∷ arrivals) [] p = absurd (omega (arith, p.size))
proposed_take {s = s} (suc m) (a ∷ arrivals) (b ∷ others) p =
    let t = proposed_take m arrivals others (proposed_rest p) in
    record {
      size = ap suc t.size;
      each = λ j. elim j as (λ k. k < suc (length (take m arrivals)) → (arrival_at (b ∷ take m others) k ≡ arrival_at (a ∷ take m arrivals) k) ⊎ Replaced s (arrival_at (a ∷ take m arrivals) k) (arrival_at (b ∷ take m others) k)) [ zero ↦ λ l. p.each 0 (suc-le-suc zero-le) | suc i ↦ λ l. t.each i (le_of_suc-le-suc l) ];
    }

ends_alike : (s : Shape) (arrivals others : List Arrival) (σ : Session) → σ.shape ≡ s → Proposed s arrivals others
    → (end_of the_ways σ others ≡ end_of the_ways σ arrivals) × AnswersAlike (answers_of the_ways σ arrivals) (answers_of the_ways σ others)
ends_alike s [] [] σ e p = (refl, record { size = refl; each = λ j. refl })
ends_alike s [] (b ∷ others) σ e p = absurd (omega (arith, p.size))
ends_alike s (a ∷ arrivals) [] σ e p = absurd (omega (arith, p.size))
ends_alike s (a ∷ arrivals) (b ∷ others) σ e p =
    let one : plain (brought the_ways σ b) ≡ plain (brought the_ways σ a) = arrival_plain s σ e a b (p.each 0 (suc-le-suc zero-le)) in
    let same : session_after σ (brought the_ways σ b) ≡ session_after σ (brought the_ways σ a) =
    session_plain σ (brought the_ways σ b) ∙ ap (session_after σ) one ∙ sym (session_plain σ (brought the_ways σ a)) in
    let (end, answers) = ends_alike s arrivals others (session_after σ (brought the_ways σ a)) (shape_kept σ (brought the_ways σ a) ∙ e) (proposed_rest p) in (
      ap (λ (τ : Session). end_of the_ways τ others) same ∙ end,
      record {
        size = ap suc (ap (λ (τ : Session). length (answers_of the_ways τ others)) same ∙ answers.size);
        each = λ j.
            elim j as (λ k. without_number (answer_at (answers_of the_ways σ (b ∷ others)) k) ≡ without_number (answer_at (answers_of the_ways σ (a ∷ arrivals)) k)) [
              | zero ↦ outcome_plain σ (brought the_ways σ b) ∙ ap (λ (o : Opened). without_number (outcome_of σ o)) one ∙ sym (outcome_plain σ (brought the_ways σ a))
              | suc i ↦ ap (λ (τ : Session). without_number (answer_at (answers_of the_ways τ others) i)) same ∙ answers.each i
            ];
      },
    )

-- from any session of the shape: the same end, and the same answers but for the digits changed
pub proposals_alike : (s : Shape) (σ : Session) → σ.shape ≡ s → (arrivals others : List Arrival) → Proposed s arrivals others
    → (answers answers' : List Outcome) (end end' : Session) → Run the_ways σ arrivals answers end → Run the_ways σ others answers' end'
    → (end' ≡ end) × AnswersAlike answers answers'
proposals_alike s σ e arrivals others p answers answers' end end' run run' =
    let (same, alike) = ends_alike s arrivals others σ e p in
    (run_end run' ∙ same ∙ sym (run_end run), subst₂ AnswersAlike (sym (run_answers run)) (sym (run_answers run')) alike)

-- and so after each arrival
pub proposals_alike_each : (s : Shape) (σ : Session) → σ.shape ≡ s → (arrivals others : List Arrival) → Proposed s arrivals others
    → (m : ℕ) (answers answers' : List Outcome) (end end' : Session)
    → Run the_ways σ (take m arrivals) answers end → Run the_ways σ (take m others) answers' end'
    → (end' ≡ end) × AnswersAlike answers answers'
proposals_alike_each s σ e arrivals others p m = proposals_alike s σ e (take m arrivals) (take m others) (proposed_take m arrivals others p)
