-- An arrival, answer by answer.
use mathlib.Core.Path.{◌≡◌, refl, sym, ap, ◌∙◌, subst}
use mathlib.Core.Bool.{Bool, true, false, cond, ◌&&◌}
use mathlib.Core.List.{List}
use Prim.Native.Nat.{ℕ}
use lib.Dec.{eqb}
use lib.ListN.{length, get_or, replicate}
use borrow.Author.Tests.{eq-eqb, eqb-true}
use Rattle.parity.proofs.Tests.{and_left, and_right}
use Rattle.parity.proofs.Lists.{length_tabulate}
use Rattle.gtb.specs.declared.Shape.{Shape}
use Rattle.gtb.specs.declared.Refusal.{Refusal}
use Rattle.std.specs.Prelude.{Result, Ok, Err}
use Rattle.gtb.specs.Shape.{lawful, Lawful, word_length, info_length, scratch_length}
use Rattle.gtb.specs.Square.{at}
use Rattle.gtb.specs.Positions.{info_position, extract_of}
use Rattle.gtb.specs.Answer as answer
use Rattle.gtb.proofs.Answers.{shape_scratch, unless_done, never_done, never_refused}
use Rattle.page.specs.Page.{page_of, marks_of}
use Rattle.session.specs.declared.Session.{Session}
use Rattle.session.specs.declared.Outcome.TheVariants.{Taken, Again, Refused}
use Rattle.session.specs.declared.Arrived.{Arrived}
use Rattle.session.specs.Session.{consistent, Consistent, session_status, past, overflows}
use Rattle.session.specs.Arrival.{Ways, is_way, way_of, the_ways, Opened, Bad, open_page, open_word, opened, arrival_status, presented, outcome_of, session_after, outcome_scratch, Answering, Arriving, Stepping}
use Rattle.session.specs.Steps.{session_tests, arrival_tests, word_tests, Admitted, Openable, opened_by, Deciding}
use Rattle.session.proofs.Late.{late_zeros, page_zeros}
use Rattle.session.proofs.Ways.{all_read}

-- ---- refusals that come before the scratch is touched leave it as it was
pub length_scratch : {x : List ℕ} → x ≡ answer.scratch_after Refusal.Length x
unfolding answer.scratch_after
length_scratch = refl

pub directions_scratch : {x : List ℕ} → x ≡ answer.scratch_after Refusal.Directions x
unfolding answer.scratch_after
directions_scratch = refl

pub way_scratch : {x : List ℕ} → x ≡ answer.scratch_after Refusal.Shape x
unfolding answer.scratch_after
way_scratch = refl

pub figures_scratch : {x : List ℕ} → x ≡ answer.scratch_after Refusal.Figures x
unfolding answer.scratch_after
figures_scratch = refl

-- ---- the tests of a session that is handed in
pub status_passed : (σ : Session) → session_status σ ≡ Ok tt → Lawful σ.shape × Consistent σ
unfolding session_status
status_passed σ h =
    let (law, h₁) = unless_done (lawful σ.shape) _ _ h in
    (law, (unless_done (consistent σ) _ _ h₁).0)

-- tests that are passed
pub past_done : (t next : Result (Unit {0}) Refusal) → past t Err next ≡ Ok tt → (t ≡ Ok tt) × (next ≡ Ok tt)
past_done (Ok tt) next h = (refl, h)
past_done (Err e) next h = absurd (never_done e h)

pub admitted : (σ : Session) (way : ℕ) → arrival_status the_ways σ way ≡ Ok tt → Admitted σ way
unfolding arrival_status
admitted σ way h =
    let (known, h₁) = unless_done (is_way way) _ _ h in
    let (session, h₂) = past_done (session_status σ) _ h₁ in
    let (law, right) = status_passed σ session in
    record { known = known; lawful = law; consistent = right; suits = (unless_done ((way_of way).suits σ.shape) _ _ h₂).0 }

-- past them the shape is lawful
pub tests_lawful : (s : Shape) (way : ℕ) (agree : Bool) → arrival_tests s way agree ≡ Ok tt → Lawful s
tests_lawful s way agree h =
    let (session, rest) = past_done (session_tests s agree) _ (unless_done (is_way way) _ _ h).1 in
    (unless_done (lawful s) _ _ session).0

-- a refusal by these tests comes before the scratch is touched
abbrev Keeps : List ℕ → Result (Unit {0}) Refusal → Type 0
Keeps x (Ok tt) = Unit {0}
Keeps x (Err e) = x ≡ answer.scratch_after e x

module _ (x : List ℕ) where
  keeps_unless : (t : Bool) (e : Refusal) (next : Result (Unit {0}) Refusal) → x ≡ answer.scratch_after e x → Keeps x next → Keeps x (answer.unless t (Err e) next)
  keeps_unless true e next early h = h
  keeps_unless false e next early h = early

  keeps_past : (t next : Result (Unit {0}) Refusal) → Keeps x t → Keeps x next → Keeps x (past t Err next)
  keeps_past (Ok tt) next early h = h
  keeps_past (Err e) next early h = early

  status_keeps : (ways : Ways) (σ : Session) (way : ℕ) → Keeps x (arrival_status ways σ way)
  unfolding arrival_status session_status
  status_keeps ways σ way =
      keeps_unless (ways.known way) Refusal.Shape _ way_scratch
      (keeps_past (session_status σ) _ (keeps_unless (lawful σ.shape) _ _ (shape_scratch σ.shape x) (keeps_unless (consistent σ) Refusal.Figures _ figures_scratch tt))
      (keeps_unless ((ways.named way).suits σ.shape) Refusal.Directions _ directions_scratch tt))

-- ---- what is presented: test 11 comes before what is opened
-- the other tests are made twice
tests_twice : (known law suits : Bool) (e : Refusal) (next : Opened)
    → past (answer.unless known (Err Refusal.Shape) (past (answer.unless law (Err e) (Ok tt)) Err (answer.unless suits (Err Refusal.Directions) (Ok tt)))) Bad
    (answer.unless known (Bad Refusal.Shape) (answer.unless law (Bad e) (answer.unless suits (Bad Refusal.Directions) next)))
    ≡ answer.unless known (Bad Refusal.Shape) (answer.unless law (Bad e) (answer.unless suits (Bad Refusal.Directions) next))
tests_twice true true true e next = refl
tests_twice true true false e next = refl
tests_twice true false suits e next = refl
tests_twice false law suits e next = refl

module _ (ways : Ways) (σ : Session) (way : ℕ) (word scratch : List ℕ) where
  pub presented_way : ways.known way ≡ false → presented ways σ way word scratch ≡ Bad Refusal.Shape
  unfolding presented arrival_status
  presented_way h = rw h

  pub presented_figures : ways.known way ≡ true → Lawful σ.shape → consistent σ ≡ false
      → presented ways σ way word scratch ≡ Bad Refusal.Figures
  unfolding presented arrival_status session_status
  presented_figures known law h = rw (known, law, h)

  presented_refused : {e : Refusal} → arrival_status ways σ way ≡ Err e → presented ways σ way word scratch ≡ Bad e
  unfolding presented
  presented_refused h = rw h

  -- right figures have no bearing
  pub presented_opened : Consistent σ → presented ways σ way word scratch ≡ opened ways σ.shape way word scratch
  unfolding presented arrival_status session_status opened
  presented_opened h = rw h (tests_twice (ways.known way) (lawful σ.shape) ((ways.named way).suits σ.shape) _ _)

-- ---- what is opened
module _ (ways : Ways) (s : Shape) (way : ℕ) (word scratch : List ℕ) where
  pub opened_way : ways.known way ≡ false → opened ways s way word scratch ≡ Bad Refusal.Shape
  unfolding opened
  opened_way h = rw h

  pub opened_directions : ways.known way ≡ true → Lawful s → (ways.named way).suits s ≡ false → opened ways s way word scratch ≡ Bad Refusal.Directions
  unfolding opened
  opened_directions known law h = rw (known, law, h)

-- turned down
pub arriving_bad : {ways : Ways} {σ : Session} {way : ℕ} {word scratch scratch' : List ℕ} {r : Arrived} {o : Opened} {e : Refusal} → o ≡ Bad e → scratch' ≡ answer.scratch_after e scratch
    → (r.session ≡ σ) × (r.outcome ≡ Refused e) → Answering ways σ way o word scratch word scratch' r
unfolding outcome_of session_after
arriving_bad o x h = record {
  outcome = h.1 ∙ rw o;
  session = h.0 ∙ rw o;
  word_left = rw h.1;
  scratch_left = rw h.1 x;
}

-- the step is an arrival where the figures are right
pub step_arrives : (ways : Ways) (σ : Session) (way : ℕ) {word scratch word' scratch' : List ℕ} {r : Arrived} → Consistent σ
    → Stepping ways σ way word scratch word' scratch' r → Arriving ways σ way word scratch word' scratch' r
step_arrives ways σ way {word} {scratch} {word'} {scratch'} {r} right h =
    subst (λ (o : Opened). Answering ways σ way o word scratch word' scratch' r) (sym (presented_opened ways σ way word scratch right)) h

-- ---- the tests of an arrival, as the code has its shape and whether its figures agree
module _ (σ : Session) {s : Shape} {agree : Bool} (same : σ.shape ≡ s) (agrees : agree ≡ consistent σ) (way : ℕ) (word scratch : List ℕ) where
  fits : Bool
  fits = eqb (length word) (word_length σ.shape) && eqb (length scratch) (scratch_length σ.shape)

  -- those of the definition, then test 2
  in_order : {r : Result (Unit {0}) Refusal} → word_tests s way agree word scratch ≡ r → past (arrival_status the_ways σ way) Err (answer.unless fits (Err Refusal.Length) (Ok tt)) ≡ r
  unfolding arrival_status session_status fits
  in_order {r} h =
      subst (λ (x : Shape). word_tests x way (consistent σ) word scratch ≡ r) (sym same) (subst (λ (b : Bool). word_tests s way b word scratch ≡ r) agrees h)

  -- past them both slices have their lengths
  passed : arrival_status the_ways σ way ≡ Ok tt → fits ≡ true → Consistent σ × Openable σ.shape way word × (length scratch ≡ scratch_length σ.shape)
  unfolding fits
  passed h both =
      let a = admitted σ way h in
      (a.consistent, record { known = a.known; lawful = a.lawful; suits = a.suits; size = eqb-true _ _ (and_left (eqb (length word) (word_length σ.shape)) _ both) }, eqb-true _ _ (and_right (eqb (length word) (word_length σ.shape)) _ both))

  pub tests_passed : word_tests s way agree word scratch ≡ Ok tt → Consistent σ × Openable σ.shape way word × (length scratch ≡ scratch_length σ.shape)
  tests_passed h =
      let (first, last) = past_done (arrival_status the_ways σ way) _ (in_order h) in
      passed first (unless_done fits _ _ last).0

  -- turned down
  turned : {e : Refusal} (t : Result (Unit {0}) Refusal) → arrival_status the_ways σ way ≡ t → (b : Bool) → fits ≡ b → past t Err (answer.unless {A = Result (Unit {0}) Refusal} b (Err Refusal.Length) (Ok tt)) ≡ Err e
      → (presented the_ways σ way word scratch ≡ Bad e) × (scratch ≡ answer.scratch_after e scratch)
  unfolding fits opened
  turned {e} (Err e') is b f h =
      let first = is ∙ h in
      (presented_refused the_ways σ way word scratch first, rw first at (status_keeps scratch the_ways σ way))
  turned {e} (Ok tt) is true f h = absurd (never_refused e h)
  turned {e} (Ok tt) is false f h =
      let a = admitted σ way is in
      let length : Refusal.Length ≡ e = cc in
      (presented_opened the_ways σ way word scratch a.consistent ∙ rw (a.known, a.lawful, a.suits, f) (ap Bad length), rw (← length) length_scratch)

  pub tests_refused : {e : Refusal} {r : Arrived} → word_tests s way agree word scratch ≡ Err e → (r.session ≡ σ) × (r.outcome ≡ Refused e)
      → Arriving the_ways σ way word scratch word scratch r
  tests_refused h = let (bad, kept) = turned (arrival_status the_ways σ way) refl fits refl (in_order h) in arriving_bad bad kept

-- ---- past all tests
module _ (σ : Session) {way : ℕ} {word : List ℕ} (scratch : List ℕ) (right : Consistent σ) (a : Openable σ.shape way word) (room : length scratch ≡ scratch_length σ.shape) where
  -- the word is read
  settled_read : opened the_ways σ.shape way word scratch ≡ opened_by (way_of way) σ.shape word
  unfolding opened
  settled_read =
      rw (a.known, a.lawful, a.suits, eq-eqb (length word) (word_length σ.shape) a.size, eq-eqb (length scratch) (scratch_length σ.shape) room)

  -- and the scratch ends as zeros, whatever the answer
  page_scratch : (number k : ℕ) (again over : Bool)
      → outcome_scratch scratch (cond again (Again number k) (cond over (Refused Refusal.Overflow) (Taken number k))) ≡ replicate (length scratch) 0
  unfolding answer.scratch_after
  page_scratch number k true over = refl
  page_scratch number k false true = refl
  page_scratch number k false false = refl

  page_cleared : (symbols : List ℕ) → length symbols ≡ info_length σ.shape → (k : ℕ) (found : Result (ℕ × ℕ) Refusal) → page_of σ.shape symbols ≡ found
      → outcome_scratch scratch (outcome_of σ (open_page σ.shape symbols k found)) ≡ replicate (length scratch) 0
  unfolding outcome_of
  page_cleared symbols len k (Ok (number, c)) h = page_scratch number k (get_or σ.taken number _) (overflows σ.calls (marks_of σ.shape symbols))
  page_cleared symbols len k (Err e) h = page_zeros σ.shape symbols a.lawful len e h scratch

  read_cleared : (v : List ℕ) (found : Result ℕ Refusal) → (way_of way).answer σ.shape word ≡ found
      → outcome_scratch scratch (outcome_of σ (open_word σ.shape v found)) ≡ replicate (length scratch) 0
  unfolding outcome_of extract_of
  read_cleared v (Ok k) h =
      page_cleared (extract_of σ.shape v) (length_tabulate (info_length σ.shape) (λ j. at v (info_position σ.shape j))) k (page_of σ.shape (extract_of σ.shape v)) refl
  read_cleared v (Err e) h = late_zeros e ((all_read way).late σ.shape word a.lawful a.suits a.size e h) scratch

  pub word_cleared : outcome_scratch scratch (outcome_of σ (opened the_ways σ.shape way word scratch)) ≡ replicate (length scratch) 0
  word_cleared = rw settled_read (read_cleared ((way_of way).word σ.shape word) ((way_of way).answer σ.shape word) refl)

  -- so both steps are an arrival
  pub decides_arrives : {word' scratch' : List ℕ} {r : Arrived} → scratch' ≡ replicate (length scratch) 0 → Deciding (way_of way) σ word word' r
      → Arriving the_ways σ way word scratch word' scratch' r
  decides_arrives cleared d =
      let answer = d.settled.outcome ∙ ap (outcome_of σ) (sym settled_read) in
      step_arrives the_ways σ way right
      (record {
        outcome = answer;
        session = d.settled.session ∙ ap (session_after σ) (sym settled_read);
        word_left = d.word_left;
        scratch_left = cleared ∙ sym (ap (outcome_scratch scratch) answer ∙ word_cleared);
      })
