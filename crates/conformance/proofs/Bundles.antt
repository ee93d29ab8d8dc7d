-- A bundle of words does what the paper asks.
use mathlib.Core.Path.{◌≡◌, refl, sym, ap, ap₂, ◌∙◌}
use mathlib.Core.Bool.{Bool, true, false, ◌&&◌}
use mathlib.Core.List.{List, [], ◌∷◌, ◌++◌}
use Prim.Native.Nat.{ℕ, zero, suc, ◌+◌, ◌-◌, ◌*◌, ◌<◌, ◌≤◌}
use native.Mathlib.Omega.{arith}
use lib.Dec.{eqb}
use lib.ListN.{length, get_or, replicate, get_or-append}
use lib.Seq.{get_or-append-add}
use borrow.Author.Tests.{eqb-true, eq-eqb, ltb-true}
use Rattle.parity.proofs.Tests.{clash, and_left, any_elim, any_intro}
use Rattle.parity.proofs.Lists.{at_zeros}
use Rattle.paper.specs.Paper as paper
use Rattle.gtb.specs.declared.Shape.{Shape}
use Rattle.gtb.specs.declared.Refusal.{Refusal}
use Rattle.std.specs.Prelude.{Result, Ok, Err}
use Rattle.gtb.specs.Shape.{lawful, shape_refusal, Lawful, word_length, scratch_length, kept_checks, of}
use Rattle.gtb.specs.Answer.{refusal_number, status_number, unless}
use Rattle.session.specs.declared.Session.{Session}
use Rattle.session.specs.declared.Outcome.{Outcome}
use Rattle.session.specs.Session.{consistent, session_status, past, plain}
use Rattle.session.specs.Arrival.{is_way, way_of, the_ways, arrival_status, outcome_values, presented, outcome_of, session_after, word_after, outcome_scratch, Arriving}
use Rattle.session.specs.Claim.{Run, answer_at}
use Rattle.session.proofs.Joins.{outcome_size}
use Rattle.session.proofs.Demand.{run_unique}
use Rattle.batch.specs.declared.Delivered.{Delivered}
use Rattle.batch.specs.Batch.{words_in, whole_run, word_at, batch_status, arrivals_of, all_values, values_of, Arrivals, Batching}
use Rattle.batch.proofs.Runs.{run_words}
use Rattle.batch.proofs.Outcomes.{all_values_size, values_size}
use Rattle.batch.proofs.Demand.{arrivals_number, arrivals_at}
use Rattle.gtb.proofs.Judging.{Decides, decides_eqb, decides_both, test, decides_below}
use Rattle.gtb.proofs.Conditions.{to, shape_tests}
use Rattle.decoder.proofs.Paper.{clean_named}
use Rattle.majority.proofs.Paper.{vote_named}
use Rattle.double.proofs.Paper.{two_named}
use Rattle.session.proofs.Paper.{decides_figures}
use Rattle.session.proofs.Arriving.{arrival}
use Rattle.conformance.proofs.Arrived.{Kept, kept_on}
use Rattle.conformance.proofs.Runs.{listed, listed_at, listed_length, steps_run}

-- ---- the outcomes
value_at : (answers : List Outcome) (i c : ℕ) → i < length answers → c < 3 → get_or (all_values answers) (3 * i + c) 0 ≡ get_or (outcome_values (answer_at answers i)) c 0
unfolding all_values
value_at [] i c l lc = absurd (omega arith)
value_at (r ∷ rest) zero c l lc =
    let here : 3 * 0 + c ≡ c = omega arith in
    ap (λ (n : ℕ). get_or (outcome_values r ++ all_values rest) n 0) here ∙ get_or-append (outcome_values r) (all_values rest) 0 c (rw (outcome_size r) lc)
value_at (r ∷ rest) (suc i) c l lc =
    let here : 3 * suc i + c ≡ length (outcome_values r) + (3 * i + c) = omega (arith, outcome_size r) in
    ap (λ (n : ℕ). get_or (outcome_values r ++ all_values rest) n 0) here ∙ get_or-append-add (outcome_values r) (all_values rest) (3 * i + c) 0 ∙ value_at rest i c (omega arith) lc

values_at : (answers : List Outcome) (i c : ℕ) → i < length answers → c < 3 → get_or (values_of answers) (3 * i + c) 0 ≡ get_or (outcome_values (answer_at answers i)) c 0
unfolding values_of
values_at answers i c l lc = get_or-append (all_values answers) (replicate (192 - 3 * length answers) 0) 0 (3 * i + c) (omega (arith, all_values_size answers)) ∙ value_at answers i c l lc

values_past : (answers : List Outcome) (j : ℕ) → 3 * length answers ≤ j → get_or (values_of answers) j 0 ≡ 0
unfolding values_of
values_past answers j l =
    let here : j ≡ length (all_values answers) + (j - 3 * length answers) = omega (arith, all_values_size answers) in
    ap (λ (n : ℕ). get_or (all_values answers ++ replicate (192 - 3 * length answers) 0) n 0) here
    ∙ get_or-append-add (all_values answers) (replicate (192 - 3 * length answers) 0) (j - 3 * length answers) 0
    ∙ at_zeros (192 - 3 * length answers) (j - 3 * length answers)

-- ---- the tests
decides_run : (s : Shape) (words : List ℕ) → Decides (whole_run s words) ((m : ℕ) → ¬ paper.RunOf (of s) words m)
unfolding whole_run
decides_run s words = record {
  holds = λ no m run.
      let (some, few, size) = run in
      let last : m ≡ m - 1 + 1 = omega (arith, some) in
      clash (any_intro 64 (λ i. eqb (length words) ((i + 1) * word_length s)) (m - 1) (omega (arith, some, few)) (eq-eqb _ _ (size ∙ ap (λ (n : ℕ). n * word_length s) last))) no;
  fails = λ h none.
      let (i, l, e) = any_elim 64 (λ i. eqb (length words) ((i + 1) * word_length s)) h in
      none (i + 1) (omega arith, omega arith, eqb-true _ _ e);
}

decides_way : (k : ℕ) → Decides (is_way k) (2 < k)
unfolding is_way
decides_way k = decides_below k 3

decides_suits : (s : Shape) → Lawful s → (k : ℕ) → is_way k ≡ true → Decides ((the_ways.named k).suits s) (paper.TooFew (of s) k)
unfolding way_of is_way
decides_suits s law zero known = (clean_named s).suits law
decides_suits s law (suc zero) known = (vote_named s).suits law
decides_suits s law (suc (suc zero)) known = (two_named s).suits law
decides_suits s law (suc (suc (suc k))) known = absurd (let l = ltb-true (suc (suc (suc k))) 3 known in omega arith)

flat : (w a c d z : Bool) (e : Refusal)
    → past {A = Result (Unit {0}) Refusal} (unless w (Err Refusal.Shape) (past (unless a (Err e) (unless c (Err Refusal.Figures) (Ok tt))) Err (unless d (Err Refusal.Directions) (Ok tt)))) Err (unless z (Err Refusal.Length) (Ok tt))
    ≡ unless w (Err Refusal.Shape) (unless a (Err e) (unless c (Err Refusal.Figures) (unless d (Err Refusal.Directions) (unless z (Err Refusal.Length) (Ok tt)))))
flat false a c d z e = refl
flat true false c d z e = refl
flat true true false d z e = refl
flat true true true false z e = refl
flat true true true true z e = refl

-- ---- the single arrivals
module _ (σ : Session) (size : length σ.taken ≡ 1024) (k : ℕ) (words scratch : List ℕ) where
  abbrev s : Shape
  s = σ.shape

  abbrev tau : ℕ → Session
  tau zero = σ
  tau (suc i) = session_after (tau i) (presented the_ways (tau i) k (word_at s words i) scratch)

  abbrev out : ℕ → Outcome
  out i = outcome_of (tau i) (presented the_ways (tau i) k (word_at s words i) scratch)

  abbrev left : ℕ → paper.Arrived
  left i = record {
    session = plain (tau (suc i));
    word = word_after (word_at s words i) ((the_ways.named k).word (tau i).shape (word_at s words i)) (out i);
    scratch = outcome_scratch scratch (out i);
    answer = outcome_values (out i);
  }

  our_step : (i : ℕ) → Arriving the_ways (tau i) k (word_at s words i) scratch (left i).word (left i).scratch (record { session = tau (suc i); outcome = out i })
  our_step i = record { outcome = refl; session = refl; word_left = refl; scratch_left = refl }

  abbrev word_arrival_lem : ℕ → paper.Arrival
  word_arrival_lem i = record { way = k; word = word_at s words i; scratch = scratch }

  paper_step : (i : ℕ) → length (tau i).taken ≡ 1024 → paper.Arriving (plain (tau i)) (word_arrival_lem i) (left i)
  paper_step i long = arrival (tau i) long (word_at s words i) scratch k (our_step i)

  our_run : Run the_ways σ (arrivals_of s k words scratch) (listed (length (arrivals_of s k words scratch)) out) (tau (length (arrivals_of s k words scratch)))
  our_run =
      steps_run (arrivals_of s k words scratch) tau out
      (record { each = λ j l. ((left j).word, (left j).scratch, rw (arrivals_at s k words scratch j (rw (arrivals_number s k words scratch) at l)) (our_step j)) })

  module _ (right : ¬ paper.WrongFigures (plain σ)) where
    keeps : (i : ℕ) → Kept (of s) (plain (tau i))
    keeps zero = record { shape = refl; size = size; figures = right }
    keeps (suc i) = kept_on (word_arrival_lem i) (keeps i) (paper_step i (keeps i).size)

    same_shape : (i : ℕ) → (tau i).shape ≡ s
    same_shape i = ap to (keeps i).shape

    delivered : {words' scratch' outcomes' : List ℕ} {end : Session} → Lawful s → whole_run s words ≡ true → Arrivals σ k words scratch words' scratch' outcomes' end
        → paper.Delivered (plain σ) k words scratch (plain end) words' scratch' outcomes'
    delivered {words'} {scratch'} {outcomes'} {end} law whole a =
        let w = run_words s law words whole in
        let n = arrivals_number s k words scratch in
        let (answers-are, end_is) = run_unique a.run our_run in
        let long : length a.answers ≡ words_in s words = ap length answers-are ∙ listed_length (length (arrivals_of s k words scratch)) out ∙ n in
        let answer-is : (i : ℕ) → i < words_in s words → answer_at a.answers i ≡ out i =
        λ i l. ap (λ (rs : List Outcome). answer_at rs i) answers-are ∙ listed_at (length (arrivals_of s k words scratch)) out i _ (rw n l) in
        record {
          number = words_in s words;
          run = (w.some, w.few, w.size);
          before = λ i. plain (tau i);
          left = left;
          first = refl;
          each = λ i l. paper_step i (keeps i).size;
          next = λ i l. refl;
          last = ap (λ (i : ℕ). plain (tau i)) (sym n) ∙ ap plain (sym end_is);
          size = a.size;
          word = λ i l.
              a.word i l
              ∙ ap₂ (λ (z : Shape) (r : Outcome). word_after (word_at s words i) ((the_ways.named k).word z (word_at s words i)) r) (sym (same_shape i)) (answer-is i l);
          list = ap length a.outcomes_left ∙ values_size a.answers (rw long w.few);
          outcome = λ i c l lc.
              ap (λ (xs : List ℕ). get_or xs (3 * i + c) 0) a.outcomes_left ∙ values_at a.answers i c (rw long l) lc
              ∙ ap (λ (r : Outcome). get_or (outcome_values r) c 0) (answer-is i l);
          rest = λ j l. ap (λ (xs : List ℕ). get_or xs j 0) a.outcomes_left ∙ values_past a.answers j (rw long l);
          used = a.scratch_left;
        }

  -- ---- the call
  module _ {outcomes words' scratch' outcomes' : List ℕ} {r : Delivered} (x : Batching σ k words scratch outcomes words' scratch' outcomes' r) where
    turn : (e : Refusal) → r.status ≡ Err e
        → (status_number r.status ≡ paper.refusal (refusal_number e)) × (plain r.session ≡ plain σ) × (words' ≡ words) × (scratch' ≡ scratch) × (outcomes' ≡ outcomes)
    turn e h = let (kept, same, used, list) = x.refused e h in (ap status_number h, ap plain kept, same, used, list)

    pub bundling : paper.Bundling (plain σ) k words scratch outcomes (plain r.session) words' scratch' outcomes' (status_number r.status)
    unfolding batch_status arrival_status session_status scratch_length kept_checks
    bundling =
        test (is_way k) _ _ (decides_way k) (turn Refusal.Shape) (λ known.
        shape_tests s Err _ (turn Refusal.Shape) (turn Refusal.Slope) (λ law.
        test (consistent σ) _ _ (decides_figures σ) (turn Refusal.Figures) (λ right.
        test ((the_ways.named k).suits s) _ _ (decides_suits s law k known) (turn Refusal.Directions) (λ _.
        test (whole_run s words && eqb (length scratch) (scratch_length s) && eqb (length outcomes) 192) _ _
        (decides_both _ _ (decides_both _ _ (decides_run s words) (decides_eqb _ _)) (decides_eqb _ _)) (turn Refusal.Length) (λ fit h.
        (ap status_number h, delivered ((decides_figures σ).fails right) law (whole fit) (x.done h)))))))
        (x.status ∙ flat (is_way k) (lawful s) (consistent σ) ((the_ways.named k).suits s) (whole_run s words && eqb (length scratch) (scratch_length s) && eqb (length outcomes) 192) (shape_refusal s))
      where
        whole : (whole_run s words && eqb (length scratch) (scratch_length s) && eqb (length outcomes) 192) ≡ true → whole_run s words ≡ true
        whole h = and_left (whole_run s words) (eqb (length scratch) (scratch_length s)) (and_left (whole_run s words && eqb (length scratch) (scratch_length s)) (eqb (length outcomes) 192) h)
