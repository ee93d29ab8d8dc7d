-- Demand 3 in the program's text, in the paper's words.
use mathlib.Core.Path.{◌≡◌, refl, sym, ap, ◌∙◌, subst, subst₂}
use mathlib.Core.Bool.{true}
use mathlib.Core.List.{List, [], ◌∷◌, ◌++◌}
use mathlib.Core.Logic.{inl, inr, ⊎_elim}
use Prim.Native.Nat.{ℕ, suc, ◌<◌, suc-le-suc}
use native.Mathlib.Nat.{zero-lt-suc}
use lib.ListN.{length, drop}
use Rattle.parity.specs.Lists.{tabulate}
use Rattle.parity.proofs.Lists.{is_tabulate}
use Rattle.paper.specs.Paper as paper
use Rattle.paper.specs.Program.{none as stop, more}
use Rattle.session.specs.Session.{fresh_of}
use Rattle.capture.specs.Judge.{shape_in}
use Rattle.conformance.proofs.Arrived.{Kept, arrival_once}
use Rattle.conformance.proofs.Runs as runs
use Rattle.conformance.proofs.Chains as chains
use Rattle.conformance.proofs.Chains.{Chain}
use Rattle.conformance.proofs.Texts.{line_once, Values, NoValues, reads}
use Rattle.conformance.proofs.WordLines.{line_kept, word_lines, fresh_end_calls}
use Rattle.conformance.proofs.Printing.{tables, Accepted}
use Rattle.conformance.proofs.Printed.{word_arrival, words_once, Printed, printed_at}

-- ---- the arrivals of word lines, in their order: a line that has values brings one, another none
pub data Arrivals (s : paper.Shape) : List (List ℕ) → List paper.Arrival → Type 0 where
  ends : Arrivals s [] []
  brings : {line values : List ℕ} {lines : List (List ℕ)} {arrivals : List paper.Arrival}
      → paper.Line line values → Arrivals s lines arrivals → Arrivals s (line ∷ lines) (word_arrival s values ∷ arrivals)
  skips : {line : List ℕ} {lines : List (List ℕ)} {arrivals : List paper.Arrival}
      → ((values : List ℕ) → ¬ paper.Line line values) → Arrivals s lines arrivals → Arrivals s (line ∷ lines) arrivals

-- every list of lines has them
pub arrivals_of_lem : (s : paper.Shape) (lines : List (List ℕ))
    → (arrivals : List paper.Arrival) × Arrivals s lines arrivals
arrivals_of_lem s [] = ([], ends)
arrivals_of_lem s (line ∷ lines) =
    let (arrivals, others) = arrivals_of_lem s lines in
    ⊎_elim (λ (x : Values line). (word_arrival s x.values ∷ arrivals, brings x.has others))
    (λ (x : NoValues line). (arrivals, skips x.none others))
    (reads line)

-- the lines of output for them, from the answers to the arrivals
abbrev pub lines_for : {s : paper.Shape} {lines : List (List ℕ)} {arrivals : List paper.Arrival}
    → Arrivals s lines arrivals → (ℕ → List ℕ) → List ℕ
lines_for ends answer = []
lines_for (brings has others) answer = paper.answer_line (answer 0) ++ lines_for others (λ j. answer (suc j))
lines_for (skips none others) answer = paper.refused_line 10 ++ lines_for others answer

-- the recording's own tally, function by function
abbrev pub own_calls : List paper.Sheet → List ℕ
own_calls pages = tabulate 256 (paper.tally_of pages (λ i. true))

-- the first table has the answers to the arrivals, as demand 3 has them; the second is the recording's own tally
pub record PrintsTally (s : paper.Shape) (pages : List paper.Sheet)
    {lines : List (List ℕ)} {arrivals : List paper.Arrival} (brought : Arrivals s lines arrivals)
    (rest output : List ℕ) : Type 0 where
  pub session : ℕ → paper.Session
  pub answer : ℕ → List ℕ
  pub run : paper.Run s arrivals session answer
  pub demand : paper.Demand3 s pages arrivals session answer
  pub text : output ≡ tables (lines_for brought answer) rest (own_calls pages)

-- ---- a line with values is an arrival, another leaves the session as it is
with_values : {s : paper.Shape} {σ τ : paper.Session} {line answer values : List ℕ}
    → σ.shape ≡ s → paper.Line line values → paper.WordLine σ line answer τ
    → (r : paper.Arrived) × paper.Arriving σ (word_arrival s values) r × (answer ≡ r.answer) × (τ ≡ r.session)
with_values {values = values} same has (inl (none, x)) = absurd (none values has)
with_values {σ = σ} same has (inr (some, x)) =
    let (xs, r, has', arrives, answer-is, session-is) = x in
    let here =
    subst₂ (λ (s : paper.Shape) (zs : List ℕ). paper.Arriving σ (word_arrival s zs) r)
    same (line_once has' has) arrives in
    (r, here, answer-is, session-is)

without : {σ τ : paper.Session} {line answer : List ℕ} → ((values : List ℕ) → ¬ paper.Line line values)
    → paper.WordLine σ line answer τ → (answer ≡ 2 ∷ 10 ∷ 0 ∷ []) × (τ ≡ σ)
without none (inl (also, x)) = x
without none (inr (some, x)) = absurd (some none)

-- so word lines are a chain of arrivals
words_chain : {s : paper.Shape} {σ end : paper.Session}
    {lines : List (List ℕ)} {words : List ℕ} {arrivals : List paper.Arrival}
    → Kept s σ → Arrivals s lines arrivals → paper.WordLines σ lines words end → Chain σ arrivals end
words_chain kept ends stop = chains.stop refl
words_chain kept (brings {line = line} has others) (more {next = next} {answer = answer} x xs) =
    let (r, arrives, answer-is, session-is) = with_values kept.shape has x in
    chains.step arrives (sym session-is) (words_chain {σ = next} (line_kept line answer kept x) others xs)
words_chain kept (skips {line = line} none others) (more {next = next} {answer = answer} x xs) =
    chains.from (sym (without none x).1) (words_chain {σ = next} (line_kept line answer kept x) others xs)

-- session j gets arrival j, which is answered so and leaves the next
abbrev Goes : List paper.Arrival → (ℕ → paper.Session) → (ℕ → List ℕ) → Type 0
Goes arrivals session answer = (j : ℕ) → j < length arrivals → (word' scratch' : List ℕ)
    × paper.Arriving (session j) (paper.arrival_at arrivals j)
    (record { session = session (suc j); word = word'; scratch = scratch'; answer = answer j })

-- and the lines for them have its answers
words_answers : {s : paper.Shape} {σ end : paper.Session}
    {lines : List (List ℕ)} {words : List ℕ} {arrivals : List paper.Arrival}
    (session : ℕ → paper.Session) (answer : ℕ → List ℕ) → Kept s σ → (brought : Arrivals s lines arrivals)
    → paper.WordLines σ lines words end → session 0 ≡ σ → Goes arrivals session answer → words ≡ lines_for brought answer
words_answers session answer kept ends stop first goes = refl
words_answers {s} {σ} session answer kept (brings {line = line} {values = xs} {arrivals = rest} has others)
    (more {next = next'} {answer = given} x later) first goes =
    let (word', scratch', arrives') = goes 0 (zero-lt-suc (length rest)) in
    let a : paper.Arrived = record { session = session 1; word = word'; scratch = scratch'; answer = answer 0 } in
    let (r, arrives, answer-is, session-is) = with_values kept.shape has x in
    let same : r ≡ a =
    arrival_once σ (word_arrival s xs) arrives
    (subst (λ (τ : paper.Session). paper.Arriving τ (word_arrival s xs) a) first arrives') in
    let next = sym (session-is ∙ ap (λ (z : paper.Arrived). z.session) same) in
    let texts =
    words_answers {σ = next'} (λ j. session (suc j)) (λ j. answer (suc j)) (line_kept line given kept x) others later next
    (λ j l. goes (suc j) (suc-le-suc l)) in
    let text = answer-is ∙ ap (λ (z : paper.Arrived). z.answer) same in
    λ i. paper.answer_line (text i) ++ texts i
words_answers session answer kept (skips {line = line} none others) (more {next = next'} {answer = given} x later) first goes =
    let (text, stays) = without none x in
    let texts = words_answers {σ = next'} session answer (line_kept line given kept x) others later (first ∙ sym stays) goes in
    λ i. paper.answer_line (text i) ++ texts i

-- ---- lines 1 to 3 pass
head_passes : (lines : List (List ℕ)) (rest output values : List ℕ)
    → paper.Named lines 0 (paper.ascii "q n b") → paper.ThreeValues lines values → paper.InLists (paper.shape_of values)
    → paper.Named lines 2 (paper.ascii "word") → Printed output lines rest → Accepted lines rest output
head_passes lines rest output values names three listed word (inl (unnamed, x)) = absurd (unnamed names)
head_passes lines rest output values names three listed word (inr (_, inl (nothing, x))) = absurd (nothing values three)
head_passes lines rest output values names three listed word (inr (_, inr (_, inl (out, x)))) =
    let (others, there, wrong) = out in
    absurd (wrong (subst (λ (zs : List ℕ). paper.InLists (paper.shape_of zs)) (line_once three.1 there.1) listed))
head_passes lines rest output values names three listed word (inr (_, inr (_, inr (_, inl (unnamed, x))))) =
    absurd (unnamed word)
head_passes lines rest output values names three listed word (inr (_, inr (_, inr (_, inr (_, x))))) = x

-- ---- the theorem
module _ (values : List ℕ) (pages : List paper.Sheet) (recording : paper.Recording (paper.shape_of values) pages) where
  abbrev s : paper.Shape
  s = paper.shape_of values

  begins : paper.Beginning s (paper.fresh s) 0
  begins = inr (λ outside. outside recording.shape, inr (recording.slopes, (refl, refl)))

  fresh_kept : Kept s (paper.fresh s)
  unfolding fresh_of
  fresh_kept = runs.keeps (shape_in values) [] 0

  -- a count for each of 256 functions
  end_size : (lines : List (List ℕ)) {words : List ℕ} {end : paper.Session}
      → paper.WordLines (paper.fresh s) lines words end → length end.calls ≡ 256
  unfolding fresh_of
  end_size lines come =
      let same = (words_once come (word_lines lines (fresh_of (shape_in values)) fresh_kept)).1 in
      ap (λ (τ : paper.Session). length τ.calls) same ∙ fresh_end_calls lines (shape_in values)

  prints_tally : {lines : List (List ℕ)} {arrivals : List paper.Arrival} {rest output words : List ℕ}
      {end : paper.Session} (brought : Arrivals s lines arrivals) → paper.Fits s pages arrivals
      → paper.WordLines (paper.fresh s) lines words end → output ≡ tables words rest end.calls
      → PrintsTally s pages brought rest output
  prints_tally {lines} {arrivals} {rest} {end = end} brought fits come is =
      let holds =
      chains.chain_demand s pages {xs = []} {ys = arrivals} recording fits begins (chains.stop refl)
      (words_chain fresh_kept brought come) in
      let first =
      words_answers holds.session holds.answer fresh_kept brought come holds.first holds.run.next in
      let second =
      is_tabulate 256 (paper.tally_of pages (λ i. true)) end.calls (end_size lines come)
      (λ f l. ap (λ (τ : paper.Session). paper.at τ.calls f) (sym holds.last) ∙ holds.demand.whole f l) in
      record {
        session = holds.session;
        answer = holds.answer;
        run = holds.run;
        demand = holds.demand;
        text = is ∙ (λ i. tables (first i) rest (second i));
      }

  -- every input whose lines 1 to 3 pass and whose word lines fit the recording
  pub demand3_printed : {bytes output rest : List ℕ} {lines : List (List ℕ)} {arrivals : List paper.Arrival}
      → paper.Input bytes lines rest → paper.Named lines 0 (paper.ascii "q n b") → paper.ThreeValues lines values
      → paper.Named lines 2 (paper.ascii "word") → (brought : Arrivals s (drop 3 lines) arrivals)
      → paper.Fits s pages arrivals → paper.Prints bytes output → PrintsTally s pages brought rest output
  demand3_printed {output = output} {rest} {lines} input names three word brought fits prints =
      let (others, words, end, there, come, is) =
      head_passes lines rest output values names three recording.shape word (printed_at input prints) in
      let here =
      subst (λ (zs : List ℕ). paper.WordLines (paper.fresh (paper.shape_of zs)) (drop 3 lines) words end)
      (line_once there.1 three.1) come in
      prints_tally brought fits here is
