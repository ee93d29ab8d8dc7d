-- What the program still writes, line by line; and that its word lines are the paper's.
use mathlib.Core.Path.{◌≡◌, refl, sym, ap, ◌∙◌, subst}
use mathlib.Core.List.{List, [], ◌∷◌, ◌++◌, append_assoc, append-nil}
use mathlib.Core.Logic.{inl, inr, ⊎_elim}
use Prim.Native.Nat.{ℕ, suc}
use native.Mathlib.Omega.{arith}
use lib.ListN.{length, replicate, length-replicate}
use borrow.Author.Tests.{ne_eqb}
use Rattle.paper.specs.Paper as paper
use Rattle.paper.specs.Program.{none as stop, more}
use Rattle.parity.proofs.Lists.{length_tabulate}
use Rattle.gtb.specs.declared.Shape.{Shape}
use Rattle.gtb.specs.declared.Refusal.{Refusal}
use Rattle.gtb.specs.Shape.{scratch_length, kept_checks}
use Rattle.gtb.specs.Answer.{refusal_number}
use Rattle.gtb.proofs.Judging.{passes}
use Rattle.lines.specs.Content.{Content, Spelled, Unreadable}
use Rattle.session.specs.declared.Session.{Session}
use Rattle.session.specs.declared.Outcome.{Outcome}
use Rattle.session.specs.declared.Outcome.TheVariants.{Taken, Again, Refused}
use Rattle.session.specs.Session.{plain, added, recorded, fresh_of}
use Rattle.session.specs.Arrival.{the_ways, Opened, Page, Bad, outcome_values, outcome_of, session_by, session_after, word_after, outcome_scratch, Arriving}
use Rattle.session.proofs.Arrive.{step_arrives}
use Rattle.session.proofs.Paper.{decides_figures}
use Rattle.session.proofs.Arriving.{arrival}
use Rattle.capture.specs.declared.Fault.{Fault}
use Rattle.capture.specs.declared.Phase.{Phase}
use Rattle.capture.specs.declared.Phase.TheVariants.{Words, Ended}
use Rattle.capture.specs.declared.Tally.{Tally}
use Rattle.capture.specs.declared.Judged.{Judged}
use Rattle.capture.specs.Judge.{line_content, passed, fault, brought_by, judged_of}
use Rattle.capture.specs.Output.{outcome_line, answer_text, answers_text, calls_text}
use Rattle.capture.specs.Feed.{feed, closing, remaining}
use Rattle.capture.specs.Print.{answer_lines}
use Rattle.capture.proofs.Texts.{closing_in}
use Rattle.capture.proofs.Feeds.{feed_none, feed_end, feed_run, ended_silent, silent_closing}
use Rattle.capture.proofs.Print.{replied, left, answers_to, end_of}
use Rattle.conformance.proofs.Arrived.{Kept, kept_on}
use Rattle.conformance.proofs.Texts.{same_answer, same_table, Values, NoValues, reads}
use Rattle.conformance.proofs.Cuts.{Each, each_first, each_tail}

-- ---- what is still written once the tally stands so and these bytes are left
abbrev pub coming : Tally → List ℕ → List ℕ
coming t bytes = remaining (feed t [] bytes)

line_fed : (t : Tally) (line : List ℕ) (lines : List (List ℕ)) (rest : List ℕ) → paper.Unbroken line
    → coming t (paper.joined (line ∷ lines) rest)
    ≡ answer_text (judged_of t line).answer ++ coming (judged_of t line).tally (paper.joined lines rest)
unfolding answers_text
line_fed t line lines rest u =
    let bytes = paper.joined lines rest in
    let j = judged_of t line in
    let fed = feed j.tally [] bytes in
    ap remaining (feed_run t line [] (10 ∷ bytes) u ∙ feed_end t line 10 bytes refl)
    ∙ append_assoc (answer_text j.answer) (answers_text fed.answers) (closing fed.tally fed.held)

rest_fed : (t : Tally) (rest : List ℕ) → paper.Unbroken rest → coming t rest ≡ closing t rest
unfolding answers_text
rest_fed t rest u = ap remaining (ap (feed t []) (sym (append-nil rest)) ∙ feed_run t rest [] [] u ∙ feed_none t rest)

-- ---- one of the first three lines is passed, at fault, or missing
module _ (t : Tally) (line : List ℕ) (lines : List (List ℕ)) (rest : List ℕ) (u : paper.Unbroken line) where
  abbrev later : Judged → List ℕ
  later j = answer_text j.answer ++ coming j.tally (paper.joined lines rest)

  pub passed_on : (phase : Phase) (σ : Session) → judged_of t line ≡ passed phase σ
      → coming t (paper.joined (line ∷ lines) rest)
      ≡ coming (record { phase = phase; session = σ }) (paper.joined lines rest)
  passed_on phase σ h = line_fed t line lines rest u ∙ ap later h

  -- after a fault nothing more is written
  pub faulted : (σ : Session) (f : Fault) (e : Refusal) → judged_of t line ≡ fault σ f e
      → coming t (paper.joined (line ∷ lines) rest) ≡ paper.refused_line (refusal_number e)
  faulted σ f e h =
      let ended : Tally = record { phase = Ended f; session = σ } in
      let fed = feed ended [] (paper.joined lines rest) in
      let silent = ended_silent (paper.joined lines rest) ended [] {f = f} refl in
      let closed = silent_closing fed.tally fed.held silent.phase in
      line_fed t line lines rest u ∙ ap later h
      ∙ (λ i. outcome_line (Refused e) ++ (silent.text i ++ closed i))
      ∙ append-nil (outcome_line (Refused e)) ∙ same_answer (Refused e)

pub missing : (t : Tally) (rest : List ℕ) → paper.Unbroken rest
    → closing t rest ≡ outcome_line (Refused Refusal.Syntax) ++ [] → coming t rest ≡ paper.refused_line 10
missing t rest u h =
    rest_fed t rest u ∙ h ∙ append-nil (outcome_line (Refused Refusal.Syntax)) ∙ same_answer (Refused Refusal.Syntax)

-- ---- a word line
module _ {s : paper.Shape} (σ : Session) (kept : Kept s (plain σ)) (line : List ℕ) where
  abbrev scratch : List ℕ
  scratch = replicate (scratch_length σ.shape) 0

  -- the program steps past test 11, which a session with right figures passes
  arrives : (xs : List ℕ)
      → Arriving the_ways σ 0 xs scratch (word_after xs ((the_ways.named 0).word σ.shape xs) (replied σ (Spelled xs)))
      (outcome_scratch scratch (replied σ (Spelled xs)))
      (record { session = left σ (Spelled xs); outcome = replied σ (Spelled xs) })
  arrives xs =
      step_arrives the_ways σ 0 (passes (decides_figures σ) kept.figures)
      (record { outcome = refl; session = refl; word_left = refl; scratch_left = refl })

  with_values : (xs : List ℕ) → paper.Line line xs
      → paper.WordLine (plain σ) line (outcome_values (replied σ (Spelled xs))) (plain (left σ (Spelled xs)))
  unfolding scratch_length kept_checks
  with_values xs has =
      inr (λ none. none xs has, (xs, _, has, arrival σ kept.size xs scratch 0 (arrives xs), refl, refl))

  without : ((xs : List ℕ) → ¬ paper.Line line xs)
      → paper.WordLine (plain σ) line (outcome_values (replied σ Unreadable)) (plain (left σ Unreadable))
  unfolding outcome_of session_after
  without none = inl (none, (refl, refl))

  abbrev said : Content
  said = line_content line

  word_line : paper.WordLine (plain σ) line (outcome_values (replied σ said)) (plain (left σ said))
  word_line =
      ⊎_elim
      (λ (x : Values line). rw x.read (with_values x.values x.has))
      (λ (x : NoValues line). rw x.read (without x.none))
      (reads line)

-- a word line keeps what an arrival keeps
pub line_kept : {s : paper.Shape} {σ τ : paper.Session} (line answer : List ℕ)
    → Kept s σ → paper.WordLine σ line answer τ → Kept s τ
line_kept {s} line answer kept (inl (none, x)) = subst (Kept s) (sym x.1) kept
line_kept {s} line answer kept (inr (some, x)) = subst (Kept s) (sym x.5) (kept_on _ kept x.3)

pub word_lines : {s : paper.Shape} (lines : List (List ℕ)) (σ : Session) → Kept s (plain σ)
    → paper.WordLines (plain σ) lines (answer_lines (answers_to σ lines)) (plain (end_of σ lines))
unfolding answer_lines
word_lines [] σ kept = stop
word_lines (line ∷ lines) σ kept =
    let τ = left σ (line_content line) in
    let r = replied σ (line_content line) in
    let first = word_line σ kept line in
    let later = answer_lines (answers_to τ lines) in
    subst (λ (l : List ℕ). paper.WordLines (plain σ) (line ∷ lines) (l ++ later) (plain (end_of τ lines)))
    (sym (same_answer r))
    (more first (word_lines lines τ (line_kept line (outcome_values r) kept first)))

-- ---- the word lines and the end of the input
abbrev words : Session → Tally
words σ = record { phase = Words; session = σ }

abbrev second_table : List ℕ → List ℕ
second_table calls = paper.ascii "function calls\n" ++ paper.table 0 calls

end_text : (σ : Session) (rest : List ℕ) → closing (words σ) rest ≡ paper.cut_line rest ++ second_table σ.calls
unfolding calls_text
end_text σ [] =
    closing_in (words σ) [] refl ∙ ap (λ (l : List ℕ). paper.ascii "function calls\n" ++ l) (same_table 0 σ.calls)
end_text σ (b ∷ rest) =
    closing_in (words σ) (b ∷ rest) refl
    ∙ rw (ne_eqb (suc (length rest)) 0 (λ e. omega arith))
    (λ i. same_answer (Refused Refusal.Syntax) i ++ (paper.ascii "function calls\n" ++ same_table 0 σ.calls i))

pub words_text : (lines : List (List ℕ)) (rest : List ℕ) (σ : Session) → Each lines → paper.Unbroken rest
    → coming (words σ) (paper.joined lines rest)
    ≡ answer_lines (answers_to σ lines) ++ (paper.cut_line rest ++ second_table (end_of σ lines).calls)
unfolding answer_lines judged_of
words_text [] rest σ each last = rest_fed (words σ) rest last ∙ end_text σ rest
words_text (line ∷ lines) rest σ each last =
    let τ = left σ (line_content line) in
    let first = outcome_line (replied σ (line_content line)) in
    let end = paper.cut_line rest ++ second_table (end_of τ lines).calls in
    line_fed (words σ) line lines rest (each_first each)
    ∙ ap (λ (l : List ℕ). first ++ l) (words_text lines rest τ (each_tail each) last)
    ∙ sym (append_assoc first (answer_lines (answers_to τ lines)) end)

-- ---- a count for each of 256 functions
by_calls : (σ : Session) (o : Opened) (r : Outcome) → length σ.calls ≡ 256 → length (session_by σ o r).calls ≡ 256
unfolding recorded added
by_calls σ (Page number marks k) (Taken p c) h = length_tabulate 256 _
by_calls σ (Page number marks k) (Again p c) h = h
by_calls σ (Page number marks k) (Refused e) h = h
by_calls σ (Bad e) r h = h

left_calls : (σ : Session) (c : Content) → length σ.calls ≡ 256 → length (left σ c).calls ≡ 256
unfolding session_after
left_calls σ c = by_calls σ (brought_by σ.shape c) (replied σ c)

end_calls : (lines : List (List ℕ)) (σ : Session) → length σ.calls ≡ 256 → length (end_of σ lines).calls ≡ 256
end_calls [] σ h = h
end_calls (line ∷ lines) σ h = end_calls lines (left σ (line_content line)) (left_calls σ (line_content line) h)

pub fresh_end_calls : (lines : List (List ℕ)) (s : Shape) → length (end_of (fresh_of s) lines).calls ≡ 256
unfolding fresh_of
fresh_end_calls lines s = end_calls lines (fresh_of s) (length-replicate {A = ℕ} 256 0)
