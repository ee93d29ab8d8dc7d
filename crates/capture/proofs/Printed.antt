-- What the program writes for a capture of a recording is the recording's own tally (RULES 7.4).
use mathlib.Core.Path.{◌≡◌, refl, sym, ap, ◌∙◌}
use mathlib.Core.Bool.{Bool, true, false, cond, not}
use mathlib.Core.Logic.{⊎_elim}
use mathlib.Core.List.{List, [], ◌∷◌, ◌++◌, map, append-nil, append_assoc}
use Prim.Native.Nat.{ℕ, ◌<◌, ◌≤◌}
use native.Mathlib.Nat.{le_of_lt}
use native.Mathlib.Omega.{arith}
use lib.Dec.{eqb}
use lib.ListN.{length, length-replicate}
use lib.Seq.{take_all}
use borrow.Author.Tests.{ne_eqb, not-true}
use Rattle.parity.proofs.Lists.{is_tabulate}
use Rattle.parity.proofs.Tests.{either, and_left, and_right}
use Rattle.gtb.specs.declared.Shape.{Shape}
use Rattle.gtb.specs.declared.Refusal.{Refusal}
use Rattle.gtb.specs.Shape.{standard}
use Rattle.gtb.specs.Answer.{refusal_number}
use Rattle.lines.specs.declared.Kind.{Kind}
use Rattle.lines.specs.declared.Kind.TheVariants as kind
use Rattle.lines.specs.Text.{ascii, newline, space, decimal, names_outcome, outcome_name, outcome_text}
use Rattle.lines.specs.Content.{Spelled}
use Rattle.session.specs.declared.Session.{Session}
use Rattle.session.specs.declared.Outcome.{Outcome}
use Rattle.session.specs.declared.Outcome.TheVariants.{Taken, Again, Refused}
use Rattle.session.specs.Session.{fresh_of}
use Rattle.session.specs.Arrival.{the_ways}
use Rattle.session.specs.Recording.{Sheet, sheet_at, Recording, tally, Arrival, TurnedDown, Fits}
use Rattle.session.specs.Claim.{Run, come, answer_at, answer_to, Demand3}
use Rattle.session.proofs.Demand.{made, made_begins, demand3_ways}
use Rattle.session.proofs.Growth.{Kept, run_grows}
use Rattle.session.proofs.Progress.{fresh_consistent}
use Rattle.capture.specs.declared.Phase.TheVariants.{Words}
use Rattle.capture.specs.declared.Tally.{Tally}
use Rattle.capture.specs.declared.Answer.{Answer}
use Rattle.capture.specs.declared.Answer.TheVariants.{Nothing, Word}
use Rattle.capture.specs.Output.{outcome_line, refused_line, answer_text, answers_text, calls_text}
use Rattle.capture.specs.Judge.{line_content, start}
use Rattle.capture.specs.Feed.{after, feed, last_in, closing, written, read_limit, output_of}
use Rattle.capture.specs.Print.{is_unbroken, Unbroken, line_at, capture_text, arrival_of, arrivals_in, LineBrings, answer_lines, cut_line, own_table, Prints, table_from, second_table}
use Rattle.capture.proofs.Texts.{closing_in, answers_words}
use Rattle.capture.proofs.Print.{unbroken_append, decimal_unbroken, answers_to, end_of, replies_to, feed_shape, feed_lines, feed_cut, answers_number, lines_run}
use Rattle.capture.proofs.Ranks.{rank, line_stands, rank_less, line_before, line_unread}

-- ---- a capture of a recording

fresh_shape : (s : Shape) → (fresh_of s).shape ≡ s
unfolding fresh_of
fresh_shape s = refl

module _ (s : Shape) (pages : List Sheet) (lines : List (List ℕ)) (r : Recording s pages) (fits : Fits the_ways s pages (arrivals_in s lines)) where
  abbrev arrivals : List Arrival
  arrivals = arrivals_in s lines

  abbrev replies : List Outcome
  replies = replies_to (fresh_of s) lines

  abbrev answers : List Outcome
  answers = answers_to (fresh_of s) lines

  the_run : Run the_ways (fresh_of s) arrivals replies (end_of (fresh_of s) lines)
  the_run = lines_run s lines (fresh_of s) (fresh_shape s) (fresh_consistent s)

  -- demand 3 of the readable lines
  demand : Demand3 the_ways s pages (made s) arrivals replies (end_of (fresh_of s) lines)
  demand = demand3_ways s pages arrivals replies (made s) (end_of (fresh_of s) lines) r fits (made_begins s r.lawful) the_run

  -- and of line i by its place among them
  turned : (i : ℕ) → i < length lines → (xs : List ℕ) (e : Refusal) → line_content (line_at lines i) ≡ Spelled xs
      → TurnedDown the_ways s (arrival_of s xs) e → answer_at answers i ≡ Refused e
  turned i l xs e c t =
      let h = line_stands s lines (fresh_of s) i l xs c in
      sym h.answer ∙ demand.every.turned (rank lines i) h.there e (rw h.arrival t)

  brought : (i p k : ℕ) → LineBrings s pages lines i p k
      → answer_at answers i ≡ answer_to (come the_ways s arrivals (rank lines i) (sheet_at pages p).number) (sheet_at pages p).number k
  brought i p k b =
      let h = line_stands s lines (fresh_of s) i b.there b.values b.spelled in
      sym h.answer ∙ demand.answer (rank lines i) h.there p b.page k (rw h.arrival b.brings)

  -- a page has come before line i exactly if a line before brings it
  rank_within : (i p k : ℕ) → LineBrings s pages lines i p k → rank lines i ≤ length arrivals
  rank_within i p k b = le_of_lt (line_stands s lines (fresh_of s) i b.there b.values b.spelled).there

  come_brought : (i p k : ℕ) → LineBrings s pages lines i p k → come the_ways s arrivals (rank lines i) (sheet_at pages p).number ≡ true
      → (j : ℕ) × (j < i) × (c : ℕ) × LineBrings s pages lines j p c
  come_brought i p k b h =
      let (m, l, c, brings) = (demand.came (rank lines i) (rank_within i p k b) p b.page).0 h in
      let f = line_before s lines i m l in
      (f.line, f.earlier, c, record { there = f.there; page = b.page; values = f.values; spelled = f.spelled; brings = rw f.arrival at brings })

  brought_come : (i p k j c : ℕ) → LineBrings s pages lines i p k → j < i → LineBrings s pages lines j p c
      → come the_ways s arrivals (rank lines i) (sheet_at pages p).number ≡ true
  brought_come i p k j c b l d =
      let h = line_stands s lines (fresh_of s) j d.there d.values d.spelled in
      (demand.came (rank lines i) (rank_within i p k b) p b.page).1
      (rank lines j, rank_less lines i j l d.there d.values d.spelled, c, rw h.arrival d.brings)

  taken : (i p k : ℕ) → LineBrings s pages lines i p k → ((j c : ℕ) → j < i → LineBrings s pages lines j p c → ⊥)
      → answer_at answers i ≡ Taken (sheet_at pages p).number k
  taken i p k b none =
      let has : Bool = come the_ways s arrivals (rank lines i) (sheet_at pages p).number in
      brought i p k b
      ∙ ⊎_elim (λ (t : has ≡ true). let (j, l, c, d) = come_brought i p k b t in absurd (none j c l d))
      (λ (f : has ≡ false). ap (λ (x : Bool). answer_to x (sheet_at pages p).number k) f)
      (either has)

  again : (i p k j c : ℕ) → LineBrings s pages lines i p k → j < i → LineBrings s pages lines j p c
      → answer_at answers i ≡ Again (sheet_at pages p).number k
  again i p k j c b l d = brought i p k b ∙ ap (λ (x : Bool). answer_to x (sheet_at pages p).number k) (brought_come i p k j c b l d)

  -- the counts at the end, as a list: one for each of 256 functions
  fresh_kept : length s.slopes ≡ 7 → Kept s (fresh_of s)
  unfolding fresh_of
  fresh_kept seven = record { shape = refl; consistent = fresh_consistent s; sized = record { slopes = seven; taken = length-replicate 1024 false; calls = length-replicate {A = ℕ} 256 0 } }

  end_table : length s.slopes ≡ 7 → calls_text (end_of (fresh_of s) lines).calls ≡ own_table pages
  unfolding own_table
  end_table seven =
      let end = (run_grows r.lawful (fresh_kept seven) the_run).1 in
      ap calls_text (is_tabulate 256 (tally pages (λ p. true)) (end_of (fresh_of s) lines).calls end.sized.calls demand.whole)

-- within the limit all of the input is read
pub read_whole : (input : List ℕ) → length input ≤ read_limit → output_of input ≡ written (feed start [] input)
unfolding output_of
read_whole input few = ap (λ (x : List ℕ). written (feed start [] x)) (take_all read_limit input few)

-- the first three lines are answered with nothing
heads_text : (answers : List Answer) → answers_text (Nothing ∷ Nothing ∷ Nothing ∷ answers) ≡ answers_text answers
unfolding answers_text
heads_text answers = refl

-- the answer to a line without its newline
cut_text : (whole : Bool) → answer_text (last_in Words whole) ≡ cond whole [] (refused_line Refusal.Syntax)
cut_text true = refl
cut_text false = refl

module _ (q n b : ℕ) (pages : List Sheet) (lines : List (List ℕ)) (cut : List ℕ) (r : Recording (standard q n b) pages) (unbroken : (i : ℕ) → i < length lines → Unbroken (line_at lines i)) (last : Unbroken cut) (fits : Fits the_ways (standard q n b) pages (arrivals_in (standard q n b) lines)) (few : length (capture_text q n b lines cut) ≤ read_limit) where
  the_text : output_of (capture_text q n b lines cut)
      ≡ names_outcome ++ answer_lines (answers_to (fresh_of (standard q n b)) lines) ++ cut_line cut ++ own_table pages
  the_text =
      let s : Shape = standard q n b in
      let end : Session = end_of (fresh_of s) lines in
      let a : List ℕ = answer_lines (answers_to (fresh_of s) lines) in
      let w : List Answer = map Word (answers_to (fresh_of s) lines) in
      let t : Tally = record { phase = Words; session = end } in
      read_whole (capture_text q n b lines cut) few
      ∙ ap written (feed_shape q n b r.lawful lines cut ∙ ap (after (Nothing ∷ Nothing ∷ Nothing ∷ [])) (feed_lines lines (fresh_of s) cut unbroken ∙ ap (after w) (feed_cut t cut last)))
      ∙ ap (λ (x : List ℕ). names_outcome ++ x ++ closing t cut) (heads_text (w ++ []) ∙ ap answers_text (append-nil w) ∙ answers_words (answers_to (fresh_of s) lines))
      ∙ ap (λ (x : List ℕ). names_outcome ++ a ++ x) (closing_in t cut refl ∙ ap (λ (x : List ℕ). x ++ calls_text end.calls) (cut_text (eqb (length cut) 0)) ∙ ap (λ (x : List ℕ). cut_line cut ++ x) (end_table s pages lines r fits refl))
      ∙ sym (append_assoc (names_outcome ++ a) (cut_line cut) (own_table pages))

  pub printed : Prints (standard q n b) pages lines cut (output_of (capture_text q n b lines cut))
  printed =
      let s : Shape = standard q n b in
      record {
        answers = answers_to (fresh_of s) lines;
        each = answers_number lines (fresh_of s);
        unreadable = line_unread lines (fresh_of s);
        turned = turned s pages lines r fits;
        taken = taken s pages lines r fits;
        again = again s pages lines r fits;
        whole = the_text;
      }

-- ---- the second table

-- a line that begins with another byte than f is passed over
rest_passed : (line rest : List ℕ) → Unbroken line → table_from false (line ++ newline ∷ rest) ≡ table_from true rest
unfolding table_from
rest_passed [] rest h = refl
rest_passed (b ∷ line) rest h =
    ap (λ (first : Bool). table_from first (line ++ newline ∷ rest)) (not-true (eqb b newline) (and_left (not (eqb b newline)) (is_unbroken line) h))
    ∙ rest_passed line rest (and_right (not (eqb b newline)) (is_unbroken line) h)

line_passed : (b : ℕ) (line rest : List ℕ) → (b ≡ 102 → ⊥) → Unbroken (b ∷ line) → second_table (b ∷ (line ++ newline ∷ rest)) ≡ second_table rest
unfolding table_from
line_passed b line rest other h =
    let text : List ℕ = line ++ newline ∷ rest in
    ap (λ (f : Bool). cond f (b ∷ text) (table_from (eqb b newline) text)) (ne_eqb b 102 other) ∙ rest_passed (b ∷ line) rest h

-- the first name line
names_passed : (rest : List ℕ) → second_table (names_outcome ++ rest) ≡ second_table rest
names_passed rest = line_passed 111 (ascii "utcome page fixed") rest (λ e. omega arith) refl

-- a line of the first table: a name that does not begin with f, and two values
module _ (number fixed : ℕ) (rest : List ℕ) where
  name_passed : (b : ℕ) (name : List ℕ) → (b ≡ 102 → ⊥) → Unbroken (b ∷ name)
      → second_table (b ∷ name ++ space ∷ decimal number ++ space ∷ decimal fixed ++ newline ∷ [] ++ rest) ≡ second_table rest
  name_passed b name other plain =
      let whole : List ℕ = b ∷ name ++ space ∷ decimal number ++ space ∷ decimal fixed in
      ap second_table (append_assoc whole (newline ∷ []) rest)
      ∙ line_passed b (name ++ space ∷ decimal number ++ space ∷ decimal fixed) rest other
      (unbroken_append (b ∷ name ++ space ∷ decimal number) (space ∷ decimal fixed)
      (unbroken_append (b ∷ name) (space ∷ decimal number) plain (decimal_unbroken number)) (decimal_unbroken fixed))

  kind_passed : (kind : Kind) → second_table (outcome_text kind number fixed ++ rest) ≡ second_table rest
  unfolding outcome_text outcome_name
  kind_passed kind.Taken = name_passed 116 (ascii "aken") (λ e. omega arith) refl
  kind_passed kind.Again = name_passed 97 (ascii "gain") (λ e. omega arith) refl
  kind_passed kind.Refused = name_passed 114 (ascii "efused") (λ e. omega arith) refl

outcome_passed : (r : Outcome) (rest : List ℕ) → second_table (outcome_line r ++ rest) ≡ second_table rest
unfolding outcome_line
outcome_passed (Taken number k) rest = kind_passed number k rest kind.Taken
outcome_passed (Again number k) rest = kind_passed number k rest kind.Again
outcome_passed (Refused e) rest = kind_passed (refusal_number e) 0 rest kind.Refused

answers_passed : (answers : List Outcome) (rest : List ℕ) → second_table (answer_lines answers ++ rest) ≡ second_table rest
unfolding answer_lines
answers_passed [] rest = refl
answers_passed (r ∷ answers) rest =
    ap second_table (append_assoc (outcome_line r) (answer_lines answers) rest) ∙ outcome_passed r (answer_lines answers ++ rest) ∙ answers_passed answers rest

cut_passed : (empty : Bool) (rest : List ℕ) → second_table (cond empty [] (refused_line Refusal.Syntax) ++ rest) ≡ second_table rest
cut_passed true rest = refl
cut_passed false rest = outcome_passed (Refused Refusal.Syntax) rest

own_found : (pages : List Sheet) → second_table (own_table pages) ≡ own_table pages
unfolding table_from own_table calls_text
own_found pages = refl

pub prints_table : {s : Shape} {pages : List Sheet} {lines : List (List ℕ)} {cut text : List ℕ} → Prints s pages lines cut text → second_table text ≡ own_table pages
prints_table {pages = pages} {cut = cut} p =
    let a : List ℕ = answer_lines p.answers in
    let c : List ℕ = cut_line cut in
    ap second_table (p.whole ∙ append_assoc (names_outcome ++ a) c (own_table pages) ∙ append_assoc names_outcome a (c ++ own_table pages))
    ∙ names_passed (a ++ (c ++ own_table pages))
    ∙ answers_passed p.answers (c ++ own_table pages)
    ∙ cut_passed (eqb (length cut) 0) (own_table pages)
    ∙ own_found pages

-- two captures of one recording, whatever lines they have, print the same second table: the recording's
pub same_table : (q n b : ℕ) (pages : List Sheet) (lines lines' : List (List ℕ)) (cut cut' : List ℕ) → Recording (standard q n b) pages
    → ((i : ℕ) → i < length lines → Unbroken (line_at lines i)) → ((i : ℕ) → i < length lines' → Unbroken (line_at lines' i)) → Unbroken cut → Unbroken cut'
    → Fits the_ways (standard q n b) pages (arrivals_in (standard q n b) lines) → Fits the_ways (standard q n b) pages (arrivals_in (standard q n b) lines')
    → length (capture_text q n b lines cut) ≤ read_limit → length (capture_text q n b lines' cut') ≤ read_limit
    → (second_table (output_of (capture_text q n b lines cut)) ≡ second_table (output_of (capture_text q n b lines' cut')))
    × (second_table (output_of (capture_text q n b lines cut)) ≡ own_table pages)
    × (second_table (output_of (capture_text q n b lines' cut')) ≡ own_table pages)
same_table q n b pages lines lines' cut cut' r whole whole' last last' fits fits' few few' =
    let one = prints_table (printed q n b pages lines cut r whole last fits few) in
    let other = prints_table (printed q n b pages lines' cut' r whole' last' fits' few') in
    (one ∙ sym other, one, other)
