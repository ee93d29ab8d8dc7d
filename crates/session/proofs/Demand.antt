-- Demand 3: what comes of a whole list of arrivals that fits a recording.
use Rattle.gtb.proofs.Answers.{never_done}
use Rattle.std.specs.Prelude.{Result, Err, Ok}
use mathlib.Core.Path.{◌≡◌, refl, sym, ap, ◌∙◌, subst}
use mathlib.Core.Logic.{⊎_elim}
use mathlib.Core.Bool.{Bool, true, false, cond}
use mathlib.Core.List.{List, [], ◌∷◌}
use Prim.Native.Nat.{ℕ, zero, suc, ◌+◌, ◌<◌, ◌≤◌}
use native.Mathlib.Nat.{add-zero, mul-one, le_refl, le_of_lt, le_trans}
use lib.ListN.{length, get_or, take}
use lib.Seq.{take-length}
use borrow.Author.Tests.{eq-eqb, eqb-true, lt-ltb}
use Rattle.parity.specs.Count.{bit, sum, count}
use Rattle.parity.proofs.Tests.{clash, any_intro, any_elim}
use Rattle.parity.proofs.Sums.{sum_cong, sum_none, sum_const}
use Rattle.gtb.specs.declared.Shape.{Shape}
use Rattle.gtb.specs.declared.Refusal.{Refusal}
use Rattle.gtb.specs.Shape.{lawful, Lawful}
use Rattle.session.specs.declared.Session.{Session}
use Rattle.session.specs.declared.Unlawful.{Unlawful}
use Rattle.session.specs.declared.Outcome.{Outcome}
use Rattle.session.specs.declared.Arrived.{Arrived}
use Rattle.session.specs.Session.{fresh_of, fresh_status, Beginning, session_status, count_of, counted_of}
use Rattle.session.specs.Arrival.{Ways, AllSound, the_ways, Opened, Page, Bad, outcome_of, session_after}
use Rattle.session.specs.Recording.{Sheet, sheet_at, Recording, tally, Arrival, arrival_at, opened_at, TurnedDown, Brings, Fits}
use Rattle.session.specs.Claim.{Run, stop, step, has_number, come, Machine, empty_machine, machine_step, machine, answer_at, EveryList, is_taken, answer_to, Demand3, ClaimOf, Claim}
use Rattle.session.proofs.Machine.{fed_counts, weighed, fed_weight, machine_more, held, held_pages}
use Rattle.session.proofs.Fed.{reply, brought, answers_of, run_answers, run_end, run_reply, every_list}
use Rattle.session.proofs.Ways.{all_sound}
use Rattle.session.proofs.Fits.{From, sheet_opened, fits_from, only_recording}

-- ---- the runs of a list

-- there is one
pub run_exists : (ways : Ways) (σ : Session) (arrivals : List Arrival) → (answers : List Outcome) × (end : Session) × Run ways σ arrivals answers end
run_exists ways σ [] = ([], σ, stop)
run_exists ways σ (a ∷ rest) =
    let o : Opened = brought ways σ a in
    let r : Arrived = record { session = session_after σ o; outcome = outcome_of σ o } in
    let (answers, end, run) = run_exists ways (session_after σ o) rest in
    (r.outcome ∷ answers, end, step {r = r} (record { outcome = refl; session = refl; word_left = refl; scratch_left = refl }) run)

-- and no other
pub run_unique : {ways : Ways} {σ : Session} {arrivals : List Arrival} {answers answers' : List Outcome} {end end' : Session}
    → Run ways σ arrivals answers end → Run ways σ arrivals answers' end' → (answers ≡ answers') × (end ≡ end')
run_unique r r' = (run_answers r ∙ sym (run_answers r'), run_end r ∙ sym (run_end r'))

-- the answers to the first arrivals are the first answers
take_answers : (ways : Ways) (σ : Session) (m : ℕ) (arrivals : List Arrival) → answers_of ways σ (take m arrivals) ≡ take m (answers_of ways σ arrivals)
take_answers ways σ zero arrivals = refl
take_answers ways σ (suc m) [] = refl
take_answers ways σ (suc m) (a ∷ rest) =
    ap (λ (rs : List Outcome). outcome_of σ (brought ways σ a) ∷ rs) (take_answers ways (session_after σ (brought ways σ a)) m rest)

-- ---- what an arrival adds

-- the weights of those of the pages that are in a set
abbrev total : List Sheet → (Sheet → ℕ) → (ℕ → Bool) → ℕ
total pages w some = weighed (length pages) (λ i. (sheet_at pages i).number) (λ i. w (sheet_at pages i)) some

-- the weight of what was brought, if it is a new page
abbrev gain : (Sheet → ℕ) → Machine → Opened → ℕ
gain w m (Page number marks k) = cond (m.pages number) 0 (w (record { number = number; marks = marks }))
gain w m (Bad e) = 0

-- the machine's counts gain its marks
feed_gain : (m : Machine) (o : Opened) (f : ℕ) → (machine_step m o).counts f ≡ m.counts f + gain (λ p. count_of f p.marks) m o
feed_gain m (Page number marks k) f = fed_counts m number marks (m.pages number) f
feed_gain m (Bad e) f = sym (add-zero (m.counts f))

bit_taken : (known : Bool) (number k : ℕ) → bit (is_taken (answer_to known number k)) ≡ cond known 0 1
unfolding bit
bit_taken true number k = refl
bit_taken false number k = refl

-- taken is answered once more
taken_gain : (m : Machine) (o : Opened) → bit (is_taken (reply m o)) ≡ gain (λ p. 1) m o
unfolding bit
taken_gain m (Page number marks k) = bit_taken (m.pages number) number k
taken_gain m (Bad e) = refl

-- and the recording's pages that have come gain its weight
total_gain : (s : Shape) (pages : List Sheet) → Recording s pages → (w : Sheet → ℕ) (m : Machine) (o : Opened) → From pages o
    → total pages w (machine_step m o).pages ≡ total pages w m.pages + gain w m o
total_gain s pages r w m (Page number marks k) (i, l, e) =
    fed_weight (length pages) (λ j. (sheet_at pages j).number) (λ j. w (sheet_at pages j)) m number marks (m.pages number) refl i l
    (ap (λ (p : Sheet). p.number) e)
    (λ j lj h. r.different j i lj l (h ∙ sym (ap (λ (p : Sheet). p.number) e)))
    ∙ ap (λ (p : Sheet). total pages w m.pages + cond (m.pages number) 0 (w p)) e
total_gain s pages r w m (Bad e) h = sym (add-zero _)

-- ---- the whole list

module _ (ways : Ways) (s : Shape) (sound : AllSound ways s) (pages : List Sheet) (r : Recording s pages) (arrivals : List Arrival) (fits : Fits ways s pages arrivals) where
  -- what starts at 0 and gains the weight of each new page is the weight of the pages that have come
  gained : (w : Sheet → ℕ) (g : ℕ → ℕ) → g 0 ≡ 0
      → ((j : ℕ) → j < length arrivals → g (suc j) ≡ g j + gain w (held ways s arrivals j) (opened_at ways s arrivals j))
      → (j : ℕ) → j ≤ length arrivals → g j ≡ total pages w (held ways s arrivals j).pages
  unfolding weighed
  gained w g z h zero l = z ∙ sym (sum_none (length pages) (λ i. 0) (λ i li. refl))
  gained w g z h (suc j) l =
      let m : Machine = held ways s arrivals j in
      let o : Opened = opened_at ways s arrivals j in
      h j l ∙ ap (λ (x : ℕ). x + gain w m o) (gained w g z h j (le_of_lt l))
      ∙ sym (total_gain s pages r w m o (fits_from ways s sound arrivals pages r fits j l))
      ∙ ap (λ (m' : Machine). total pages w m'.pages) (sym (machine_more ways s empty_machine arrivals j l))

  -- the machine's counts: the marks of the pages that have come
  held_counts : (f j : ℕ) → j ≤ length arrivals
      → (held ways s arrivals j).counts f ≡ total pages (λ p. count_of f p.marks) (held ways s arrivals j).pages
  held_counts f =
      gained (λ p. count_of f p.marks) (λ j. (held ways s arrivals j).counts f) refl
      (λ j l. ap (λ (m : Machine). m.counts f) (machine_more ways s empty_machine arrivals j l) ∙ feed_gain (held ways s arrivals j) (opened_at ways s arrivals j) f)

  -- as a tally, after j arrivals and at the end
  counts_sofar : (f j : ℕ) → j ≤ length arrivals → (held ways s arrivals j).counts f ≡ tally pages (λ p. come ways s arrivals j p.number) f
  unfolding tally weighed
  counts_sofar f j l =
      held_counts f j l
      ∙ sum_cong (length pages) _ _
      (λ i li. ap (λ (b : Bool). cond b (count_of f (sheet_at pages i).marks) 0) (held_pages ways s arrivals j l (sheet_at pages i).number))

  -- a page that an arrival so far brings has come
  brought_comes : (m i : ℕ) → i < length pages → (j : ℕ) → j < m → (k : ℕ) → Brings ways s (arrival_at arrivals j) (sheet_at pages i) k
      → come ways s arrivals m (sheet_at pages i).number ≡ true
  unfolding come
  brought_comes m i l j lj k b =
      let p : ℕ = (sheet_at pages i).number in
      any_intro m (λ j'. has_number p (opened_at ways s arrivals j')) j lj
      (rw (sheet_opened ways s sound arrivals pages r j i l k b) (eq-eqb p p refl))

  -- an arrival that opens to the number of a page brings that page
  numbered_brings : (j : ℕ) → j < length arrivals → (i : ℕ) → i < length pages
      → has_number (sheet_at pages i).number (opened_at ways s arrivals j) ≡ true
      → (k : ℕ) × Brings ways s (arrival_at arrivals j) (sheet_at pages i) k
  numbered_brings j l i li h =
      ⊎_elim
      (λ (t : (e : Refusal) × TurnedDown ways s (arrival_at arrivals j) e). absurd (clash h (ap (has_number (sheet_at pages i).number) t.1.by)))
      (λ (b : (i' : ℕ) × (i' < length pages) × (k : ℕ) × Brings ways s (arrival_at arrivals j) (sheet_at pages i') k).
      let same : (sheet_at pages b.0).number ≡ (sheet_at pages i).number =
      eqb-true _ _ (rw (sheet_opened ways s sound arrivals pages r j b.0 b.1 b.2 b.3) at h) in
      (b.2, subst (λ (x : ℕ). Brings ways s (arrival_at arrivals j) (sheet_at pages x) b.2) (r.different b.0 i b.1 li same) b.3))
      (fits.each j l)

  -- a page that has come was brought
  comes_brought : (m : ℕ) → m ≤ length arrivals → (i : ℕ) → i < length pages → come ways s arrivals m (sheet_at pages i).number ≡ true
      → (j : ℕ) × (j < m) × (k : ℕ) × Brings ways s (arrival_at arrivals j) (sheet_at pages i) k
  unfolding come
  comes_brought m lm i li h =
      let (j, lj, has) = any_elim m (λ j'. has_number (sheet_at pages i).number (opened_at ways s arrivals j')) h in
      let (k, b) = numbered_brings j (le_trans lj lm) i li has in
      (j, lj, k, b)

  -- in the end each page has come
  all_come : (i : ℕ) → i < length pages → (held ways s arrivals (length arrivals)).pages (sheet_at pages i).number ≡ true
  all_come i l =
      let (j, lj, k, b) = fits.every i l in
      held_pages ways s arrivals (length arrivals) (le_refl (length arrivals)) (sheet_at pages i).number
      ∙ brought_comes (length arrivals) i l j lj k b

  total_end : (w : Sheet → ℕ) → total pages w (held ways s arrivals (length arrivals)).pages ≡ sum (length pages) (λ i. w (sheet_at pages i))
  unfolding weighed
  total_end w = sum_cong (length pages) _ _ (λ i l. ap (λ (b : Bool). cond b (w (sheet_at pages i)) 0) (all_come i l))

  counts_end : (f : ℕ) → (machine ways s empty_machine arrivals).counts f ≡ tally pages (λ p. true) f
  unfolding tally
  counts_end f =
      ap (λ (xs : List Arrival). (machine ways s empty_machine xs).counts f) (sym (take-length arrivals))
      ∙ held_counts f (length arrivals) (le_refl (length arrivals)) ∙ total_end (λ p. count_of f p.marks)

  taken_end : (answers : List Outcome) (end : Session) → Run ways (fresh_of s) arrivals answers end
      → count (length arrivals) (λ j. is_taken (answer_at answers j)) ≡ length pages
  unfolding count sum
  taken_end answers end run =
      gained (λ p. 1) (λ j. count j (λ i. is_taken (answer_at answers i))) refl
      (λ j l.
      ap (λ (x : ℕ). count j (λ i. is_taken (answer_at answers i)) + x)
      (ap (λ (a : Outcome). bit (is_taken a)) (run_reply ways s sound run j l) ∙ taken_gain (held ways s arrivals j) (opened_at ways s arrivals j)))
      (length arrivals) (le_refl (length arrivals))
      ∙ total_end (λ p. 1) ∙ sum_const (length pages) 1 ∙ mul-one (length pages)

-- what `Session::fresh` gives of a lawful shape
abbrev pub made : Shape → Result Session Unlawful
made s = Ok (fresh_of s)

pub made_begins : (s : Shape) → Lawful s → Beginning s (made s)
unfolding fresh_status
made_begins s legal = record { session = refl; status = rw legal refl }

begins_made : {s : Shape} {begin : Result Session Unlawful} → Lawful s → Beginning s begin → begin ≡ made s
unfolding fresh_status
begins_made {begin = Ok σ} legal b = ap Ok b.session
begins_made {begin = Err e} legal b = let status : ◌≡◌ {A = Result (Unit {0}) Refusal} (Err e.refusal) (Ok tt) = rw legal at b.status in absurd (never_done e.refusal status)

from_made : (ways : Ways) (s : Shape) → AllSound ways s → (pages : List Sheet) (arrivals : List Arrival) (answers : List Outcome) (end : Session)
    → Recording s pages → Fits ways s pages arrivals → Run ways (fresh_of s) arrivals answers end → Demand3 ways s pages (made s) arrivals answers end
unfolding counted_of session_status
from_made ways s sound pages arrivals answers end r fits run =
    let every : EveryList ways s (fresh_of s) arrivals answers end = every_list ways s sound arrivals answers end run in
    let whole : (f : ℕ) → f < 256 → get_or end.calls f 0 ≡ tally pages (λ p. true) f = λ f l. every.agrees.calls f l ∙ counts_end ways s sound pages r arrivals fits f in
    record {
      made = refl;
      sofar = λ m l first σ run'. (
        run_answers run' ∙ take_answers ways (fresh_of s) m arrivals ∙ ap (take m) (sym (run_answers run)),
        λ f lf.
            (every_list ways s sound (take m arrivals) first σ run').agrees.calls f lf ∙ counts_sofar ways s sound pages r arrivals fits f m l,
      );
      came = λ m l i li. (
        comes_brought ways s sound pages r arrivals fits m l i li,
        λ b. brought_comes ways s sound pages r arrivals fits m i li b.0 b.1 b.2 b.3,
      );
      whole = whole;
      counted = λ f l. rw (ap lawful every.shape ∙ r.lawful, every.consistent, lt-ltb f 256 l) (ap Ok (whole f l));
      answer = λ j l i li k b.
          run_reply ways s sound run j l ∙ ap (reply (held ways s arrivals j)) (sheet_opened ways s sound arrivals pages r j i li k b)
          ∙ ap (λ (known : Bool). answer_to known (sheet_at pages i).number k) (held_pages ways s arrivals j (le_of_lt l) (sheet_at pages i).number);
      taken = rw every.answered (taken_end ways s sound pages r arrivals fits answers end run);
      every = every;
      only = λ others r' fits'. only_recording ways s s sound sound arrivals (λ j. refl) pages others r r' fits fits';
    }

pub demand3 : (ways : Ways) → Claim ways
demand3 ways s sound pages arrivals answers begin end r fits b run =
    let same = begins_made r.lawful b in
    rw same (from_made ways s sound pages arrivals answers end r fits (rw same at run))

-- demand 3 of the ways that there are, with no hypothesis on them left
pub demand3_ways : (s : Shape) → ClaimOf the_ways s
demand3_ways s pages arrivals answers begin end r = demand3 the_ways s (all_sound s r.lawful) pages arrivals answers begin end r

-- what holds of every list of arrivals, whether it fits a recording or not
pub every_list_ways : (s : Shape) → Lawful s → (arrivals : List Arrival) (answers : List Outcome) (end : Session)
    → Run the_ways (fresh_of s) arrivals answers end → EveryList the_ways s (fresh_of s) arrivals answers end
every_list_ways s legal = every_list the_ways s (all_sound s legal)
