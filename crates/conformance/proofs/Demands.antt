-- Demand 3 in the paper's words, of every run in the paper's words.
use mathlib.Core.Path.{◌≡◌, refl, sym, ap, ◌∙◌, subst, subst₂}
use mathlib.Core.Bool.{Bool, true, false, cond}
use mathlib.Core.List.{List, map}
use mathlib.Core.Logic.{◌↔◌, inl, inr, ⊎_elim}
use Prim.Native.Nat.{ℕ, ◌<◌, ◌≤◌}
use native.Mathlib.Nat.{le_of_lt, le_refl, le_trans}
use lib.Dec.{eqb}
use lib.ListN.{length, get_or, take, length-map, get_or-map}
use lib.Seq.{length-take-le}
use borrow.Author.Tests.{eqb-true}
use Rattle.parity.specs.Count.{sum, count}
use Rattle.parity.proofs.Tests.{either, clash, any_elim}
use Rattle.parity.proofs.Sums.{sum_cong, count_cong}
use Rattle.parity.proofs.Lowest.{lowest_right}
use Rattle.paper.specs.Paper as paper
use Rattle.paper.specs.Recording.{tally_of}
use Rattle.gtb.specs.declared.Shape.{Shape}
use Rattle.gtb.specs.declared.Refusal.{Refusal}
use Rattle.gtb.specs.Shape.{Lawful, of}
use Rattle.page.specs.Page.{most}
use Rattle.page.proofs.Pages.{writable}
use Rattle.session.specs.declared.Outcome.{Outcome}
use Rattle.session.specs.declared.Outcome.TheVariants.{Taken, Again, Refused}
use Rattle.session.specs.Session.{count_of, plain}
use Rattle.session.specs.Arrival.{the_ways, outcome_values}
use Rattle.session.specs.Recording.{Sheet, sheet_at, Recording, tally, Arrival, arrival_at, opened_at, TurnedDown, Brings, Fits}
use Rattle.session.specs.Claim.{has_number, come, answer_to, is_taken, Demand3}
use Rattle.session.proofs.Demand.{made, made_begins, demand3_ways}
use Rattle.session.proofs.Ways.{all_sound}
use Rattle.session.proofs.Fits.{sheet_opened}
use Rattle.gtb.proofs.Conditions.{to}
use Rattle.session.proofs.Taken.{marks_for_lem}
use Rattle.conformance.proofs.Bringing.{to_sheet, accepted_page, brings_to, brings_from}
use Rattle.conformance.proofs.Runs as runs

abbrev from_sheet : Sheet → paper.Sheet
from_sheet p = record { number = p.number; marks = p.marks }

is_taken_lem : (r : Outcome) → is_taken r ≡ eqb (get_or (outcome_values r) 0 0) 0
is_taken_lem (Taken p k) = refl
is_taken_lem (Again p k) = refl
is_taken_lem (Refused e) = refl

module _ (s : Shape) (arrivals : List paper.Arrival) (session : ℕ → paper.Session) (answer : ℕ → List ℕ) (run : paper.Run (of s) arrivals session answer) where
  abbrev arrivals' : List Arrival
  arrivals' = runs.arrivals' s arrivals

  abbrev out : ℕ → Outcome
  out = runs.out s arrivals

  size : length arrivals' ≡ length arrivals
  size = runs.size s arrivals

  law : Lawful s
  law = runs.law s arrivals session answer run

  abbrev answers : List Outcome
  answers = runs.listed (length arrivals') out

  -- ---- a recording, and a list that fits it, as ours
  module _ (pages : List paper.Sheet) (recording : paper.Recording (of s) pages) where
    abbrev pages' : List Sheet
    pages' = map to_sheet pages

    page_at : (i : ℕ) → sheet_at pages' i ≡ to_sheet (paper.sheet_at pages i)
    page_at i = get_or-map to_sheet pages i _

    in_pages : (i : ℕ) → i < length pages' → i < length pages
    in_pages i l = rw length-map at l

    few : (i : ℕ) → i < length pages → length (paper.sheet_at pages i).marks ≤ most s
    few i l = (writable s _ _ _ (accepted_page s law (paper.sheet_at pages i).number (paper.sheet_at pages i).marks (recording.accepted i l))).few

    recording' : Recording s pages'
    recording' = record {
      lawful = law;
      accepted = λ i l. rw (page_at i) (accepted_page s law (paper.sheet_at pages i).number (paper.sheet_at pages i).marks (recording.accepted i (in_pages i l)));
      different = λ i j li lj e. recording.different i j (in_pages i li) (in_pages j lj) (sym (ap (λ (p : Sheet). p.number) (page_at i)) ∙ e ∙ ap (λ (p : Sheet). p.number) (page_at j));
    }

    bring : (j i k : ℕ) → i < length pages → paper.Brings (of s) (paper.arrival_at arrivals j) (paper.sheet_at pages i) k → Brings the_ways s (arrival_at arrivals' j) (sheet_at pages' i) k
    bring j i k l b = subst₂ (λ (a : Arrival) (p : Sheet). Brings the_ways s a p k) (sym (runs.arrival_at_lem s arrivals j)) (sym (page_at i)) (brings_to s law (few i l) b)

    brought : (j i k : ℕ) → i < length pages → Brings the_ways s (arrival_at arrivals' j) (sheet_at pages' i) k → paper.Brings (of s) (paper.arrival_at arrivals j) (paper.sheet_at pages i) k
    brought j i k l b = brings_from s law (few i l) (subst₂ (λ (a : Arrival) (p : Sheet). Brings the_ways s a p k) (runs.arrival_at_lem s arrivals j) (page_at i) b)

    turned : (j k : ℕ) → j < length arrivals' → paper.TurnedDown (of s) (paper.arrival_at arrivals j) k → (e : Refusal) × TurnedDown the_ways s (arrival_at arrivals' j) e
    turned j k l down =
        let (e, is) = runs.starts_refused (out j) (ap (λ (xs : List ℕ). get_or xs 0 0) (runs.turned_out s arrivals j k down).0) in
        (e, (runs.ours s arrivals session answer run).refused j l e (runs.answer_at s arrivals j l ∙ is))

    fits' : paper.Fits (of s) pages arrivals → Fits the_ways s pages' arrivals'
    fits' fits = record {
      each = λ j l.
          ⊎_elim (λ down. inl (turned j down.0 l down.1)) (λ b. let (i, li, k, x) = b in inr (i, rw length-map li, k, bring j i k li x))
          (fits.each j (rw length-map at l));
      every = λ i l. let (j, lj, k, x) = fits.every i (in_pages i l) in (j, rw length-map lj, k, bring j i k (in_pages i l) x);
    }

  -- ---- demand 3
  module _ (pages : List paper.Sheet) (recording : paper.Recording (of s) pages) (fits : paper.Fits (of s) pages arrivals) where
    abbrev ps : List Sheet
    ps = pages' pages recording

    demanded : Demand3 the_ways s ps (made s) arrivals' answers (runs.σ s arrivals (length arrivals'))
    demanded = demand3_ways s ps arrivals' answers (made s) _ (recording' pages recording) (fits' pages recording fits) (made_begins s law) (runs.our_run s arrivals)

    tally_same : (some' : Sheet → Bool) (some : ℕ → Bool) → ((i : ℕ) → i < length pages → some' (to_sheet (paper.sheet_at pages i)) ≡ some i) → (f : ℕ)
        → tally ps some' f ≡ tally_of pages some f
    unfolding tally tally_of
    tally_same some' some alike f =
        ap (λ (n : ℕ). sum n (λ i. cond (some' (sheet_at ps i)) (count_of f (sheet_at ps i).marks) 0)) (length-map pages to_sheet)
        ∙ sum_cong (length pages) _ _
        (λ i l.
        ap (λ (p : Sheet). cond (some' p) (count_of f p.marks) 0) (page_at pages recording i)
        ∙ ap (λ (t : Bool). cond t (count_of f (paper.sheet_at pages i).marks) 0) (alike i l)
        ∙ ap (λ (x : ℕ). cond (some i) x 0) (marks_for_lem f (paper.sheet_at pages i).marks))

    number_at : (i : ℕ) → (sheet_at ps i).number ≡ (paper.sheet_at pages i).number
    number_at i = ap (λ (p : Sheet). p.number) (page_at pages recording i)

    -- a page number has come so far
    abbrev has : ℕ → ℕ → Bool
    has m p = come the_ways s arrivals' m p

    come_came : (m : ℕ) → m ≤ length arrivals → (i : ℕ) → i < length pages → (has m (paper.sheet_at pages i).number ≡ true) ↔ paper.Came (of s) pages arrivals m i
    come_came m lm i li =
        let ours = demanded.came m (rw size lm) i (rw length-map li) in (
          λ h. let (j, lj, k, b) = ours.0 (ap (has m) (number_at i) ∙ h) in (j, lj, k, brought pages recording j i k li b),
          λ c. let (j, lj, k, b) = c in ap (has m) (sym (number_at i)) ∙ ours.1 (j, lj, k, bring pages recording j i k li b),
        )

    numbered : (j : ℕ) → j < length arrivals' → (p : ℕ) → has_number p (opened_at the_ways s arrivals' j) ≡ true → (i : ℕ) × (i < length pages) × ((paper.sheet_at pages i).number ≡ p)
    numbered j l p h =
        ⊎_elim (λ (down : (e : Refusal) × TurnedDown the_ways s (arrival_at arrivals' j) e). absurd (clash h (ap (has_number p) down.1.by)))
        (λ (b : (i : ℕ) × (i < length ps) × (k : ℕ) × Brings the_ways s (arrival_at arrivals' j) (sheet_at ps i) k).
        let (i, li, k, x) = b in (
          i,
          in_pages pages recording i li,
          sym (number_at i) ∙ eqb-true _ _ (rw (sheet_opened the_ways s (all_sound s law) arrivals' ps (recording' pages recording) j i li k x) at h),
        ))
        ((fits' pages recording fits).each j l)

    has_come : (m : ℕ) → m ≤ length arrivals → (p : ℕ) → (has m p ≡ true) ↔ ((i : ℕ) × (i < length pages) × ((paper.sheet_at pages i).number ≡ p) × paper.Came (of s) pages arrivals m i)
    unfolding come
    has_come m lm p = (
      λ h.
          let (j, lj, at_j) = any_elim m (λ j. has_number p (opened_at the_ways s arrivals' j)) h in
          let (i, li, is) = numbered j (rw size (le_trans lj lm)) p at_j in
          (i, li, is, (come_came m lm i li).0 (ap (has m) is ∙ h)),
      λ c. let (i, li, is, came) = c in ap (has m) (sym is) ∙ (come_came m lm i li).1 came,
    )

    answered : (j i k : ℕ) → j < length arrivals → i < length pages → paper.Brings (of s) (paper.arrival_at arrivals j) (paper.sheet_at pages i) k
        → out j ≡ answer_to (has j (paper.sheet_at pages i).number) (paper.sheet_at pages i).number k
    answered j i k lj li b =
        let l : j < length arrivals' = rw size lj in
        sym (runs.answer_at s arrivals j l) ∙ demanded.answer j l i (rw length-map li) k (bring pages recording j i k li b) ∙ ap (λ (x : ℕ). answer_to (has j x) x k) (number_at i)

    -- the session after m arrivals is that of our run of the first m
    long : (m : ℕ) → m ≤ length arrivals → length (take m arrivals') ≡ m
    long m lm = length-take-le m arrivals' (rw size lm)

    same : (m : ℕ) → m ≤ length arrivals → session m ≡ plain (runs.σ s arrivals m)
    same = runs.same_session s arrivals session answer run

    same_answer : (j : ℕ) → j < length arrivals → answer j ≡ outcome_values (out j)
    same_answer = runs.same_answer s arrivals session answer run

    counts : (m : ℕ) → m ≤ length arrivals → (f : ℕ) → f < 256 → get_or (session m).calls f 0 ≡ tally_of pages (λ i. has m (paper.sheet_at pages i).number) f
    counts m lm f lf =
        ap (λ (τ : paper.Session). get_or τ.calls f 0) (same m lm)
        ∙ ap (λ (n : ℕ). get_or (runs.σ s arrivals n).calls f 0) (sym (long m lm))
        ∙ (demanded.sofar m (rw size lm) _ _ (runs.first_run s arrivals m lm)).1 f lf
        ∙ tally_same (λ p. has m p.number) (λ i. has m (paper.sheet_at pages i).number) (λ i li. refl) f

    figures : (m : ℕ) → m ≤ length arrivals → ((session m).pages ≡ count 1024 (has m)) × paper.Lowest (has m) (session m).lowest
    figures m lm =
        let (pages-are, lowest_is) = (runs.ours s arrivals session answer run).figures m (rw size lm) _ _ (runs.first_run s arrivals m lm) in
        let low = lowest_right 1024 (has m) in
        let here : session m ≡ plain (runs.σ s arrivals (length (take m arrivals'))) = same m lm ∙ ap (λ (n : ℕ). plain (runs.σ s arrivals n)) (sym (long m lm)) in (
          ap (λ (τ : paper.Session). τ.pages) here ∙ pages-are,
          subst (paper.Lowest (has m)) (sym (ap (λ (τ : paper.Session). τ.lowest) here ∙ lowest_is)) (record { upto = low.upto; below = low.below; fails = low.fails }),
        )

    taken_often : count (length arrivals) (λ j. eqb (get_or (answer j) 0 0) 0) ≡ length pages
    taken_often =
        count_cong (length arrivals) _ _
        (λ j l.
        ap (λ (r : List ℕ). eqb (get_or r 0 0) 0) (same_answer j l)
        ∙ sym (is_taken_lem (out j)) ∙ ap is_taken (sym (runs.answer_at s arrivals j (rw size l))))
        ∙ ap (λ (n : ℕ). count n (λ j. is_taken (get_or answers j (Refused Refusal.Shape)))) (sym (runs.listed_length (length arrivals') out ∙ size))
        ∙ demanded.taken ∙ length-map pages to_sheet

    pub demand3_of : paper.Demand3 (of s) pages arrivals session answer
    demand3_of = record {
      whole = λ f l.
          ap (λ (τ : paper.Session). get_or τ.calls f 0) (same (length arrivals) (le_refl _))
          ∙ ap (λ (n : ℕ). get_or (runs.σ s arrivals n).calls f 0) (sym size) ∙ demanded.whole f l ∙ tally_same (λ p. true) (λ i. true) (λ i li. refl) f;
      sofar = λ m lm. ((λ i. has m (paper.sheet_at pages i).number), come_came m lm, counts m lm);
      progress = λ m lm. (has m, (λ p l. has_come m lm p), (figures m lm).0, (figures m lm).1);
      taken = λ j i k lj li b none.
          ⊎_elim
          (λ (t : has j (paper.sheet_at pages i).number ≡ true). absurd (none ((come_came j (le_of_lt lj) i li).0 t)))
          (λ (n : has j (paper.sheet_at pages i).number ≡ false).
          same_answer j lj ∙ ap outcome_values (answered j i k lj li b ∙ ap (λ (x : Bool). answer_to x (paper.sheet_at pages i).number k) n))
          (either (has j (paper.sheet_at pages i).number));
      again = λ j i k lj li b came.
          same_answer j lj ∙ ap outcome_values (answered j i k lj li b ∙ ap (λ (x : Bool). answer_to x (paper.sheet_at pages i).number k) ((come_came j (le_of_lt lj) i li).1 came));
      often = taken_often;
      only = λ others also fits-too.
          let alike = demanded.only (pages' others also) (recording' others also) (fits' others also fits-too) in
          record {
            there = λ i l.
                let (j, lj, e) = alike.there i (rw length-map l) in
                (j, in_pages others also j lj, ap from_sheet (sym (page_at others also j) ∙ e ∙ page_at pages recording i));
            back = λ j l.
                let (i, li, e) = alike.back j (rw length-map l) in
                (i, in_pages pages recording i li, ap from_sheet (sym (page_at pages recording i) ∙ e ∙ page_at others also j));
          };
    }

-- ---- the theorems: every list, and every list that fits a recording
module _ (s : paper.Shape) (arrivals : List paper.Arrival) (session : ℕ → paper.Session) (answer : ℕ → List ℕ) (run : paper.Run s arrivals session answer) where
  pub every_list : paper.EveryList s arrivals session answer
  every_list = runs.every_list (to s) arrivals session answer run

  pub demand3 : (pages : List paper.Sheet) → paper.Recording s pages → paper.Fits s pages arrivals → paper.Demand3 s pages arrivals session answer
  demand3 pages recording fits = demand3_of (to s) arrivals session answer run pages recording fits
