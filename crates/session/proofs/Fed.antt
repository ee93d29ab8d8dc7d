-- The session against the plain machine: they hold the same after every arrival, from a fresh session on.
use mathlib.Core.Path.{◌≡◌, refl, sym, ap, ap₂, ◌∙◌, subst}
use mathlib.Core.Bool.{Bool, true, false, cond, ◌&&◌, ◌||◌, or-false}
use mathlib.Core.List.{List, [], ◌∷◌}
use mathlib.Core.Logic.{⊎_elim}
use Prim.Native.Nat.{ℕ, zero, suc, ◌+◌, ◌*◌, ◌^◌, ◌<◌, ◌≤◌}
use native.Mathlib.Nat.{not-suc-le-zero, le_of_suc-le-suc, le_refl, le_trans}
use native.Mathlib.Omega.{arith}
use lib.Dec.{eqb, leb, lit≤}
use lib.ListN.{length, get_or, take, length-set, length-replicate, get_or-replicate}
use borrow.Author.Tests.{eqb-true, eqb-false, lt-leb}
use Rattle.parity.proofs.Tests.{either, any_none}
use Rattle.parity.specs.Count.{count, lowest_not}
use Rattle.parity.proofs.Sums.{bit_le, sum_le, sum_const, count_cong}
use Rattle.parity.proofs.Lowest.{lowest_cong}
use Rattle.gtb.specs.declared.Shape.{Shape}
use Rattle.gtb.specs.declared.Refusal.{Refusal}
use Rattle.session.specs.declared.Session.{Session}
use Rattle.session.specs.declared.Outcome.{Outcome}
use Rattle.session.specs.declared.Outcome.TheVariants.{Taken, Again, Refused}
use Rattle.session.specs.Session.{marked, pages_of, lowest_of, Consistent, fresh_of, is_call, count_of, overflows, recorded}
use Rattle.session.specs.Arrival.{Ways, AllSound, Opened, Page, Bad, opened, presented, outcome_of, session_by, session_after}
use Rattle.session.specs.Recording.{Arrival, opened_at, arrival_at, TurnedDown}
use Rattle.session.specs.Claim.{Run, stop, step, come, Machine, empty_machine, machine_page, machine_step, machine, Agrees, answer_at, EveryList, answer_to}
use Rattle.session.proofs.Joins.{run_answered}
use Rattle.session.proofs.Marks.{added_at}
use Rattle.session.proofs.Progress.{fresh_consistent, page_own, page_other, recorded_consistent, consistent_pages, consistent_lowest}
use Rattle.session.proofs.Arrive.{presented_opened}
use Rattle.session.proofs.Machine.{weighed, fed_weight, held, held_pages}
use Rattle.session.proofs.Openings.{Sane, opened_sane}

-- ---- one arrival

-- the session has grown from a fresh one: it holds what the machine holds, each count at most 898 for each page
pub record Grown (s : Shape) (σ : Session) (m : Machine) : Type 0 where
  pub shape : σ.shape ≡ s
  pub size : length σ.taken ≡ 1024
  pub agrees : Agrees σ m
  pub consistent : Consistent σ
  pub few : (f : ℕ) → m.counts f ≤ weighed 1024 (λ p. p) (λ p. 898) m.pages

pub fresh_grown : (s : Shape) → Grown s (fresh_of s) empty_machine
unfolding fresh_of
fresh_grown s = record {
  shape = refl;
  size = simp length-replicate;
  agrees = record { taken = λ p l. get_or-replicate 1024 p _ false l; calls = λ f l. get_or-replicate 256 f _ 0 l };
  consistent = fresh_consistent s;
  few = λ f. omega arith;
}

-- the machine's answer
abbrev pub reply : Machine → Opened → Outcome
reply m (Page number marks k) = answer_to (m.pages number) number k
reply m (Bad e) = Refused e

count_le : (f : ℕ) (marks : List ℕ) → count_of f marks ≤ length marks
unfolding count_of
count_le f [] = le_refl 0
count_le f (x ∷ marks) = let l = bit_le (eqb x f && is_call x) in let ih = count_le f marks in omega arith

weight_le : (b : Bool) → cond b 898 0 ≤ 898
weight_le true = lit≤ tt
weight_le false = lit≤ tt

-- all 1024 pages together are below 2^32
all_few : (pages : ℕ → Bool) → weighed 1024 (λ p. p) (λ p. 898) pages ≤ 1024 * 898
unfolding weighed
all_few pages = le_trans (sum_le 1024 (λ p. cond (pages p) 898 0) (λ p. 898) (λ p l. weight_le (pages p))) (rw (sum_const 1024 898) (le_refl (1024 * 898)))

-- so 9 never comes
no_overflow : (s : Shape) (σ : Session) (m : Machine) → Grown s σ m → (marks : List ℕ) → length marks ≤ 898 → overflows σ.calls marks ≡ false
unfolding overflows
no_overflow s σ m g marks few =
    any_none 256 (λ f. leb (2 ^ 32) (get_or σ.calls f 0 + count_of f marks))
    (λ f l. lt-leb (2 ^ 32) (get_or σ.calls f 0 + count_of f marks) (omega (arith, g.agrees.calls f l, g.few f, all_few m.pages, count_le f marks)))

answer_to_lem : (known : Bool) (number k : ℕ) → cond known (Again number k) (Taken number k) ≡ answer_to known number k
answer_to_lem true number k = refl
answer_to_lem false number k = refl

-- the session answers as the machine does
grown_reply : (s : Shape) (σ : Session) (m : Machine) → Grown s σ m → (o : Opened) → Sane o → outcome_of σ o ≡ reply m o
unfolding outcome_of
grown_reply s σ m g (Page number marks k) sane =
    rw (g.agrees.taken number sane.0, no_overflow s σ m g marks sane.1) (answer_to_lem (m.pages number) number k)
grown_reply s σ m g (Bad e) sane = refl

-- after a page was taken the marked numbers are the machine's
taken_after : (s : Shape) (σ : Session) (m : Machine) → Grown s σ m → (number : ℕ) (marks : List ℕ) → number < 1024 → m.pages number ≡ false
    → (p : ℕ) → p < 1024 → get_or (recorded σ number marks).taken p false ≡ (m.pages p || eqb p number)
unfolding recorded
taken_after s σ m g number marks l new p lp =
    ⊎_elim
    (λ (t : eqb p number ≡ true). rw (t, eqb-true p number t, new) (page_own σ.taken number g.size l))
    (λ (f : eqb p number ≡ false).
    rw f (page_other σ.taken number g.size l p (eqb-false p number f) ∙ g.agrees.taken p lp ∙ sym (or-false (m.pages p))))
    (either (eqb p number))

-- after a page the session holds what the machine then holds
grown_by : (s : Shape) (σ : Session) (m : Machine) → Grown s σ m → (number : ℕ) (marks : List ℕ) (k : ℕ) → Sane (Page number marks k)
    → (known : Bool) → m.pages number ≡ known
    → Grown s (session_by σ (Page number marks k) (answer_to known number k)) (machine_page m number marks known)
unfolding recorded
grown_by s σ m g number marks k sane true h = g
grown_by s σ m g number marks k sane false h = record {
  shape = g.shape;
  size = length-set σ.taken number true ∙ g.size;
  agrees = record {
    taken = taken_after s σ m g number marks sane.0 h;
    calls = λ f l. added_at σ.calls marks f l ∙ ap (λ (x : ℕ). x + count_of f marks) (g.agrees.calls f l);
  };
  consistent = recorded_consistent σ number marks;
  few = λ f.
      omega
      (arith, g.few f, count_le f marks, fed_weight 1024 (λ p. p) (λ p. 898) m number marks false h number sane.0 refl (λ j lj e. e));
}

-- and after an arrival
grown_after : (s : Shape) (σ : Session) (m : Machine) → Grown s σ m → (o : Opened) → Sane o → Grown s (session_after σ o) (machine_step m o)
unfolding session_after
grown_after s σ m g (Page number marks k) sane =
    rw (grown_reply s σ m g (Page number marks k) sane) (grown_by s σ m g number marks k sane (m.pages number) refl)
grown_after s σ m g (Bad e) sane = g

-- ---- a list of arrivals

-- what an arrival brings to a session
abbrev pub brought : Ways → Session → Arrival → Opened
brought ways σ a = presented ways σ a.way a.word a.scratch

-- the one run of a list: its answers and its end
abbrev pub answers_of : Ways → Session → List Arrival → List Outcome
answers_of ways σ [] = []
answers_of ways σ (a ∷ rest) = outcome_of σ (brought ways σ a) ∷ answers_of ways (session_after σ (brought ways σ a)) rest

abbrev pub end_of : Ways → Session → List Arrival → Session
end_of ways σ [] = σ
end_of ways σ (a ∷ rest) = end_of ways (session_after σ (brought ways σ a)) rest

pub run_answers : {ways : Ways} {σ end : Session} {arrivals : List Arrival} {answers : List Outcome} → Run ways σ arrivals answers end
    → answers ≡ answers_of ways σ arrivals
run_answers stop = refl
run_answers {ways} (step {rest = rest} h run) =
    ap₂ (λ (r : Outcome) (rs : List Outcome). r ∷ rs) h.outcome (run_answers run ∙ ap (λ (σ' : Session). answers_of ways σ' rest) h.session)

pub run_end : {ways : Ways} {σ end : Session} {arrivals : List Arrival} {answers : List Outcome} → Run ways σ arrivals answers end
    → end ≡ end_of ways σ arrivals
run_end stop = refl
run_end {ways} (step {rest = rest} h run) = run_end run ∙ ap (λ (σ' : Session). end_of ways σ' rest) h.session

module _ (ways : Ways) (s : Shape) (sound : AllSound ways s) where
  -- whatever arrives, session and machine go on alike
  grown_arrival : (σ : Session) (m : Machine) → Grown s σ m → (a : Arrival)
      → (outcome_of σ (brought ways σ a) ≡ reply m (opened ways s a.way a.word a.scratch))
      × Grown s (session_after σ (brought ways σ a)) (machine_step m (opened ways s a.way a.word a.scratch))
  grown_arrival σ m g a =
      let o : Opened = opened ways s a.way a.word a.scratch in
      let sane : Sane o = opened_sane ways s sound a.way a.word a.scratch in
      subst (λ (x : Opened). (outcome_of σ x ≡ reply m o) × Grown s (session_after σ x) (machine_step m o))
      (ap (λ (x : Shape). opened ways x a.way a.word a.scratch) (sym g.shape) ∙ sym (presented_opened ways σ a.way a.word a.scratch g.consistent))
      (grown_reply s σ m g o sane, grown_after s σ m g o sane)

  pub grown_end : (arrivals : List Arrival) (σ : Session) (m : Machine) → Grown s σ m
      → Grown s (end_of ways σ arrivals) (machine ways s m arrivals)
  grown_end [] σ m g = g
  grown_end (a ∷ rest) σ m g = grown_end rest _ _ (grown_arrival σ m g a).1

  pub grown_answer : (arrivals : List Arrival) (σ : Session) (m : Machine) → Grown s σ m → (j : ℕ) → j < length arrivals
      → answer_at (answers_of ways σ arrivals) j ≡ reply (machine ways s m (take j arrivals)) (opened_at ways s arrivals j)
  grown_answer [] σ m g j l = absurd (not-suc-le-zero l)
  grown_answer (a ∷ rest) σ m g zero l = (grown_arrival σ m g a).0
  grown_answer (a ∷ rest) σ m g (suc j) l = grown_answer rest _ _ (grown_arrival σ m g a).1 j (le_of_suc-le-suc l)

-- the machine refuses exactly what is turned down
reply_refused : (m : Machine) (o : Opened) (e : Refusal) → reply m o ≡ Refused e → o ≡ Bad e
reply_refused m (Page number marks k) e h = absurd (told (m.pages number) h)
  where
    told : (known : Bool) → answer_to known number k ≡ Refused e → ⊥
    told true h' = let z : ◌≡◌ {A = ℕ} 0 1 = cc in omega arith
    told false h' = let z : ◌≡◌ {A = ℕ} 0 1 = cc in omega arith
reply_refused m (Bad e') e h = cc

-- the figures of a session that holds what the machine holds
grown_pages : (s : Shape) (σ : Session) (m : Machine) → Grown s σ m → (some : ℕ → Bool) → ((p : ℕ) → m.pages p ≡ some p)
    → (σ.pages ≡ count 1024 some) × (σ.lowest ≡ lowest_not 1024 some)
unfolding pages_of lowest_of
grown_pages s σ m g some same =
    let each : (p : ℕ) → p < 1024 → marked σ.taken p ≡ some p = λ p l. g.agrees.taken p l ∙ same p in
    (consistent_pages σ g.consistent ∙ count_cong 1024 _ _ each, consistent_lowest σ g.consistent ∙ lowest_cong 1024 _ _ each)

-- an arrival from a fresh session on is answered as by the machine after those before it
pub run_reply : (ways : Ways) (s : Shape) → AllSound ways s → {arrivals : List Arrival} {answers : List Outcome} {end : Session}
    → Run ways (fresh_of s) arrivals answers end → (j : ℕ) → j < length arrivals
    → answer_at answers j ≡ reply (machine ways s empty_machine (take j arrivals)) (opened_at ways s arrivals j)
run_reply ways s sound {arrivals} run j l = rw (run_answers run) (grown_answer ways s sound arrivals (fresh_of s) empty_machine (fresh_grown s) j l)

pub every_list : (ways : Ways) (s : Shape) → AllSound ways s → (arrivals : List Arrival) (answers : List Outcome) (end : Session)
    → Run ways (fresh_of s) arrivals answers end → EveryList ways s (fresh_of s) arrivals answers end
every_list ways s sound arrivals answers end run = record {
  agrees = grown.agrees;
  answered = run_answered run;
  shape = grown.shape;
  consistent = grown.consistent;
  few = λ f l. rw (grown.agrees.calls f l) (le_trans (grown.few f) (all_few (machine ways s empty_machine arrivals).pages));
  figures = λ m l first σ run'.
      grown_pages s σ (held ways s arrivals m)
      (rw (run_end run') (grown_end ways s sound (take m arrivals) (fresh_of s) empty_machine (fresh_grown s)))
      (come ways s arrivals m) (held_pages ways s arrivals m l);
  refused = refused;
  turned = λ j l e t. run_reply ways s sound run j l ∙ ap (reply (machine ways s empty_machine (take j arrivals))) t.by;
  never = λ j l e by h.
      subst Sane (refused j l e h).by (opened_sane ways s sound (arrival_at arrivals j).way (arrival_at arrivals j).word (arrival_at arrivals j).scratch) by;
}
  where
    grown : Grown s end (machine ways s empty_machine arrivals)
    grown = rw (run_end run) (grown_end ways s sound arrivals (fresh_of s) empty_machine (fresh_grown s))

    refused : (j : ℕ) → j < length arrivals → (e : Refusal) → answer_at answers j ≡ Refused e → TurnedDown ways s (arrival_at arrivals j) e
    refused j l e h = record { by = reply_refused (machine ways s empty_machine (take j arrivals)) (opened_at ways s arrivals j) e (sym (run_reply ways s sound run j l) ∙ h) }
