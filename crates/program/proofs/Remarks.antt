-- (e) What is said on the way: progress lines only where they may be drawn, each in another second than the one before; one that stands is taken away before anything else is said.
use mathlib.Core.Path.{◌≡◌, refl, sym, ap, ◌∙◌, subst}
use mathlib.Core.Bool.{Bool, true, false, cond, not, ◌&&◌}
use mathlib.Core.List.{List, [], ◌∷◌, ◌++◌}
use Prim.Native.Nat.{ℕ, ◌/◌, ◌-◌, ◌<◌}
use native.Mathlib.Omega.{arith}
use lib.Dec.{eqb}
use lib.ListN.{length, take}
use Rattle.parity.proofs.Tests.{clash}
use Rattle.lines.specs.Text.{ascii}
use Rattle.capture.specs.declared.Phase.{Phase}
use Rattle.capture.specs.declared.Counts.{Counts}
use Rattle.capture.specs.Feed.{is_ended, feed, read_limit}
use Rattle.program.specs.declared.Action.{Action}
use Rattle.program.specs.declared.Action.TheVariants.{Read, Take, Write, Look, Draw, Close, Say, BlameInput, BlameOutput, Stop}
use Rattle.program.specs.declared.State.{State}
use Rattle.program.specs.declared.Watch.{Watch}
use Rattle.program.specs.Shown.{clear_text, numbered, lowest_text, progress_text, summary_text}
use Rattle.program.specs.Said.{limit_text, blame_text, ending_text, complaint_text}
use Rattle.program.specs.Moves.{begun, toward_of, is_more, ending_of}
use Rattle.program.specs.Steps.{rank}
use Rattle.program.specs.Run.{Config, moved, Remark, Told, Way, Made, came, step_in, step, run_of, beginning, Begins, Fair}
use Rattle.program.proofs.Moves.{pick}

-- ---- texts that take a progress line away
progress_clears : (read pages lowest : ℕ) → Begins clear_text (progress_text read pages lowest)
unfolding progress_text
progress_clears read pages lowest =
    record { rest = numbered (read / 1000000) (ascii " MB read, ") ++ numbered pages (ascii " pages taken, ") ++ lowest_text lowest; is = refl }

ending_clears : (limit person : Bool) (p : Phase) (c : Counts) → Begins clear_text (ending_text true limit person p c)
unfolding ending_text
ending_clears limit person p c = record { rest = cond limit limit_text [] ++ blame_text p ++ cond person (summary_text c) []; is = refl }

complaint_clears : Begins clear_text (complaint_text true)
unfolding complaint_text
complaint_clears = record { rest = ascii "tally: "; is = refl }

-- ---- what a state keeps: `may` says that progress is shown, `stands` that a progress line stands there; `second` is that in which it was drawn, or the program began
record Keeps (s : State) (may stands : Bool) (second : ℕ) : Type 0 where
  shown : s.watch.progress ≡ may
  drawn : stands ≡ true → s.watch.drawn ≡ true
  same : (rank s.action ≡ 5 → ⊥) → s.watch.second ≡ second
  other : rank s.action ≡ 5 → (eqb s.watch.second second ≡ false) × (s.watch.drawn ≡ true)
  looks : 4 < rank s.action → rank s.action < 7 → may ≡ true

-- a look at the clock only where progress is shown
after_looks : (m p : Bool) → 4 < rank (cond m (cond p Look Read) Say) → p ≡ true
after_looks true true l = refl
after_looks true false l = absurd (omega arith)
after_looks false p l = absurd (omega arith)

after_other : (m p : Bool) → rank (cond m (cond p Look Read) Say) ≡ 5 → ⊥
after_other true true e = omega arith
after_other true false e = omega arith
after_other false p e = omega arith

-- what is said last
ending_fair : (s : State) (p : Phase) (c : Counts) → s.watch.drawn ≡ true → Begins clear_text (ending_of s p c)
ending_fair s p c d = rw d (ending_clears (eqb s.input.left 0) s.watch.error p c)

complaint_fair : (s : State) → s.watch.drawn ≡ true → Begins clear_text (complaint_text s.watch.drawn)
complaint_fair s d = rw d complaint_clears

-- ---- a step and what is said after it
module _ (w : Way) (c : Config) (input : List ℕ) {may stands : Bool} {second : ℕ} (k : Keeps c.state may stands second) (later : List Remark) where
  -- to something else than the clock or the line
  keeps : {r : State} (after : Bool) → (after ≡ true → c.state.watch.drawn ≡ true) → {at : ℕ} → c.state.watch.second ≡ at → r.watch ≡ c.state.watch
      → (4 < rank r.action → rank r.action < 7 → ⊥) → Keeps r may after at
  keeps after d at same n =
      record {
        shown = ap (λ (x : Watch). x.progress) same ∙ k.shown;
        drawn = λ e. ap (λ (x : Watch). x.drawn) same ∙ d e;
        same = λ z. ap (λ (x : Watch). x.second) same ∙ at;
        other = λ e. absurd (n (omega arith) (omega arith));
        looks = λ l m. absurd (n l m);
      }

  -- the same where no line was to be drawn
  on : {r : State} {a : Action} → c.state.action ≡ a → (rank a ≡ 5 → ⊥) → r.watch ≡ c.state.watch → (4 < rank r.action → rank r.action < 7 → ⊥) → Keeps r may stands second
  on is n same far = keeps stands k.drawn (k.same (λ e. n (sym (ap rank is) ∙ e))) same far

  -- something is said, and then no line stands there
  says : {text : List ℕ} {a : Action} → c.state.action ≡ a → (rank a ≡ 5 → ⊥) → (c.state.watch.drawn ≡ true → Begins clear_text text)
      → ((stands : Bool) (second : ℕ) → Keeps (moved c (toward_of Stop c.state)).state may stands second → Fair may stands second later) → Fair may stands second (Told text ∷ later)
  says is n clears fair =
      (λ e. clears (k.drawn e), fair false second (keeps false (λ e. absurd (clash e refl)) (k.same (λ e. n (sym (ap rank is) ∙ e))) refl (λ l m. omega arith)))

  step_fair : (a : Action) → c.state.action ≡ a → ((stands : Bool) (second : ℕ) → Keeps (step_in a w c input).config.state may stands second → Fair may stands second later)
      → Fair may stands second ((step_in a w c input).remarks ++ later)
  step_fair Read is fair =
      pick (λ (m : Made). ((stands : Bool) (second : ℕ) → Keeps m.config.state may stands second → Fair may stands second later) → Fair may stands second (m.remarks ++ later)) w.fails
      (λ f fair. fair stands second (on is (λ e. omega arith) refl (λ l m. omega arith)))
      (λ f fair. fair stands second (on is (λ e. omega arith) refl (pick (λ (a : Action). 4 < rank a → rank a < 7 → ⊥) (not (eqb (length (take (came w c) input)) 0)) (λ b l m. omega arith) (λ b l m. omega arith))))
      fair
  step_fair Take is fair =
      let ended = is_ended (feed c.tally c.held c.block).tally.phase in
      fair stands second (on is (λ e. omega arith) refl (pick (λ (a : Action). 4 < rank a → rank a < 7 → ⊥) (is_more ended c.state.input.left) (λ b l m. omega arith) (λ b l m. omega arith)))
  step_fair Close is fair = fair stands second (on is (λ e. omega arith) refl (λ l m. omega arith))
  step_fair Write is fair =
      pick (λ (m : Made). ((stands : Bool) (second : ℕ) → Keeps m.config.state may stands second → Fair may stands second later) → Fair may stands second (m.remarks ++ later)) w.fails
      (λ f fair. fair stands second (on is (λ e. omega arith) refl (λ l m. omega arith)))
      (λ f fair.
      fair stands second
      (record {
        shown = k.shown;
        drawn = k.drawn;
        same = λ n. k.same (λ e. omega (arith, ap rank is));
        other = λ e. absurd (after_other c.state.input.more c.state.watch.progress e);
        looks = λ l m. sym k.shown ∙ after_looks c.state.input.more c.state.watch.progress l;
      }))
      fair
  step_fair Look is fair =
      let at = k.same (λ e. omega (arith, ap rank is)) in
      fair stands second
      (pick (λ (r : State). Keeps r may stands second) (eqb w.second c.state.watch.second) (λ e. on is (λ x. omega arith) refl (λ l m. omega arith))
      (λ e.
      record {
        shown = k.shown;
        drawn = λ x. refl;
        same = λ n. absurd (n refl);
        other = λ x. (subst (λ (y : ℕ). eqb w.second y ≡ false) at e, refl);
        looks = λ l m. k.looks (omega (arith, ap rank is)) (omega (arith, ap rank is));
      }))
  step_fair Draw is fair =
      let o = k.other (ap rank is) in (
        k.looks (omega (arith, ap rank is)) (omega (arith, ap rank is)),
        o.0,
        progress_clears (read_limit - c.state.input.left) c.tally.session.pages c.tally.session.lowest,
        fair true c.state.watch.second (keeps true (λ e. o.1) refl refl (λ l m. omega arith)),
      )
  step_fair Say is fair = says is (λ e. omega arith) (ending_fair c.state c.tally.phase c.counts) fair
  step_fair BlameInput is fair = says is (λ e. omega arith) (complaint_fair c.state) fair
  step_fair BlameOutput is fair = says is (λ e. omega arith) (complaint_fair c.state) fair
  step_fair Stop is fair = fair stands second k

-- ---- a whole run
run_fair : (ways : List Way) (c : Config) (input : List ℕ) {may : Bool} (stands : Bool) (second : ℕ) → Keeps c.state may stands second → Fair may stands second (run_of ways c input).remarks
run_fair [] c input stands second k = tt
run_fair (w ∷ ways) c input stands second k =
    let m = step w c input in
    step_fair w c input k (run_of ways m.config m.left).remarks c.state.action refl (λ stands second k. run_fair ways m.config m.left stands second k)

-- whatever goes wrong: from the beginning on, progress lines only where standard error is a terminal and standard output is none
pub fair_remarks : (error output : Bool) (second : ℕ) (ways : List Way) (input : List ℕ) → Fair (error && not output) false second (run_of ways (beginning error output second) input).remarks
unfolding begun
fair_remarks error output second ways input =
    run_fair ways (beginning error output second) input false second
    (record { shown = refl; drawn = λ e. absurd (clash e refl); same = λ n. refl; other = λ e. absurd (omega arith); looks = λ l m. absurd (omega arith) })
