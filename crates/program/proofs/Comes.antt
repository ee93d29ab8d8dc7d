-- What a run still comes to is kept by every step, but for what the step writes; where a call fails, what was written is a first part of it.
use mathlib.Core.Path.{◌≡◌, refl, sym, ap, ◌∙◌}
use mathlib.Core.Bool.{Bool, true, false, cond, not, ◌&&◌}
use mathlib.Core.List.{List, [], ◌∷◌, ◌++◌, append_assoc, append-nil}
use mathlib.Core.Logic.{◌⊎◌, inl, inr, ⊎_elim}
use Prim.Native.Nat.{ℕ, zero, suc, ◌+◌, ◌-◌, ◌<◌}
use native.Mathlib.Omega.{arith}
use borrow.Author.Tests.{eqb-true, not-false}
use lib.Dec.{eqb}
use lib.ListN.{length, take, drop, take-append-drop}
use lib.Seq.{take-append-add}
use Rattle.parity.proofs.Tests.{either}
use Rattle.capture.specs.declared.Fault.{Fault}
use Rattle.capture.specs.declared.Phase.{Phase}
use Rattle.capture.specs.declared.Phase.TheVariants as stage
use Rattle.capture.specs.declared.Tally.{Tally}
use Rattle.capture.specs.declared.Counts.{Counts}
use Rattle.capture.specs.Output.{answers_text}
use Rattle.capture.specs.Counting.{counted, counted_in}
use Rattle.capture.specs.Feed.{Fed, is_ended, feed, last_in, last_of, closing}
use Rattle.capture.proofs.Texts.{answers_append}
use Rattle.capture.proofs.Feeds.{feed_none, feed_append, ended_fault, ended_silent, silent_closing}
use Rattle.capture.proofs.Countings.{counted_append}
use Rattle.program.specs.declared.Action.{Action}
use Rattle.program.specs.declared.Action.TheVariants.{Read, Take, Write, Look, Draw, Close, Say, BlameInput, BlameOutput, Stop}
use Rattle.program.specs.declared.State.{State}
use Rattle.program.specs.Moves.{is_more, ending_of}
use Rattle.program.specs.Steps.{rank, Going}
use Rattle.program.specs.Run.{Config, moved, received, fed_to, closed, written, Remark, Told, Way, Made, quiet, came, step_in, Begins}
use Rattle.program.proofs.Moves.{pick, no_bytes}
use Rattle.program.proofs.Worlds.{came_few}

-- ---- what a run still comes to: the text that will be written, the line that is next at the end, the answers by then
pub record Ended : Type 0 where
  pub text : List ℕ
  pub phase : Phase
  pub counts : Counts

abbrev pub before : List ℕ → Ended → Ended
before text e = record { text = text ++ e.text; phase = e.phase; counts = e.counts }

-- at the end of the input
abbrev close_of : List ℕ → Tally → List ℕ → Counts → Ended
close_of text t held c = record { text = text ++ closing t held; phase = t.phase; counts = counted c (last_of t held) }

-- after some bytes
abbrev feed_of : Config → List ℕ → Ended
feed_of c bytes =
    close_of (c.text ++ answers_text (feed c.tally c.held bytes).answers) (feed c.tally c.held bytes).tally (feed c.tally c.held bytes).held
    (counted_in c.counts (feed c.tally c.held bytes).answers)

-- after what the limit leaves of the input
abbrev open_of : Config → List ℕ → Ended
open_of c input = feed_of c (take c.state.input.left input)

abbrev pub stay_of : List ℕ → Config → Ended
stay_of text c = record { text = text; phase = c.tally.phase; counts = c.counts }

abbrev pub end_in : Action → Config → List ℕ → Ended
end_in Read c input = open_of c input
end_in Take c input = feed_of c (c.block ++ take c.state.input.left input)
end_in Look c input = open_of c input
end_in Draw c input = open_of c input
end_in Write c input = cond c.state.input.more (open_of c input) (stay_of c.text c)
end_in Close c input = close_of c.text c.tally c.held c.counts
end_in Say c input = stay_of [] c
end_in BlameInput c input = stay_of [] c
end_in BlameOutput c input = stay_of [] c
end_in Stop c input = stay_of [] c

abbrev pub end_of : Config → List ℕ → Ended
end_of c input = end_in c.state.action c input

-- ---- lists
no_list : (l : List ℕ) → length l ≡ 0 → l ≡ []
no_list [] e = refl
no_list (b ∷ l) e = absurd (omega arith)

none_taken : (n : ℕ) (l : List ℕ) → 0 < n → length (take n l) ≡ 0 → drop n l ≡ []
none_taken (suc n) [] s e = refl
none_taken (suc n) (b ∷ l) s e = absurd (omega arith)
none_taken zero l s e = absurd (omega arith)

take_none : (n : ℕ) → take {A = ℕ} n [] ≡ []
take_none zero = refl
take_none (suc n) = refl

pub append_none : (a b : List ℕ) → a ++ b ≡ [] → a ≡ []
append_none [] b e = refl
append_none (x ∷ a) b e = absurd (omega (arith, ap length e))

-- what follows nothing is nothing
pub append_less : (a b more : List ℕ) → a ++ b ≡ [] → (b ≡ [] → more ≡ []) → a ++ more ≡ []
append_less [] b more e h = h e
append_less (x ∷ a) b more e h = absurd (omega (arith, ap length e))

-- ---- feeding in parts
feed_nothing : (c : Config) → feed_of c [] ≡ close_of c.text c.tally c.held c.counts
unfolding answers_text counted_in
feed_nothing c = rw (feed_none c.tally c.held) (λ i. record { text = append-nil c.text i ++ closing c.tally c.held; phase = c.tally.phase; counts = counted c.counts (last_of c.tally c.held) })

module _ (c : Config) (more : List ℕ) where
  abbrev fed : Fed
  fed = feed c.tally c.held c.block

  abbrev next : Config
  next = fed_to c fed

  -- the rest of what is fed
  abbrev rest : Fed
  rest = feed fed.tally fed.held more

  fed_rest : feed_of c (c.block ++ more) ≡ feed_of next more
  fed_rest =
      ap (λ (r : Fed). close_of (c.text ++ answers_text r.answers) r.tally r.held (counted_in c.counts r.answers)) (feed_append c.block more c.tally c.held)
      ∙ (λ i.
      close_of
      ((ap (λ (x : List ℕ). c.text ++ x) (answers_append fed.answers rest.answers) ∙ sym (append_assoc c.text (answers_text fed.answers) (answers_text rest.answers))) i)
      rest.tally rest.held (counted_append c.counts fed.answers rest.answers i))

  -- after a fault it leads to nothing
  fed_fault : {f : Fault} → fed.tally.phase ≡ stage.Ended f → feed_of next more ≡ close_of next.text next.tally next.held next.counts
  fed_fault {f} h =
      let s = ended_silent more fed.tally fed.held h in
      let none : closing rest.tally rest.held ≡ closing fed.tally fed.held = silent_closing rest.tally rest.held s.phase ∙ sym (silent_closing fed.tally fed.held h) in
      let last : last_of rest.tally rest.held ≡ last_of fed.tally fed.held =
      ap (λ (p : Phase). last_in p (eqb (length rest.held) 0)) s.phase ∙ sym (ap (λ (p : Phase). last_in p (eqb (length fed.held) 0)) h) in
      (λ i.
      record {
        text = (ap (λ (x : List ℕ). next.text ++ x) s.text ∙ append-nil next.text) i ++ none i;
        phase = (s.phase ∙ sym h) i;
        counts = counted (s.counts next.counts i) (last i);
      })

-- ---- one step
-- all went well: what it wrote and read, and what it still comes to, whatever is read after it; or it is the last at which anything is said
pub record Comes (c : Config) (m : Made) : Type 0 where
  pub well : m.well ≡ true
  pub same : (more : List ℕ) → (m.left ≡ [] → more ≡ []) → end_of c (m.read ++ more) ≡ before m.text (end_of m.config more)
  pub on : 2 < rank c.state.action
      → (2 < rank m.config.state.action) ⊎ ((m.remarks ≡ Told (ending_of m.config.state m.config.tally.phase m.config.counts) ∷ []) × (m.config.state.action ≡ Stop))

-- a call failed: a first part of what waits is written, and nothing more will be
pub record Fails (c : Config) (m : Made) : Type 0 where
  pub ill : m.well ≡ false
  pub part : (more : List ℕ) → Begins m.text (end_of c (m.read ++ more)).text
  pub none : (more : List ℕ) → (end_of m.config more).text ≡ []

module _ (w : Way) (c : Config) (input : List ℕ) (h : Going c.state) where
  abbrev bytes : List ℕ
  bytes = take (came w c) input

  at : {a : Action} → c.state.action ≡ a → (more : List ℕ) → end_of c more ≡ end_in a c more
  at is more = ap (λ (x : Action). end_in x c more) is

  -- nothing is read or written
  still : {a : Action} {c' : Config} {remarks : List Remark} → c.state.action ≡ a → ((more : List ℕ) → end_in a c more ≡ end_of c' more)
      → (2 < rank c.state.action
      → (2 < rank c'.state.action) ⊎ ((remarks ≡ Told (ending_of c'.state c'.tally.phase c'.counts) ∷ []) × (c'.state.action ≡ Stop)))
      → Comes c (quiet input remarks c')
  still is same on = record { well = refl; same = λ more none. at is more ∙ same more; on = on }

  received_comes : c.state.action ≡ Read → (more : List ℕ) → (length bytes ≡ 0 → more ≡ []) → end_of c (bytes ++ more) ≡ end_of (received c bytes) more
  received_comes is more none =
      let k = length bytes in
      let left = c.state.input.left in
      let all : left ≡ k + (left - k) = omega (arith, (came_few w c input).0) in
      let whole : end_of c (bytes ++ more) ≡ feed_of c (bytes ++ take (left - k) more) =
      at is (bytes ++ more) ∙ ap (feed_of c) (ap (λ (n : ℕ). take n (bytes ++ more)) all ∙ take-append-add bytes more (left - k)) in
      ⊎_elim (λ (b : not (eqb k 0) ≡ true). rw b whole)
      (λ (b : not (eqb k 0) ≡ false).
      let z = no_bytes k b in
      rw b (whole ∙ ap (feed_of c) ((λ i. no_list bytes z i ++ take (left - k) (none z i)) ∙ take_none (left - k)) ∙ feed_nothing c))
      (either (not (eqb k 0)))

  taken_comes : c.state.action ≡ Take → (more : List ℕ) → end_in Take c more ≡ end_of (next c more) more
  taken_comes is more =
      let left = c.state.input.left in
      let ended = is_ended (fed c more).tally.phase in
      ⊎_elim (λ (o : is_more ended left ≡ true). rw o (fed_rest c (take left more)))
      (λ (o : is_more ended left ≡ false).
      rw o
      (fed_rest c (take left more)
      ∙ ⊎_elim (λ (f : ended ≡ true). fed_fault c (take left more) (ended_fault (fed c more).tally.phase f).1)
      (λ (f : ended ≡ false).
      let z : left ≡ 0 = eqb-true left 0 (not-false (eqb left 0) (ap (λ (b : Bool). not b && not (eqb left 0)) (sym f) ∙ o)) in
      ap (λ (n : ℕ). feed_of (next c more) (take n more)) z ∙ feed_nothing (next c more))
      (either ended)))
      (either (is_more ended left))

  opened_comes : (more : List ℕ) → open_of c more ≡ before c.text (open_of (written c) more)
  opened_comes more =
      let fed = feed c.tally c.held (take c.state.input.left more) in
      (λ i.
      record {
        text = append_assoc c.text (answers_text fed.answers) (closing fed.tally fed.held) i;
        phase = fed.tally.phase;
        counts = counted (counted_in c.counts fed.answers) (last_of fed.tally fed.held);
      })

  -- what follows the output leads where it did
  after_comes : (more : List ℕ) (m p : Bool) → cond m (open_of c more) (stay_of c.text c) ≡ before c.text (end_in (cond m (cond p Look Read) Say) (written c) more)
  after_comes more true true = opened_comes more
  after_comes more true false = opened_comes more
  after_comes more false p = (λ i. record { text = sym (append-nil c.text) i; phase = c.tally.phase; counts = c.counts })

  after_rank : (m p : Bool) → 2 < rank (cond m (cond p Look Read) Say)
  after_rank true true = omega arith
  after_rank true false = omega arith
  after_rank false p = omega arith

  -- a failed write has written a first part of what waits
  write_part : c.state.action ≡ Write → (more : List ℕ) → Begins (take w.bytes c.text) (end_of c more).text
  write_part is more =
      let part = take w.bytes c.text in
      let rest = drop w.bytes c.text in
      let later = (end_of (written c) more).text in
      record {
        rest = rest ++ later;
        is =
            ap (λ (x : Ended). x.text) (at is more ∙ after_comes more c.state.input.more c.state.watch.progress)
            ∙ ap (λ (x : List ℕ). x ++ later) (sym (take-append-drop w.bytes c.text))
            ∙ append_assoc part rest later;
      }

  pub step_comes : (a : Action) → c.state.action ≡ a → Comes c (step_in a w c input) ⊎ Fails c (step_in a w c input)
  step_comes Read is =
      let some = h.some (h.more (omega (arith, ap rank is)) (omega (arith, ap rank is))) (omega (arith, ap rank is)) (omega (arith, ap rank is)) in
      pick (λ (m : Made). Comes c m ⊎ Fails c m) w.fails
      (λ f. inr (record { ill = refl; part = λ more. record { rest = (end_of c more).text; is = refl }; none = λ more. refl }))
      (λ f.
      inl (record {
        well = refl;
        same = λ more none. received_comes is more (λ z. none (none_taken (came w c) input (omega arith) z));
        on = λ l. inl (pick (λ (a : Action). 2 < rank a) (not (eqb (length bytes) 0)) (λ b. omega arith) (λ b. omega arith));
      }))
  step_comes Take is =
      inl (still is (taken_comes is) (λ l. inl (pick (λ (a : Action). 2 < rank a) (is_more (is_ended (fed c []).tally.phase) c.state.input.left) (λ b. omega arith) (λ b. omega arith))))
  step_comes Close is =
      inl (still is (λ more. sym (ap (λ (b : Bool). cond b (open_of (closed c) more) (stay_of (c.text ++ closing c.tally c.held) (closed c))) (h.shut (ap rank is)))) (λ l. inl (omega arith)))
  step_comes Write is =
      pick (λ (m : Made). Comes c m ⊎ Fails c m) w.fails
      (λ f. inr (record { ill = refl; part = write_part is; none = λ more. refl }))
      (λ f.
      inl (record {
        well = refl;
        same = λ more none. at is more ∙ after_comes more c.state.input.more c.state.watch.progress;
        on = λ l. inl (after_rank c.state.input.more c.state.watch.progress);
      }))
  step_comes Look is =
      inl (pick (λ (s : State). Comes c (quiet input [] (moved c s))) (eqb w.second c.state.watch.second)
      (λ e. still is (λ more. refl) (λ l. inl (omega arith))) (λ e. still is (λ more. refl) (λ l. inl (omega arith))))
  step_comes Draw is = inl (still is (λ more. refl) (λ l. inl (omega arith)))
  step_comes Say is = inl (still is (λ more. refl) (λ l. inr (refl, refl)))
  step_comes BlameInput is = inl (still is (λ more. refl) (λ l. absurd (omega (arith, ap rank is))))
  step_comes BlameOutput is = inl (still is (λ more. refl) (λ l. absurd (omega (arith, ap rank is))))
  step_comes Stop is = inl (still is (λ more. sym (at is more)) (λ l. absurd (omega (arith, ap rank is))))
