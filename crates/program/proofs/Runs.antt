-- Whole runs: (a) what they write and read, (b, c) what is said at their end, (d) what is written where the first read fails.
use mathlib.Core.Path.{◌≡◌, refl, sym, ap, ◌∙◌, subst}
use mathlib.Core.Bool.{Bool, true}
use mathlib.Core.List.{List, [], ◌∷◌, ◌++◌, append_assoc, append-nil}
use mathlib.Core.Logic.{⊎_elim}
use Prim.Native.Nat.{ℕ, ◌+◌, ◌≤◌, ◌<◌}
use native.Mathlib.Omega.{arith}
use lib.Dec.{eqb}
use lib.ListN.{length, length-append, take-append-drop}
use Rattle.parity.proofs.Tests.{clash, and_left, and_right}
use Rattle.gtb.specs.Shape.{standard}
use Rattle.lines.specs.Text.{names_outcome}
use Rattle.session.specs.Arrival.{the_ways}
use Rattle.session.specs.Recording.{Sheet, Recording, Fits}
use Rattle.capture.specs.Output.{answers_text}
use Rattle.capture.specs.Counting.{none, counted_in, amounts}
use Rattle.capture.specs.Feed.{last_of, closing, read_limit, fed_by, output_of, answers_of}
use Rattle.capture.specs.Print.{Unbroken, line_at, capture_text, arrivals_in, Prints}
use Rattle.capture.proofs.Countings.{counted_append, counts_exact}
use Rattle.capture.proofs.Printed.{printed}
use Rattle.program.specs.declared.Action.{Action}
use Rattle.program.specs.declared.Action.TheVariants.{Read, Take, Write, Look, Draw, Close, Say, BlameInput, BlameOutput, Stop}
use Rattle.program.specs.declared.State.{State}
use Rattle.program.specs.Said.{ending_text}
use Rattle.program.specs.Moves.{begun, toward_of, ending_of}
use Rattle.program.specs.Steps.{rank, Going}
use Rattle.program.specs.Run.{Config, moved, Remark, Told, Way, Made, quiet, joined, came, step_in, step, run_of, Stopped, beginning, Begins}
use Rattle.program.proofs.Moves.{pick, begun_sound, toward_went}
use Rattle.program.proofs.Worlds.{came_few, step_going}
use Rattle.program.proofs.Comes.{Ended, before, stay_of, end_in, end_of, append_none, append_less, Comes, Fails, step_comes}

-- ---- what is read is a first part of the input and is taken off the limit; whether standard error is a terminal stays known
record Kept (c : Config) (input : List ℕ) (m : Made) : Type 0 where
  parts : input ≡ m.read ++ m.left
  limit : length m.read + m.config.state.input.left ≡ c.state.input.left
  error : m.config.state.watch.error ≡ c.state.watch.error

module _ (c : Config) (input : List ℕ) where
  unread : {m : Made} → m.left ≡ input → m.read ≡ [] → m.config.state.input.left ≡ c.state.input.left → m.config.state.watch.error ≡ c.state.watch.error → Kept c input m
  unread l r n e = record { parts = rw (l, r); limit = rw (r, n) (omega arith); error = e }

  step_kept : (w : Way) (a : Action) → Kept c input (step_in a w c input)
  step_kept w Read =
      pick (Kept c input) w.fails (λ f. unread refl refl refl refl)
      (λ f. record { parts = sym (take-append-drop (came w c) input); limit = omega (arith, (came_few w c input).0); error = refl })
  step_kept w Take = unread refl refl refl refl
  step_kept w Close = unread refl refl refl refl
  step_kept w Write = pick (Kept c input) w.fails (λ f. unread refl refl refl refl) (λ f. unread refl refl refl refl)
  step_kept w Look = pick (λ (s : State). Kept c input (quiet input [] (moved c s))) (eqb w.second c.state.watch.second) (λ e. unread refl refl refl refl) (λ e. unread refl refl refl refl)
  step_kept w Draw = unread refl refl refl refl
  step_kept w Say = unread refl refl refl refl
  step_kept w BlameInput = unread refl refl refl refl
  step_kept w BlameOutput = unread refl refl refl refl
  step_kept w Stop = unread refl refl refl refl

run_kept : (ways : List Way) (c : Config) (input : List ℕ) → Kept c input (run_of ways c input)
run_kept [] c input = unread c input refl refl refl refl
run_kept (w ∷ ways) c input =
    let m = step w c input in
    let k = step_kept c input w c.state.action in
    let r = run_kept ways m.config m.left in
    record {
      parts = k.parts ∙ ap (λ (x : List ℕ). m.read ++ x) r.parts ∙ sym (append_assoc m.read (run_of ways m.config m.left).read (run_of ways m.config m.left).left);
      limit = rw length-append (omega (arith, k.limit, r.limit));
      error = r.error ∙ k.error;
    }

-- ---- one step after another
module _ (w : Way) (ways : List Way) (c : Config) (input more : List ℕ) (none : (run_of (w ∷ ways) c input).left ≡ [] → more ≡ []) where
  abbrev here : Made
  here = step w c input

  abbrev later : Made
  later = run_of ways here.config here.left

  -- what comes after a step that goes well
  step_same : Comes c here → end_of c ((run_of (w ∷ ways) c input).read ++ more) ≡ before here.text (end_of here.config (later.read ++ more))
  step_same k =
      ap (end_of c) (append_assoc here.read later.read more)
      ∙ k.same (later.read ++ more) (λ z. append_less later.read later.left more (sym (run_kept ways here.config here.left).parts ∙ z) none)

-- if no call fails, it comes to what it has written and still comes to
run_comes : (ways : List Way) (c : Config) (input : List ℕ) → Going c.state → (run_of ways c input).well ≡ true → (more : List ℕ) → ((run_of ways c input).left ≡ [] → more ≡ [])
    → end_of c ((run_of ways c input).read ++ more) ≡ before (run_of ways c input).text (end_of (run_of ways c input).config more)
run_comes [] c input h well more none = refl
run_comes (w ∷ ways) c input h well more none =
    let m = step w c input in
    let r = run_of ways m.config m.left in
    ⊎_elim
    (λ (k : Comes c m).
    let e = end_of r.config more in
    step_same w ways c input more none k
    ∙ ap (before m.text) (run_comes ways m.config m.left (step_going w c input h) (and_right m.well r.well well) more none)
    ∙ (λ i. record { text = sym (append_assoc m.text r.text e.text) i; phase = e.phase; counts = e.counts }))
    (λ (f : Fails c m). absurd (clash (and_left m.well r.well well) f.ill))
    (step_comes w c input h c.state.action refl)

-- whatever fails, what it has written is a first part of that
run_part : (ways : List Way) (c : Config) (input : List ℕ) → Going c.state → (more : List ℕ) → ((run_of ways c input).left ≡ [] → more ≡ [])
    → Begins (run_of ways c input).text (end_of c ((run_of ways c input).read ++ more)).text
run_part [] c input h more none = record { rest = (end_of c more).text; is = refl }
run_part (w ∷ ways) c input h more none =
    let m = step w c input in
    let r = run_of ways m.config m.left in
    let p = run_part ways m.config m.left (step_going w c input h) more none in
    ⊎_elim
    (λ (k : Comes c m).
    record { rest = p.rest; is = ap (λ (x : Ended). x.text) (step_same w ways c input more none k) ∙ ap (λ (x : List ℕ). m.text ++ x) p.is ∙ sym (append_assoc m.text r.text p.rest) })
    (λ (f : Fails c m).
    let q = f.part (r.read ++ more) in
    let nothing : r.text ≡ [] = append_none r.text p.rest (sym p.is ∙ f.none (r.read ++ more)) in
    record {
      rest = q.rest;
      is = ap (λ (x : List ℕ). (end_of c x).text) (append_assoc m.read r.read more) ∙ q.is ∙ ap (λ (x : List ℕ). x ++ q.rest) (sym (append-nil m.text) ∙ ap (λ (x : List ℕ). m.text ++ x) (sym nothing));
    })
    (step_comes w c input h c.state.action refl)

-- ---- the end of a run
stop_run : (ways : List Way) (c : Config) (input : List ℕ) → c.state.action ≡ Stop → run_of ways c input ≡ quiet input [] c
stop_run [] c input e = refl
stop_run (w ∷ ways) c input e =
    (λ i. joined (step_in (e i) w c input) (run_of ways (step_in (e i) w c input).config (step_in (e i) w c input).left)) ∙ ap (joined (quiet input [] c)) (stop_run ways c input e)

-- what is said there
abbrev lastly : Config → List Remark
lastly c = Told (ending_of c.state c.tally.phase c.counts) ∷ []

run_says : (ways : List Way) (c : Config) (input : List ℕ) → Going c.state → 2 < rank c.state.action → (run_of ways c input).well ≡ true → Stopped (run_of ways c input)
    → (earlier : List Remark) × ((run_of ways c input).remarks ≡ earlier ++ lastly (run_of ways c input).config)
run_says [] c input h l well stop = absurd (omega (arith, ap rank stop))
run_says (w ∷ ways) c input h l well stop =
    let m = step w c input in
    let r = run_of ways m.config m.left in
    ⊎_elim
    (λ (k : Comes c m).
    ⊎_elim
    (λ (on : 2 < rank m.config.state.action).
    let (earlier, is) = run_says ways m.config m.left (step_going w c input h) on (and_right m.well r.well well) stop in
    (m.remarks ++ earlier, ap (λ (x : List Remark). m.remarks ++ x) is ∙ sym (append_assoc m.remarks earlier (lastly r.config))))
    (λ last.
    let done = stop_run ways m.config m.left last.1 in
    ([], (λ i. last.0 i ++ (done i).remarks) ∙ sym (ap (λ (x : Made). lastly x.config) done)))
    (k.on l))
    (λ (f : Fails c m). absurd (clash (and_left m.well r.well well) f.ill))
    (step_comes w c input h c.state.action refl)

-- ---- from the beginning
-- (b), (c) the last thing said: the line at fault, by the line that the input reached, and the numbers of the answers written
pub record Shown (error : Bool) (input : List ℕ) (r : Made) : Type 0 where
  pub earlier : List Remark
  pub is : r.remarks
      ≡ earlier ++ (Told (ending_text r.config.state.watch.drawn (eqb r.config.state.input.left 0) error (fed_by input).tally.phase (amounts (answers_of input))) ∷ [])

begin_ends : (error output : Bool) (second : ℕ) (input : List ℕ) → (end_of (beginning error output second) input).text ≡ output_of input
unfolding begun output_of
begin_ends error output second input = append_assoc names_outcome (answers_text (fed_by input).answers) (closing (fed_by input).tally (fed_by input).held)

module _ (error output : Bool) (second : ℕ) (input : List ℕ) where
  abbrev start : Config
  start = beginning error output second

  going : Going start.state
  going = (begun_sound error output second).going

  begin_counts : (end_of start input).counts ≡ amounts (answers_of input)
  unfolding begun counted_in
  begin_counts = sym (counted_append none (fed_by input).answers (last_of (fed_by input).tally (fed_by input).held ∷ [])) ∙ counts_exact input

  -- (d) if the first call fails, which is a read, nothing is written
  pub failed_first : (w : Way) (ways : List Way) → w.fails ≡ true → (run_of (w ∷ ways) start input).text ≡ []
  unfolding begun
  failed_first w ways f =
      let c = moved start (toward_of BlameInput start.state) in
      let h = (toward_went start.state going BlameInput (omega arith) (omega arith) (λ e. absurd (omega arith))).going in
      let r = run_of ways c input in
      let p = run_part ways c input h r.left (λ z. z) in
      rw f (append_none r.text p.rest (sym p.is))

  module _ (ways : List Way) where
    abbrev made : Made
    made = run_of ways start input

    -- (a) at most so many bytes are read, a first part of the input, whatever goes wrong; and the state knows how many
    pub read_bytes : (input ≡ made.read ++ made.left) × (length made.read + made.config.state.input.left ≡ read_limit)
    unfolding begun
    read_bytes = let k = run_kept ways start input in (k.parts, k.limit)

    -- (a) whatever fails: what was written is a first part of the output of the input that was read, and of the whole input
    pub broken_run : Begins made.text (output_of made.read) × Begins made.text (output_of input)
    broken_run =
        let read = run_part ways start input going [] (λ z. refl) in
        let all = run_part ways start input going made.left (λ z. z) in (
          subst (Begins made.text) (ap (λ (x : List ℕ). (end_of start x).text) (append-nil made.read) ∙ begin_ends error output second made.read) read,
          subst (Begins made.text) (ap (λ (x : List ℕ). (end_of start x).text) (sym read_bytes.0) ∙ begin_ends error output second input) all,
        )

    module _ (stop : Stopped made) (well : made.well ≡ true) where
      -- a run that ends, and in which no call fails
      run_ends : end_of start input ≡ stay_of made.text made.config
      run_ends =
          ap (end_of start) read_bytes.0
          ∙ run_comes ways start input going well made.left (λ z. z)
          ∙ ap (λ (a : Action). before made.text (end_in a made.config made.left)) stop
          ∙ (λ i. record { text = append-nil made.text i; phase = made.config.tally.phase; counts = made.config.counts })

      -- (a) whatever the input, and however the reads cut it: the output is that of the whole input
      pub whole_run : made.text ≡ output_of input
      whole_run = sym (ap (λ (x : Ended). x.text) run_ends) ∙ begin_ends error output second input

      pub shown_run : Shown error input made
      unfolding begun
      shown_run =
          let (earlier, is) = run_says ways start input going (omega arith) well stop in
          record {
            earlier = earlier;
            is =
                is
                ∙ (λ i.
                earlier
                ++ (Told (ending_text made.config.state.watch.drawn (eqb made.config.state.input.left 0) ((run_kept ways start input).error i) (ap (λ (x : Ended). x.phase) (sym run_ends) i) ((sym (ap (λ (x : Ended). x.counts) run_ends) ∙ begin_counts) i))
                ∷ []));
          }

-- a capture of a recording prints its table through every such run
pub printed_run : (q n b : ℕ) (pages : List Sheet) (lines : List (List ℕ)) (cut : List ℕ) → Recording (standard q n b) pages → ((i : ℕ) → i < length lines → Unbroken (line_at lines i)) → Unbroken cut
    → Fits the_ways (standard q n b) pages (arrivals_in (standard q n b) lines) → length (capture_text q n b lines cut) ≤ read_limit
    → (error output : Bool) (second : ℕ) (ways : List Way) → Stopped (run_of ways (beginning error output second) (capture_text q n b lines cut))
    → (run_of ways (beginning error output second) (capture_text q n b lines cut)).well ≡ true
    → Prints (standard q n b) pages lines cut (run_of ways (beginning error output second) (capture_text q n b lines cut)).text
printed_run q n b pages lines cut r unbroken last fits few error output second ways stop well =
    subst (Prints (standard q n b) pages lines cut) (sym (whole_run error output second (capture_text q n b lines cut) ways stop well)) (printed q n b pages lines cut r unbroken last fits few)
