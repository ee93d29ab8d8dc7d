-- A whole run of the program: one step after another, with what was read, what was written and what was said.
use Rattle.std.specs.Prelude.{◌≡◌, Bool, true, false, cond, ◌&&◌, List, [], ◌∷◌, ◌++◌, ℕ, zero, suc, ◌+◌, min, eqb, length, take, drop}
use Rattle.lines.specs.Text.{names_outcome}
use Rattle.capture.specs.declared.Tally.{Tally}
use Rattle.capture.specs.Judge.{start}
use Rattle.capture.specs.declared.Counts.{Counts}
use Rattle.capture.specs.declared.Reader.{Reader}
use Rattle.capture.specs.Output.{answers_text}
use Rattle.capture.specs.Counting.{none, counted, counted_in}
use Rattle.capture.specs.Feed.{Fed, is_ended, feed, last_of, closing}
use Rattle.capture.specs.Steps.{LineSoFar}
use Rattle.program.specs.declared.Action.{Action}
use Rattle.program.specs.declared.Action.TheVariants.{Read, Take, Write, Look, Draw, Close, Say, BlameInput, BlameOutput, Stop}
use Rattle.program.specs.declared.State.{State}
use Rattle.program.specs.Shown.{clear_text}
use Rattle.program.specs.Said.{complaint_text}
use Rattle.program.specs.Moves.{begun, toward_of, received_of, taken_of, closed_of, written_of, looked_of, progress_of, ending_of}

-- the state, and what the reader and the buffers stand for: the tally, the line so far, the answers so far, the block, the output that waits
pub record Config : Type 0 where
  pub state : State
  pub tally : Tally
  pub held : List ℕ
  pub counts : Counts
  pub block : List ℕ
  pub text : List ℕ

-- what they hold
pub record Stands (c : Config) (s : State) (reader : Reader) (bytes line out : List ℕ) : Type 0 where
  pub state : s ≡ c.state
  pub tally : reader.tally ≡ c.tally
  pub held : LineSoFar line reader.held c.held
  pub counts : reader.counts ≡ c.counts
  pub block : take c.state.input.count bytes ≡ c.block
  pub text : take c.state.size out ≡ c.text

-- in another state
abbrev pub moved : Config → State → Config
moved c s = record { state = s; tally = c.tally; held = c.held; counts = c.counts; block = c.block; text = c.text }

-- a block has come
abbrev pub received : Config → List ℕ → Config
received c bytes = record { state = received_of c.state (length bytes); tally = c.tally; held = c.held; counts = c.counts; block = bytes; text = c.text }

-- the block is fed
abbrev pub fed_to : Config → Fed → Config
fed_to c fed =
    record {
      state = taken_of c.state (is_ended fed.tally.phase) (c.state.size + length (answers_text fed.answers));
      tally = fed.tally;
      held = fed.held;
      counts = counted_in c.counts fed.answers;
      block = [];
      text = c.text ++ answers_text fed.answers;
    }

-- the end of the input is reached
abbrev pub closed : Config → Config
closed c =
    record {
      state = closed_of c.state (c.state.size + length (closing c.tally c.held));
      tally = c.tally;
      held = c.held;
      counts = counted c.counts (last_of c.tally c.held);
      block = c.block;
      text = c.text ++ closing c.tally c.held;
    }

-- the output is written
abbrev pub written : Config → Config
written c = record { state = written_of c.state; tally = c.tally; held = c.held; counts = c.counts; block = c.block; text = [] }

-- what is said on standard error: the progress line, with the second in which it is drawn; anything else, or how it begins
pub data Remark : Type 0 where
  Progress : ℕ → List ℕ → Remark
  Told : List ℕ → Remark

-- how the call of a step may end: whether it fails, how many bytes come or are written, and what the clock shows
pub record Way : Type 0 where
  pub fails : Bool
  pub bytes : ℕ
  pub second : ℕ

-- what comes of some steps: where they lead, what was read, what is left of the input, what was written and said, whether all calls went well
pub record Made : Type 0 where
  pub config : Config
  pub read : List ℕ
  pub left : List ℕ
  pub text : List ℕ
  pub remarks : List Remark
  pub well : Bool

-- nothing is read or written
abbrev pub quiet : List ℕ → List Remark → Config → Made
quiet input remarks c = record { config = c; read = []; left = input; text = []; remarks = remarks; well = true }

-- a call has failed, after these bytes were written
abbrev pub failed : List ℕ → List ℕ → Config → Made
failed input text c = record { config = c; read = []; left = input; text = text; remarks = []; well = false }

-- a read brings at most so many bytes as were asked for, and one at least, unless the input is at its end
abbrev pub came : Way → Config → ℕ
came w c = min (suc w.bytes) (min c.state.input.left 16384)

-- a step, with this input before it; of a write that fails any first part may stand there
abbrev pub step_in : Action → Way → Config → List ℕ → Made
step_in Read w c input =
    cond w.fails (failed input [] (moved c (toward_of BlameInput c.state)))
    (record { config = received c (take (came w c) input); read = take (came w c) input; left = drop (came w c) input; text = []; remarks = []; well = true })
step_in Take w c input = quiet input [] (fed_to c (feed c.tally c.held c.block))
step_in Close w c input = quiet input [] (closed c)
step_in Write w c input =
    cond w.fails (failed input (take w.bytes c.text) (moved c (toward_of BlameOutput c.state)))
    (record { config = written c; read = []; left = input; text = c.text; remarks = []; well = true })
step_in Look w c input = quiet input [] (moved c (looked_of c.state w.second))
step_in Draw w c input = quiet input (Progress c.state.watch.second (progress_of c.state c.tally.session) ∷ []) (moved c (toward_of Read c.state))
step_in Say w c input = quiet input (Told (ending_of c.state c.tally.phase c.counts) ∷ []) (moved c (toward_of Stop c.state))
step_in BlameInput w c input = quiet input (Told (complaint_text c.state.watch.drawn) ∷ []) (moved c (toward_of Stop c.state))
step_in BlameOutput w c input = quiet input (Told (complaint_text c.state.watch.drawn) ∷ []) (moved c (toward_of Stop c.state))
step_in Stop w c input = quiet input [] c

abbrev pub step : Way → Config → List ℕ → Made
step w c input = step_in c.state.action w c input

abbrev pub joined : Made → Made → Made
joined m r = record { config = r.config; read = m.read ++ r.read; left = r.left; text = m.text ++ r.text; remarks = m.remarks ++ r.remarks; well = m.well && r.well }

-- one step after another, whose calls end in these ways
abbrev pub run_of : List Way → Config → List ℕ → Made
run_of [] c input = quiet input [] c
run_of (w ∷ ways) c input = joined (step w c input) (run_of ways (step w c input).config (step w c input).left)

-- the program has stopped
abbrev pub Stopped : Made → Type 0
Stopped m = m.config.state.action ≡ Stop

-- ways one after the other, as many as are needed
abbrev pub first : ℕ → (ℕ → Way) → List Way
first zero ways = []
first (suc n) ways = ways 0 ∷ first n (λ i. ways (suc i))

-- where `main` begins: the first name line waits
abbrev pub beginning : Bool → Bool → ℕ → Config
beginning error output second =
    record { state = begun 19 error output second; tally = start; held = []; counts = none; block = []; text = names_outcome }

-- ---- what is said

pub record Begins (part whole : List ℕ) : Type 0 where
  pub rest : List ℕ
  pub is : whole ≡ part ++ rest

-- of remarks after each other: progress lines only where they may be drawn, each in another second than the one before, over which it is drawn; where one stands, what else is said first takes it away
abbrev pub Fair : Bool → Bool → ℕ → List Remark → Type 0
Fair may stands second [] = Unit {0}
Fair may stands second (Progress k text ∷ remarks) = (may ≡ true) × (eqb k second ≡ false) × Begins clear_text text × Fair may true k remarks
Fair may stands second (Told text ∷ remarks) = (stands ≡ true → Begins clear_text text) × Fair may false second remarks
