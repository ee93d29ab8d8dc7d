-- Contracts of the steps that move the reader, and what all steps keep.
use Rattle.std.specs.Prelude.{◌≡◌, Bool, true, false, cond, List, ℕ, ◌+◌, ◌*◌, ◌≤◌, ◌<◌, eqb, ltb}
use Rattle.capture.specs.declared.Reader.{Reader}
use Rattle.capture.specs.Feed.{is_ended, read_limit}
use Rattle.capture.specs.Steps.{BlockTaken, Finished}
use Rattle.program.specs.declared.Action.{Action}
use Rattle.program.specs.declared.Action.TheVariants.{Read, Take, Write, Look, Draw, Close, Say, BlameInput, BlameOutput, Stop}
use Rattle.program.specs.declared.State.{State}
use Rattle.program.specs.declared.Taken.{Taken}
use Rattle.program.specs.Moves.{taken_of, closed_of}

-- the block is taken
pub record Took (s : State) (reader : Reader) (line block out line' out' : List ℕ) (r : Taken) : Type 0 where
  pub taken : BlockTaken reader s.size line block out line' out' r.reader
  pub state : r.state ≡ taken_of s (is_ended r.reader.tally.phase) r.reader.at

-- the output at the end of the input
pub record Closing (s : State) (reader : Reader) (out out' : List ℕ) (r : Taken) : Type 0 where
  pub finished : Finished reader s.size out out' r.reader
  pub state : r.state ≡ closed_of s r.reader.at

-- ---- what all steps keep

-- a step of the same block has a lower rank
abbrev pub rank : Action → ℕ
rank Take = 9
rank Close = 8
rank Write = 7
rank Look = 6
rank Draw = 5
rank Read = 4
rank Say = 3
rank BlameInput = 2
rank BlameOutput = 1
rank Stop = 0

-- there is something left to do
abbrev pub goes_on : Action → Bool
goes_on a = ltb 0 (rank a)

-- it falls with every step: bytes not read, bytes not taken, whether there may be more, and the rank
unfoldable pub measure_of : State → ℕ
measure_of s = 32 * s.input.left + 16 * s.input.count + cond s.input.more 8 0 + rank s.action

-- as much output may wait: the first name line before a block, its answers after it, the second table at the end
abbrev pub most : Action → ℕ
most a = cond (ltb (rank a) 4) 500000 (cond (eqb (rank a) 7) 500000 (cond (eqb (rank a) 8) 491539 19))

-- a block that is taken is there; what is read may be, and the limit leaves some of it; nothing more is read after the last output
pub record Going (s : State) : Type 0 where
  pub there : rank s.action ≡ 9 → 0 < s.input.count
  pub more : 3 < rank s.action → rank s.action < 7 → s.input.more ≡ true
  pub some : s.input.more ≡ true → 3 < rank s.action → rank s.action < 8 → 0 < s.input.left
  pub shut : rank s.action ≡ 8 → s.input.more ≡ false

-- and all is within the limit and the buffers
pub record Sound (s : State) : Type 0 where
  pub going : Going s
  pub limit : s.input.left ≤ read_limit
  pub block : s.input.count ≤ 16384
  pub out : s.size ≤ most s.action

-- a step: it goes on, and the measure falls
pub record Went (s r : State) : Type 0 where
  pub going : Going r
  pub less : measure_of r < measure_of s

pub record Stepped (s r : State) : Type 0 where
  pub sound : Sound r
  pub less : measure_of r < measure_of s
