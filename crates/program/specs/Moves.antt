-- What the program does next (RULES 7.5), by equations.
use Rattle.std.specs.Prelude.{Bool, true, false, cond, not, ◌&&◌, List, ℕ, ◌-◌, eqb}
use Rattle.session.specs.declared.Session.{Session}
use Rattle.capture.specs.declared.Phase.{Phase}
use Rattle.capture.specs.declared.Counts.{Counts}
use Rattle.capture.specs.Feed.{read_limit}
use Rattle.program.specs.declared.Action.{Action}
use Rattle.program.specs.declared.Action.TheVariants.{Read, Take, Write, Look, Draw, Close, Say}
use Rattle.program.specs.declared.Input.{Input}
use Rattle.program.specs.declared.State.{State}
use Rattle.program.specs.Shown.{progress_text}
use Rattle.program.specs.Said.{ending_text}

-- the first block is read before anything is written
unfoldable pub begun : ℕ → Bool → Bool → ℕ → State
begun size error output second =
    record {
      action = Read;
      input = record { more = true; left = read_limit; count = 0 };
      size = size;
      watch = record { error = error; progress = error && not output; drawn = false; second = second };
    }

-- the same with this to do
abbrev pub toward_of : Action → State → State
toward_of a s = record { action = a; input = s.input; size = s.size; watch = s.watch }

-- on with this where there may be more to read, and to the last output where there is not
abbrev pub onward_of : State → Input → Action → ℕ → State
onward_of s input next size = record { action = cond input.more next Close; input = input; size = size; watch = s.watch }

-- so many bytes were read, none at the end of the input
abbrev pub received_of : State → ℕ → State
received_of s k = onward_of s (record { more = not (eqb k 0); left = s.input.left - k; count = k }) Take s.size

-- after a fault, and past the limit, nothing is read
abbrev pub is_more : Bool → ℕ → Bool
is_more ended left = not ended && not (eqb left 0)

-- a block is taken, and its answers make the output this long
abbrev pub taken_of : State → Bool → ℕ → State
taken_of s ended size = onward_of s (record { more = is_more ended s.input.left; left = s.input.left; count = 0 }) Write size

-- the last output makes it this long
abbrev pub closed_of : State → ℕ → State
closed_of s size = record { action = Write; input = s.input; size = size; watch = s.watch }

-- what follows the output: the end, a look at the clock where progress is shown, or the next block
abbrev pub after_write : Bool → Bool → Action
after_write more progress = cond more (cond progress Look Read) Say

abbrev pub written_of : State → State
written_of s = record { action = after_write s.input.more s.watch.progress; input = s.input; size = 0; watch = s.watch }

-- the line is drawn where the clock shows another second
abbrev pub looked_of : State → ℕ → State
looked_of s second =
    cond (eqb second s.watch.second) (toward_of Read s)
    (record {
      action = Draw;
      input = s.input;
      size = s.size;
      watch = record { error = s.watch.error; progress = s.watch.progress; drawn = true; second = second };
    })

-- ---- the texts

-- bytes read, pages taken, and the lowest page that is missing
abbrev pub progress_of : State → Session → List ℕ
progress_of s σ = progress_text (read_limit - s.input.left) σ.pages σ.lowest

-- what is said at the end, by the line that is next and the answers so far
abbrev pub ending_of : State → Phase → Counts → List ℕ
ending_of s p c = ending_text s.watch.drawn (eqb s.input.left 0) s.watch.error p c
