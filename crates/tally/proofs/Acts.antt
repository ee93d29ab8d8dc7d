-- What was asked for and came, and steps by what they promise.
use mathlib.Core.Path.{◌≡◌}
use mathlib.Core.Bool.{Bool}
use mathlib.Core.List.{List, ◌++◌}
use Prim.Native.Nat.{ℕ, ◌≤◌, ◌<◌, min}
use native.Mathlib.Omega.{arith}
use lib.ListN.{length, take, drop, length-append, length-drop}
use lib.Seq.{length-take-le}
use Rattle.capture.specs.declared.Reader.{Reader}
use Rattle.capture.specs.Feed.{is_ended}
use Rattle.program.specs.declared.Action.TheVariants.{Take, Close, Stop}
use Rattle.program.specs.declared.State.{State}
use Rattle.program.specs.declared.Taken.{Taken}
use Rattle.program.specs.Moves.{begun, toward_of}
use Rattle.program.specs.Steps.{rank, Sound, Stepped, Took, Closing}
use Rattle.program.proofs.Moves.{stepped_by, begun_sound, ended_stepped, taken_stepped, closed_stepped}

-- no more came than was asked for
pub asked : (left want count : ℕ) (block : List ℕ) → want ≡ min left 16384 → length block ≡ 16384 → count ≤ length (take want block) → (count ≤ left) × (count ≤ 16384)
asked left want count block w e c =
    let h = length-take-le want block (omega arith) in
    (omega arith, omega arith)

-- what was not asked for stays behind what was
pub rest_kept : (want : ℕ) (block part : List ℕ) → want ≤ 16384 → length block ≡ 16384 → length part ≡ length (take want block) → length (part ++ drop want block) ≡ 16384
rest_kept want block part few e same =
    let h = length-take-le want block (omega arith) in
    rw (length-append, length-drop) (omega arith)

pub begun_there : {r : State} {at : ℕ} (error output : Bool) (second : ℕ) → r ≡ begun at error output second → at ≡ 19 → Sound r
begun_there error output second e a = rw (e, a) (begun_sound error output second)

-- ---- steps
pub took_stepped : {s : State} {reader : Reader} {line block out line' out' : List ℕ} {r : Taken} → Sound s → s.action ≡ Take → Took s reader line block out line' out' r → Stepped s r.state
took_stepped {s} {r = r} h is t = stepped_by t.state (taken_stepped s h (is_ended r.reader.tally.phase) r.reader.at is t.taken.within)

pub closing_stepped : {s : State} {reader : Reader} {out out' : List ℕ} {r : Taken} → Sound s → s.action ≡ Close → Closing s reader out out' r → Stepped s r.state
closing_stepped {s} {r = r} h is t = stepped_by t.state (closed_stepped s h r.reader.at is t.finished.within)

pub stopped_stepped : {s r : State} → Sound s → 0 < rank s.action → r ≡ toward_of Stop s → Stepped s r
stopped_stepped {s} h pos e = stepped_by e (ended_stepped s h Stop (omega arith) (omega arith))
