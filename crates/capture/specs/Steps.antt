-- Contracts of the steps: a line judged, and what the lent buffers hold.
use Rattle.std.specs.Prelude.{◌≡◌, Bool, false, List, ◌++◌, ℕ, ◌+◌, ◌≤◌, ◌<◌, take, drop, length}
use Rattle.gtb.specs.declared.Shape.{Shape}
use Rattle.lines.specs.Content.{content_of}
use Rattle.lines.specs.Text.{names_outcome}
use Rattle.session.specs.declared.Session.{Session}
use Rattle.session.specs.Arrival.{Page}
use Rattle.session.specs.Steps.{Readable}
use Rattle.session.specs.Session.{Consistent}
use Rattle.capture.specs.declared.Phase.{Phase}
use Rattle.capture.specs.declared.Phase.TheVariants.{Words}
use Rattle.capture.specs.declared.Answer.TheVariants.{Word}
use Rattle.capture.specs.declared.Judged.{Judged}
use Rattle.session.specs.declared.Brought.{Brought}
use Rattle.capture.specs.declared.Seen.{Seen}
use Rattle.capture.specs.declared.Seen.TheVariants.{Known, New, Head}
use Rattle.capture.specs.declared.Tally.{Tally}
use Rattle.capture.specs.declared.Counts.{Counts}
use Rattle.capture.specs.declared.Reader.{Reader}
use Rattle.capture.specs.Judge.{arrived, worded, judged_of, is_words, start}
use Rattle.capture.specs.Output.{answer_text, answers_text}
use Rattle.capture.specs.Counting.{none, counted, counted_in}
use Rattle.capture.specs.Feed.{Fed, feed, last_of, closing}

-- what a look tells of the line: the outcome of a tally that stays, the page that arrives, or that it is no word line
abbrev pub foreseen : Tally → List ℕ → List ℕ → Seen → Judged
foreseen t line symbols (Known a) = record { tally = t; answer = Word a }
foreseen t line symbols (New page) = arrived t.session (Page page.number (take page.count (drop 2 symbols)) page.corrected)
foreseen t line symbols Head = judged_of t line

-- a page that is new may be taken; of a word line no look tells that it is none
pub record Settleable (phase : Phase) (seen : Seen) (symbols : List ℕ) : Type 0 where
  pub page : (page : Brought) → seen ≡ New page → Readable page.number page.count symbols
  pub head : seen ≡ Head → is_words phase ≡ false

-- a look at a line that is right
pub record Foretold (t : Tally) (line symbols : List ℕ) (seen : Seen) : Type 0 where
  pub sure : judged_of t line ≡ foreseen t line symbols seen
  pub new : Settleable t.phase seen symbols

-- a look at a word line, where these are the page marks
pub record Looked (s : Shape) (taken : List Bool) (line symbols : List ℕ) (seen : Seen) : Type 0 where
  pub sure : (σ : Session) → σ.shape ≡ s → σ.taken ≡ taken
      → worded σ (content_of line) ≡ foreseen (record { phase = Words; session = σ }) line symbols seen
  pub new : Settleable Words seen symbols

-- ---- buffers
-- the text has been written at the end of the first `at` bytes
pub record Appended (old : List ℕ) (at : ℕ) (text new : List ℕ) (r : ℕ) : Type 0 where
  pub size : length new ≡ length old
  pub next : r ≡ at + length text
  pub front : take r new ≡ take at old ++ text

-- the line so far: its bytes while it is short enough, its being too long afterwards
pub record LineSoFar (buffer : List ℕ) (held : ℕ) (line : List ℕ) : Type 0 where
  pub size : length buffer ≡ 16384
  pub kept : held < 16384 → take held buffer ≡ line
  pub long : 16384 ≤ held → 16384 ≤ length line

-- bytes join the line so far
pub record Extended (buffer : List ℕ) (held : ℕ) (bytes buffer' : List ℕ) (r : ℕ) : Type 0 where
  pub joined : (line : List ℕ) → LineSoFar buffer held line → LineSoFar buffer' r (line ++ bytes)
  pub size : length buffer' ≡ 16384

-- how much of the line so far is judged: all of it, or nothing where it is too long
pub record End (held end : ℕ) : Type 0 where
  pub short : held < 16384 → end ≡ held
  pub long : 16384 ≤ held → end ≡ 0

-- the first bytes of the line's buffer are judged, and the answer written and counted
pub record LineEnded (reader : Reader) (buffer : List ℕ) (end : ℕ) (out out' : List ℕ) (r : Reader) : Type 0 where
  pub tally : r.tally ≡ (judged_of reader.tally (take end buffer)).tally
  pub output : Appended out reader.at (answer_text (judged_of reader.tally (take end buffer)).answer) out' r.at
  pub counts : r.counts ≡ counted reader.counts (judged_of reader.tally (take end buffer)).answer
  pub figures : Consistent r.tally.session
  pub empty : r.held ≡ 0
  pub short : r.at ≤ reader.at + 30

-- before the first line; the first name line waits
pub record Begun (out out' : List ℕ) (r : Reader) : Type 0 where
  pub tally : r.tally ≡ start
  pub held : r.held ≡ 0
  pub counts : r.counts ≡ none
  pub at : r.at ≡ 19
  pub output : Appended out 0 names_outcome out' r.at

-- a block is fed: the tally, the line so far, and the answers, written and counted
pub record FedBy (fed : Fed) (before : Counts) (at : ℕ) (out buffer' out' : List ℕ) (r : Reader) : Type 0 where
  pub tally : r.tally ≡ fed.tally
  pub held : LineSoFar buffer' r.held fed.held
  pub output : Appended out at (answers_text fed.answers) out' r.at
  pub counts : r.counts ≡ counted_in before fed.answers

pub record BlockTaken (reader : Reader) (at : ℕ) (buffer block out buffer' out' : List ℕ) (r : Reader) : Type 0 where
  pub fed : (line : List ℕ) → LineSoFar buffer reader.held line → FedBy (feed reader.tally line block) reader.counts at out buffer' out' r
  pub figures : Consistent r.tally.session
  pub within : r.at ≤ at + 491520
  pub line : length buffer' ≡ 16384
  pub size : length out' ≡ length out

-- the output at the end of the input
pub record Finished (reader : Reader) (at : ℕ) (out out' : List ℕ) (r : Reader) : Type 0 where
  pub tally : r.tally ≡ reader.tally
  pub held : r.held ≡ reader.held
  pub output : (buffer line : List ℕ) → LineSoFar buffer reader.held line → Appended out at (closing reader.tally line) out' r.at
  pub counts : (buffer line : List ℕ) → LineSoFar buffer reader.held line → r.counts ≡ counted reader.counts (last_of reader.tally line)
  pub within : r.at ≤ at + 5687
  pub size : length out' ≡ length out
