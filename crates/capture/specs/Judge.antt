-- What the program makes of one line (RULES 7). A line comes without its newline.
use Rattle.std.specs.Prelude.{Bool, true, false, cond, List, [], ◌∷◌, ℕ, ◌-◌, eqb, ltb, length, get_or, take, replicate, Result, Ok, Err}
use Rattle.gtb.specs.declared.Shape.{Shape}
use Rattle.gtb.specs.declared.Refusal.{Refusal}
use Rattle.gtb.specs.Shape.{scratch_length, standard}
use Rattle.lines.specs.Text.{same_bytes, names_shape, names_word}
use Rattle.lines.specs.Content.{Content, Spelled, Unreadable, content_of}
use Rattle.session.specs.declared.Session.{Session}
use Rattle.session.specs.Session.{fresh_of, fresh_status}
use Rattle.session.specs.Arrival.{the_ways, Opened, Bad, opened, outcome_of, session_after}
use Rattle.capture.specs.declared.Expected.{Expected}
use Rattle.capture.specs.declared.Expected.TheVariants as expected
use Rattle.capture.specs.declared.Fault.{Fault}
use Rattle.capture.specs.declared.Phase.{Phase}
use Rattle.capture.specs.declared.Phase.TheVariants.{ShapeNames, ShapeValues, WordNames, Words, Ended}
use Rattle.capture.specs.declared.Tally.{Tally}
use Rattle.capture.specs.declared.Answer.TheVariants.{Nothing, Word, Head}
use Rattle.capture.specs.declared.Judged.{Judged}

-- of a line of more than 16,384 bytes, the newline counted, nothing is kept: it is malformed in every place, as an empty one is
unfoldable pub kept_of : List ℕ → List ℕ
kept_of line = cond (ltb (length line) 16384) line []

-- the values of a line
abbrev pub line_content : List ℕ → Content
line_content line = content_of (kept_of line)

-- no line of output; the next line is looked at in this phase
abbrev pub passed : Phase → Session → Judged
passed phase σ = record { tally = record { phase = phase; session = σ }; answer = Nothing }

-- the bytes of a byte order mark, and a carriage return
abbrev pub order_mark : List ℕ
order_mark = 239 ∷ 187 ∷ 191 ∷ []

abbrev pub carriage_return : ℕ
carriage_return = 13

unfoldable pub is_marked : List ℕ → Bool
is_marked line = same_bytes (take 3 line) order_mark

unfoldable pub is_returned : List ℕ → Bool
is_returned line = eqb (get_or line (length line - 1) 0) carriage_return

-- what is wrong with a line at fault
abbrev pub fault_in : Expected → List ℕ → Fault
fault_in e line = record { expected = e; marked = is_marked line; returned = is_returned line }

-- a fault of the first three lines is answered, and ends the program
abbrev pub fault : Session → Fault → Refusal → Judged
fault σ f e = record { tally = record { phase = Ended f; session = σ }; answer = Head e }

-- a line of names is the expected one, or a fault
abbrev pub named : Session → Bool → Phase → Fault → Judged
named σ true next f = passed next σ
named σ false next f = fault σ f Refusal.Syntax

-- line 2 begins the session; a shape outside its lists is a fault before line 3 is looked at
abbrev pub begun : Session → Shape → Result (Unit {0}) Refusal → Fault → Judged
begun σ s (Ok tt) f = passed WordNames (fresh_of s)
begun σ s (Err e) f = fault σ f e

abbrev pub shape_in : List ℕ → Shape
shape_in xs = standard (get_or xs 0 0) (get_or xs 1 0) (get_or xs 2 0)

abbrev pub shaped : Session → List ℕ → Content → Judged
shaped σ line (Spelled xs) =
    cond (eqb (length xs) 3) (begun σ (shape_in xs) (fresh_status (shape_in xs)) (fault_in expected.Shape line)) (fault σ (fault_in expected.ShapeValues line) Refusal.Syntax)
shaped σ line Unreadable = fault σ (fault_in expected.ShapeValues line) Refusal.Syntax

-- what a word line brings: its values arrive, to be read the clean way, number 0; what the scratch holds has no bearing
abbrev pub brought_by : Shape → Content → Opened
brought_by s (Spelled xs) = opened the_ways s 0 xs (replicate (scratch_length s) 0)
brought_by s Unreadable = Bad Refusal.Syntax

-- the outcome of what is brought to a session whose figures are right, and the session after it
abbrev pub arrived : Session → Opened → Judged
arrived σ o = record { tally = record { phase = Words; session = session_after σ o }; answer = Word (outcome_of σ o) }

abbrev pub worded : Session → Content → Judged
worded σ c = arrived σ (brought_by σ.shape c)

abbrev pub judged_in : Phase → Session → List ℕ → Judged
judged_in ShapeNames σ line = named σ (same_bytes line names_shape) ShapeValues (fault_in expected.ShapeNames line)
judged_in ShapeValues σ line = shaped σ line (content_of line)
judged_in WordNames σ line = named σ (same_bytes line names_word) Words (fault_in expected.WordNames line)
judged_in Words σ line = worded σ (content_of line)
judged_in (Ended f) σ line = passed (Ended f) σ

unfoldable pub judged_of : Tally → List ℕ → Judged
judged_of t line = judged_in t.phase t.session (kept_of line)

-- a word line is next
abbrev pub is_words : Phase → Bool
is_words ShapeNames = false
is_words ShapeValues = false
is_words WordNames = false
is_words Words = true
is_words (Ended f) = false

-- before the first line; the session is of no use until line 2 has come
unfoldable pub start : Tally
start = record { phase = ShapeNames; session = fresh_of (standard 0 0 0) }
