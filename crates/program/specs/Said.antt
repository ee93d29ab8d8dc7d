-- What the program says on standard error at its end, and where it can't go on (RULES 7.5).
use Rattle.std.specs.Prelude.{Bool, cond, List, [], ◌++◌, ℕ}
use Rattle.lines.specs.Text.{ascii}
use Rattle.capture.specs.declared.Expected.{Expected}
use Rattle.capture.specs.declared.Expected.TheVariants.{ShapeNames, ShapeValues, Shape, WordNames}
use Rattle.capture.specs.declared.Fault.{Fault}
use Rattle.capture.specs.declared.Phase.{Phase}
use Rattle.capture.specs.declared.Phase.TheVariants as phase
use Rattle.capture.specs.declared.Counts.{Counts}
use Rattle.program.specs.Shown.{clear_text, numbered, summary_text}

-- what should stand in the line at fault
abbrev pub expected_text : Expected → List ℕ
expected_text ShapeNames = ascii "tally: line 1: expected 'q n b'\n"
expected_text ShapeValues = ascii "tally: line 2: expected the three values of q, n and b\n"
expected_text Shape =
    ascii "tally: line 2: expected q one of 3, 5, 7, 11, 13, 17, 19, 23, 29, 31, "
    ++ ascii "n from 2 to the smaller of q and 8, b from 1 to 32\n"
expected_text WordNames = ascii "tally: line 3: expected 'word'\n"

-- its number
abbrev pub line_of : Expected → ℕ
line_of ShapeNames = 1
line_of ShapeValues = 2
line_of Shape = 2
line_of WordNames = 3

-- what else there is to say of a line
unfoldable pub noted_text : ℕ → List ℕ → List ℕ
noted_text number text = ascii "tally: line " ++ numbered number text

unfoldable pub fault_text : Fault → List ℕ
fault_text f =
    expected_text f.expected
    ++ cond f.marked (noted_text (line_of f.expected) (ascii " begins with a byte order mark\n")) []
    ++ cond f.returned (noted_text (line_of f.expected) (ascii " ends with a carriage return\n")) []

-- which of the first three lines is at fault or missing, by the line that was next at the end
abbrev pub blame_text : Phase → List ℕ
blame_text phase.ShapeNames = expected_text ShapeNames
blame_text phase.ShapeValues = expected_text ShapeValues
blame_text phase.WordNames = expected_text WordNames
blame_text phase.Words = []
blame_text (phase.Ended f) = fault_text f

-- the input may have ended there: nothing is read to find out
unfoldable pub limit_text : List ℕ
limit_text = ascii "tally: 4294967295 bytes read, the most that are read; what follows counts as absent\n"

-- a progress line that stands there is taken away; that the limit was reached and that the first three lines are at fault is said to a script too
unfoldable pub ending_text : Bool → Bool → Bool → Phase → Counts → List ℕ
ending_text drawn limit person p c = cond drawn clear_text [] ++ cond limit limit_text [] ++ blame_text p ++ cond person (summary_text c) []

-- the beginning of a complaint: what is complained of and the reason follow
unfoldable pub complaint_text : Bool → List ℕ
complaint_text drawn = cond drawn clear_text [] ++ ascii "tally: "

-- the ends of two complaints, about an argument
abbrev pub unknown_text : List ℕ
unknown_text = ascii ": no such option; tally --help says how it is used\n"

abbrev pub too_many_text : List ℕ
too_many_text = ascii ": one argument too many; tally --help says how it is used\n"
