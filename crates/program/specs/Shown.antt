-- What the program says besides the tally (RULES 7.5).
use Rattle.std.specs.Prelude.{cond, List, [], ◌∷◌, ◌++◌, ℕ, ◌/◌, ltb}
use Rattle.lines.specs.Text.{ascii, decimal}
use Rattle.capture.specs.declared.Counts.{Counts}

abbrev pub usage_text : List ℕ
usage_text =
    ascii "usage: tally [FILE]\n"
    ++ ascii "Reads a capture, FILE or standard input (none or -), and writes what came of it.\n"
    ++ ascii "A line for each word: outcome, page or refusal, symbols restored.\n"
    ++ ascii "taken: the page is counted; again: it had come before; refused: not counted,\n"
    ++ ascii "by 1 shape, 2 length, 3 width, 4 damage, 5 page, 6 count, 7 function, 8 tail, 10 text.\n"
    ++ ascii "Then the functions that were called: function, calls. If the line\n"
    ++ ascii "'function calls' is missing, there is no tally: the first three lines are at fault,\n"
    ++ ascii "or the input could not be read to its end. More: man tally.\n"

-- name and version
abbrev pub version_text : List ℕ
version_text = ascii "tally 0.1.0\n"

-- the terminal's line emptied, with the cursor at its start: a carriage return, and ESC [ K
abbrev pub clear_text : List ℕ
clear_text = 13 ∷ 27 ∷ 91 ∷ 75 ∷ []

-- a number and what it counts
unfoldable pub numbered : ℕ → List ℕ → List ℕ
numbered n text = decimal n ++ text

-- the lowest page that has not come; 1024 stands for none
unfoldable pub lowest_text : ℕ → List ℕ
lowest_text lowest = cond (ltb lowest 1024) (ascii "lowest missing " ++ decimal lowest) (ascii "no page missing")

-- the line emptied, then bytes read, in millions, pages taken, and the lowest that is missing
unfoldable pub progress_text : ℕ → ℕ → ℕ → List ℕ
progress_text read pages lowest =
    clear_text ++ numbered (read / 1000000) (ascii " MB read, ") ++ numbered pages (ascii " pages taken, ") ++ lowest_text lowest

-- the answers by kind
unfoldable pub summary_text : Counts → List ℕ
summary_text c = numbered c.taken (ascii " taken, ") ++ numbered c.again (ascii " again, ") ++ numbered c.refused (ascii " refused\n")
