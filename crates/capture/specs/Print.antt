-- What a capture of a recording prints (RULES 7.4): demand 3 brought to the program's text.
use Rattle.std.specs.Prelude.{◌≡◌, Bool, true, false, cond, not, ◌&&◌, List, [], ◌∷◌, ◌++◌, ℕ, ◌<◌, ◌≤◌, eqb, length, get_or, replicate}
use Rattle.parity.specs.Lists.{tabulate}
use Rattle.gtb.specs.declared.Shape.{Shape}
use Rattle.gtb.specs.declared.Refusal.{Refusal}
use Rattle.gtb.specs.Shape.{scratch_length, standard}
use Rattle.lines.specs.Text.{newline, names_shape, names_word, names_outcome, spell}
use Rattle.lines.specs.Content.{Content, Spelled, Unreadable}
use Rattle.session.specs.declared.Outcome.{Outcome}
use Rattle.session.specs.declared.Outcome.TheVariants.{Taken, Again, Refused}
use Rattle.session.specs.Arrival.{the_ways}
use Rattle.session.specs.Recording.{Sheet, sheet_at, tally, Arrival, TurnedDown, Brings, Fits}
use Rattle.session.specs.Claim.{answer_at}
use Rattle.capture.specs.Output.{outcome_line, refused_line, calls_text}
use Rattle.capture.specs.Judge.{line_content}
use Rattle.capture.specs.Feed.{read_limit, output_of}

-- ---- a capture

-- any bytes but newlines
abbrev pub is_unbroken : List ℕ → Bool
is_unbroken [] = true
is_unbroken (b ∷ line) = not (eqb b newline) && is_unbroken line

abbrev pub Unbroken : List ℕ → Type 0
Unbroken line = is_unbroken line ≡ true

-- line i
abbrev pub line_at : List (List ℕ) → ℕ → List ℕ
line_at lines i = get_or lines i []

-- lines, each with its newline
unfoldable pub lines_text : List (List ℕ) → List ℕ
lines_text [] = []
lines_text (line ∷ lines) = line ++ newline ∷ lines_text lines

-- the lines of the shape, then the word lines; `cut` is what stands after the last newline, nothing in a capture that is whole
unfoldable pub capture_text : ℕ → ℕ → ℕ → List (List ℕ) → List ℕ → List ℕ
capture_text q n b lines cut = lines_text (names_shape ∷ spell (q ∷ n ∷ b ∷ []) ∷ names_word ∷ lines) ++ cut

-- the values of a readable line arrive the clean way; what the scratch holds has no bearing
abbrev pub arrival_of : Shape → List ℕ → Arrival
arrival_of s xs = record { way = 0; word = xs; scratch = replicate (scratch_length s) 0 }

-- an unreadable line brings none
abbrev pub joining : Shape → Content → List Arrival → List Arrival
joining s (Spelled xs) rest = arrival_of s xs ∷ rest
joining s Unreadable rest = rest

-- the arrivals of the readable lines, in their order
unfoldable pub arrivals_in : Shape → List (List ℕ) → List Arrival
arrivals_in s [] = []
arrivals_in s (line ∷ lines) = joining s (line_content line) (arrivals_in s lines)

-- line i is readable, and brings page p with damage to k digits
pub record LineBrings (s : Shape) (pages : List Sheet) (lines : List (List ℕ)) (i p k : ℕ) : Type 0 where
  pub there : i < length lines
  pub page : p < length pages
  pub values : List ℕ
  pub spelled : line_content (line_at lines i) ≡ Spelled values
  pub brings : Brings the_ways s (arrival_of s values) (sheet_at pages p) k

-- ---- what is printed

-- a line for each answer
unfoldable pub answer_lines : List Outcome → List ℕ
answer_lines [] = []
answer_lines (r ∷ answers) = outcome_line r ++ answer_lines answers

-- a last line without its newline is refused with 10
abbrev pub cut_line : List ℕ → List ℕ
cut_line cut = cond (eqb (length cut) 0) [] (refused_line Refusal.Syntax)

-- the recording's own counts as the second table: functions from 1 on that have marks, rising
unfoldable pub own_table : List Sheet → List ℕ
own_table pages = calls_text (tabulate 256 (tally pages (λ p. true)))

-- the text for these lines, of a recording that they fit
pub record Prints (s : Shape) (pages : List Sheet) (lines : List (List ℕ)) (cut text : List ℕ) : Type 0 where
  -- the answers to the word lines, one each, in order
  pub answers : List Outcome
  pub each : length answers ≡ length lines
  -- refused with 10 where it is unreadable, and by what turns its values down
  pub unreadable : (i : ℕ) → i < length lines → line_content (line_at lines i) ≡ Unreadable → answer_at answers i ≡ Refused Refusal.Syntax
  pub turned : (i : ℕ) → i < length lines → (xs : List ℕ) (e : Refusal) → line_content (line_at lines i) ≡ Spelled xs
      → TurnedDown the_ways s (arrival_of s xs) e → answer_at answers i ≡ Refused e
  -- taken where no line before brings that page, again where one does
  pub taken : (i p k : ℕ) → LineBrings s pages lines i p k
      → ((j c : ℕ) → j < i → LineBrings s pages lines j p c → ⊥) → answer_at answers i ≡ Taken (sheet_at pages p).number k
  pub again : (i p k j c : ℕ) → LineBrings s pages lines i p k
      → j < i → LineBrings s pages lines j p c → answer_at answers i ≡ Again (sheet_at pages p).number k
  -- the first table, then the second
  pub whole : text ≡ names_outcome ++ answer_lines answers ++ cut_line cut ++ own_table pages

-- a capture of a recording, of one line a page, that is read to its end and prints the recording's tally
pub record Captured (q n b : ℕ) (pages : List Sheet) : Type 0 where
  pub lines : List (List ℕ)
  pub each : length lines ≡ length pages
  pub unbroken : (i : ℕ) → i < length lines → Unbroken (line_at lines i)
  pub fits : Fits the_ways (standard q n b) pages (arrivals_in (standard q n b) lines)
  pub read : length (capture_text q n b lines []) ≤ read_limit
  pub prints : Prints (standard q n b) pages lines [] (output_of (capture_text q n b lines []))

-- the second table of an output: all from the line on that begins with the f of `function calls`; `first` says that a line begins
unfoldable pub table_from : Bool → List ℕ → List ℕ
table_from first [] = []
table_from true (b ∷ text) = cond (eqb b 102) (b ∷ text) (table_from (eqb b newline) text)
table_from false (b ∷ text) = table_from (eqb b newline) text

abbrev pub second_table : List ℕ → List ℕ
second_table text = table_from true text
