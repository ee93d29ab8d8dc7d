-- The tally program: from the bytes of its input to those of its output (RULES 7.1, 7.2).
use Rattle.std.specs.Prelude.{◌≡◌, true, false, List, [], ◌∷◌, ◌++◌, ◌≢◌, ℕ, zero, suc, ◌+◌, ◌-◌, ◌/◌, ◌%◌, ◌^◌, ◌<◌, ◌≤◌, ltb, length, get_or, take, drop, replicate}
use Prim.Native.Char.{code}
use Prim.Native.String.{String}
use Prim.Native.String as string
use Rattle.paper.specs.Answers.{Test, Judged, at}
use Rattle.paper.specs.Square.{Shape, standard, InLists}
use Rattle.paper.specs.Writing.{scratch_length}
use Rattle.paper.specs.Session.{Session, fresh, Arrived, Arriving}

-- the bytes of a quoted text
abbrev pub ascii : String → List ℕ
ascii string.[] = []
ascii (string.◌∷◌ c s) = code c ∷ ascii s

-- the decimal digits of a number below 10^steps: those of its tenth part, then the last one
abbrev pub digits : ℕ → ℕ → List ℕ
digits zero x = []
digits (suc steps) x = elim (ltb x 10) [ true ↦ (48 + x) ∷ [] | false ↦ digits steps (x / 10) ++ ((48 + x % 10) ∷ []) ]

-- a value has no leading zeros; zero is `0`
unfoldable pub decimal : ℕ → List ℕ
decimal x = digits (suc x) x

-- values parted by single spaces
unfoldable pub spell : List ℕ → List ℕ
spell [] = []
spell (x ∷ []) = decimal x
spell (x ∷ y ∷ ys) = decimal x ++ 32 ∷ spell (y ∷ ys)

-- the line, without its newline, has these values: one at least, each at most 2^32 - 1; it has at most 16,384 bytes with its newline
pub record Line (line values : List ℕ) : Type 0 where
  pub some : 0 < length values
  pub small : (i : ℕ) → i < length values → at values i < 2 ^ 32
  pub text : line ≡ spell values
  pub size : length line + 1 ≤ 16384

-- lines, each with its newline, and what stands after the last newline
abbrev pub joined : List (List ℕ) → List ℕ → List ℕ
joined [] rest = rest
joined (line ∷ lines) rest = line ++ 10 ∷ joined lines rest

-- no byte of it is a newline
abbrev pub Unbroken : List ℕ → Type 0
Unbroken text = (i : ℕ) → i < length text → at text i ≢ 10

-- line i, the first being line 0
abbrev pub line_at : List (List ℕ) → ℕ → List ℕ
line_at lines i = get_or lines i []

-- at most 2^32 - 1 bytes are read
pub record Input (bytes : List ℕ) (lines : List (List ℕ)) (rest : List ℕ) : Type 0 where
  pub read : take (2 ^ 32 - 1) bytes ≡ joined lines rest
  pub each : (i : ℕ) → i < length lines → Unbroken (line_at lines i)
  pub unended : Unbroken rest

-- the outcomes by number
abbrev pub outcome_name : ℕ → List ℕ
outcome_name zero = ascii "taken"
outcome_name (suc zero) = ascii "again"
outcome_name (suc (suc k)) = ascii "refused"

-- a line of the first table: outcome, page or refusal number, digits changed
unfoldable pub answer_line : List ℕ → List ℕ
answer_line answer = outcome_name (at answer 0) ++ 32 ∷ decimal (at answer 1) ++ 32 ∷ decimal (at answer 2) ++ 10 ∷ []

abbrev pub refused_line : ℕ → List ℕ
refused_line k = answer_line (2 ∷ k ∷ 0 ∷ [])

-- the second table, from function f on: function and calls, counts above zero only
unfoldable pub table : ℕ → List ℕ → List ℕ
table f [] = []
table f (zero ∷ calls) = table (suc f) calls
table f (suc k ∷ calls) = decimal f ++ 32 ∷ decimal (suc k) ++ 10 ∷ table (suc f) calls

-- a word line: malformed, or its values arrive, to be read the clean way
abbrev pub WordLine : Session → List ℕ → List ℕ → Session → Type 0
WordLine session line answer session' =
    Judged ((10, (values : List ℕ) → ¬ Line line values) ∷ [])
    (λ k. (answer ≡ 2 ∷ k ∷ 0 ∷ []) × (session' ≡ session))
    ((values : List ℕ) × (r : Arrived) × Line line values
    × Arriving session (record { way = 0; word = values; scratch = replicate (scratch_length session.shape) 0 }) r
    × (answer ≡ r.answer) × (session' ≡ r.session))

-- word lines one after the other, the lines of output for them, and the session at the end
pub data WordLines : Session → List (List ℕ) → List ℕ → Session → Type 0 where
  none : {session : Session} → WordLines session [] [] session
  more : {session next end : Session} {line answer output : List ℕ} {lines : List (List ℕ)}
      → WordLine session line answer next → WordLines next lines output end
      → WordLines session (line ∷ lines) (answer_line answer ++ output) end

-- line i is there and has this text
abbrev pub Named : List (List ℕ) → ℕ → List ℕ → Type 0
Named lines i text = (i < length lines) × (line_at lines i ≡ text)

-- line 2 has three values
abbrev pub ThreeValues : List (List ℕ) → List ℕ → Type 0
ThreeValues lines values = (1 < length lines) × Line (line_at lines 1) values × (length values ≡ 3)

-- its shape keeps the slopes 0, 1, 2, .. (N8)
abbrev pub shape_of : List ℕ → Shape
shape_of values = standard (at values 0) (at values 1) (at values 2)

-- lines 1 to 3, in order
abbrev pub head_tests : List (List ℕ) → List Test
head_tests lines =
    (10, ¬ Named lines 0 (ascii "q n b"))
    ∷ (10, (values : List ℕ) → ¬ ThreeValues lines values)
    ∷ (1, (values : List ℕ) × ThreeValues lines values × (¬ InLists (shape_of values)))
    ∷ (10, ¬ Named lines 2 (ascii "word"))
    ∷ []

-- a last line without its newline is malformed
abbrev pub cut_line : List ℕ → List ℕ
cut_line [] = []
cut_line (b ∷ rest) = refused_line 10

-- the output for an input
pub record Prints (bytes output : List ℕ) : Type 0 where
  pub lines : List (List ℕ)
  pub rest : List ℕ
  pub input : Input bytes lines rest
  pub printed : Judged (head_tests lines)
      (λ k. output ≡ ascii "outcome page fixed\n" ++ refused_line k)
      ((values words : List ℕ) × (end : Session) × ThreeValues lines values
      × WordLines (fresh (shape_of values)) (drop 3 lines) words end
      × (output ≡ ascii "outcome page fixed\n" ++ words ++ cut_line rest ++ ascii "function calls\n" ++ table 0 end.calls))
