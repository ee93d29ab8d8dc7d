-- The house text form (RULES 7). A byte is a number, a text the list of its bytes.
use Rattle.std.specs.Prelude.{◌≡◌, Bool, true, false, ◌&&◌, List, [], ◌∷◌, ◌++◌, ℕ, zero, suc, ◌+◌, ◌/◌, ◌%◌, ◌^◌, ◌≤◌, ◌<◌, eqb, ltb, length, get_or, take, drop}
use Prim.Native.Char.{code}
use Prim.Native.String.{String}
use Prim.Native.String as string
use Rattle.lines.specs.declared.Kind.{Kind}
use Rattle.lines.specs.declared.Kind.TheVariants.{Taken, Again, Refused}

-- the bytes of a quoted text
abbrev pub ascii : String → List ℕ
ascii string.[] = []
ascii (string.◌∷◌ c s) = code c ∷ ascii s

abbrev pub space : ℕ
space = 32

abbrev pub newline : ℕ
newline = 10

-- the byte of a digit
abbrev pub digit : ℕ → ℕ
digit d = 48 + d

-- the decimal spelling of n, which has at most `steps` digits: the digits of n / 10, then the last one
abbrev pub digits : ℕ → ℕ → List ℕ
digits zero n = []
digits (suc steps) n = elim (ltb n 10) [ true ↦ digit n ∷ [] | false ↦ digits steps (n / 10) ++ (digit (n % 10) ∷ []) ]

-- the decimal spelling of a number, with no leading zeros; zero is `0`
unfoldable pub decimal : ℕ → List ℕ
decimal n = digits (suc n) n

-- values parted by single spaces
unfoldable pub spell : List ℕ → List ℕ
spell [] = []
spell (x ∷ []) = decimal x
spell (x ∷ (y ∷ ys)) = decimal x ++ space ∷ spell (y ∷ ys)

-- the line, without its newline, spells the values xs
pub record Spells (line xs : List ℕ) : Type 0 where
  pub some : 0 < length xs
  pub small : (i : ℕ) → i < length xs → get_or xs i 0 < 2 ^ 32
  pub text : line ≡ spell xs

-- the test of two texts for equality
unfoldable pub same_bytes : List ℕ → List ℕ → Bool
same_bytes [] [] = true
same_bytes [] (y ∷ ys) = false
same_bytes (x ∷ xs) [] = false
same_bytes (x ∷ xs) (y ∷ ys) = eqb x y && same_bytes xs ys

-- the name lines of the input, without the newline, and of the output, with it
abbrev pub names_shape : List ℕ
names_shape = ascii "q n b"

abbrev pub names_word : List ℕ
names_word = ascii "word"

abbrev pub names_outcome : List ℕ
names_outcome = ascii "outcome page fixed\n"

abbrev pub names_calls : List ℕ
names_calls = ascii "function calls\n"

-- the outcomes by kind
unfoldable pub outcome_name : Kind → List ℕ
outcome_name Taken = ascii "taken"
outcome_name Again = ascii "again"
outcome_name Refused = ascii "refused"

-- two values and a newline: a line of the output's second table, function and calls
unfoldable pub count_text : ℕ → ℕ → List ℕ
count_text function calls = decimal function ++ space ∷ decimal calls ++ newline ∷ []

-- a line of the output's first table: outcome, page, digits changed
unfoldable pub outcome_text : Kind → ℕ → ℕ → List ℕ
outcome_text kind number fixed = outcome_name kind ++ space ∷ decimal number ++ space ∷ decimal fixed ++ newline ∷ []

-- the list with the text written over its elements from `at` on
unfoldable pub pasted : List ℕ → ℕ → List ℕ → List ℕ
pasted old at text = take at old ++ text ++ drop (at + length text) old

-- the text has been written at `at`; the answer is the place after it, which is within the list or its end
pub record Put (old : List ℕ) (at : ℕ) (text new : List ℕ) (r : ℕ) : Type 0 where
  pub written : new ≡ pasted old at text
  pub next : r ≡ at + length text
  pub room : r ≤ length new
