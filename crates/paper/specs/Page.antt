-- The page in the data digits (RULES 4).
use Rattle.std.specs.Prelude.{◌≡◌, List, [], ◌∷◌, ◌≢◌, ℕ, ◌+◌, ◌-◌, ◌*◌, ◌<◌, ◌≤◌, length, take, drop}
use Rattle.paper.specs.Answers.{Test, Judged, refusal, at}
use Rattle.paper.specs.Square.{Shape, InLists, WrongSlopes, Wide}
use Rattle.paper.specs.Writing.{K}

-- 7: a mark is no function's number
abbrev pub NoFunction : List ℕ → Type 0
NoFunction marks = (i : ℕ) × (i < length marks) × (255 < at marks i)

-- digit 0 is the page number, digit 1 how many marks there are; the marks follow
abbrev pub marks_in : List ℕ → List ℕ
marks_in digits = take (at digits 1) (drop 2 digits)

-- the tests on what the digits say: page number, number of marks, marks, digits after the last mark
abbrev pub contents : Shape → List ℕ → List Test
contents s digits =
    (5, 1024 ≤ at digits 0)
    ∷ (6, K s - 2 < at digits 1)
    ∷ (7, NoFunction (marks_in digits))
    ∷ (8, (j : ℕ) × (2 + at digits 1 ≤ j) × (j < length digits) × (at digits j ≢ 0))
    ∷ []

abbrev pub page_tests : Shape → List ℕ → List Test
page_tests s digits = (1, ¬ InLists s) ∷ (18, WrongSlopes s) ∷ (2, length digits ≢ K s) ∷ (3, Wide s digits) ∷ contents s digits

-- as one number (RULES 7.3): page number and number of marks
abbrev pub PageReading : Shape → List ℕ → ℕ → Type 0
PageReading s digits answer = Judged (page_tests s digits) (λ k. answer ≡ refusal k) (answer ≡ 1024 * at digits 0 + at digits 1)

-- the part of the digits that is handed back
abbrev pub Marks : Shape → List ℕ → List ℕ → Type 0
Marks s digits marks = Judged (page_tests s digits) (λ k. marks ≡ []) (marks ≡ marks_in digits)

-- the digits of a page
pub record Page (s : Shape) (page : ℕ) (marks digits : List ℕ) : Type 0 where
  pub size : length digits ≡ K s
  pub first : at digits 0 ≡ page
  pub second : at digits 1 ≡ length marks
  pub next : (i : ℕ) → i < length marks → at digits (2 + i) ≡ at marks i
  pub rest : (j : ℕ) → 2 + length marks ≤ j → j < K s → at digits j ≡ 0

-- the writer's tests on page number and marks: 3 comes last
abbrev pub writable : Shape → ℕ → List ℕ → List Test
writable s page marks = (5, 1024 ≤ page) ∷ (6, K s - 2 < length marks) ∷ (7, NoFunction marks) ∷ (3, Wide s (page ∷ length marks ∷ marks)) ∷ []

abbrev pub page_write_tests : Shape → ℕ → List ℕ → List ℕ → List Test
page_write_tests s page marks digits = (1, ¬ InLists s) ∷ (18, WrongSlopes s) ∷ (2, length digits ≢ K s) ∷ writable s page marks

abbrev pub PageWriting : Shape → ℕ → List ℕ → List ℕ → List ℕ → ℕ → Type 0
PageWriting s page marks digits digits' answer =
    Judged (page_write_tests s page marks digits)
    (λ k. (answer ≡ refusal k) × (digits' ≡ digits))
    ((answer ≡ 0) × Page s page marks digits')
