-- The square and its checks (RULES 1).
use Rattle.std.specs.Prelude.{◌≡◌, not, List, [], ◌∷◌, ◌⊎◌, ◌≢◌, ℕ, zero, suc, ◌+◌, ◌-◌, ◌*◌, ◌/◌, ◌%◌, ◌^◌, ◌<◌, ◌≤◌, eqb, length}
use Rattle.parity.specs.Xor.{xor_sum, when}
use Rattle.parity.specs.Count.{count}
use Rattle.paper.specs.Answers.{at, ◌∈◌}

-- order, directions, width; the slopes (N8)
pub record Shape : Type 0 where
  pub q : ℕ
  pub n : ℕ
  pub b : ℕ
  pub slopes : List ℕ

-- with the slopes 0, 1, 2, ..
abbrev pub standard : ℕ → ℕ → ℕ → Shape
standard q n b = record { q = q; n = n; b = b; slopes = 0 ∷ 1 ∷ 2 ∷ 3 ∷ 4 ∷ 5 ∷ 6 ∷ [] }

-- what test 1 asks of the three numbers
pub record InLists (s : Shape) : Type 0 where
  pub order : s.q ∈ (3 ∷ 5 ∷ 7 ∷ 11 ∷ 13 ∷ 17 ∷ 19 ∷ 23 ∷ 29 ∷ 31 ∷ [])
  pub directions : (2 ≤ s.n) × (s.n ≤ s.q) × (s.n ≤ 8)
  pub width : (1 ≤ s.b) × (s.b ≤ 32)

-- 18: of the first n - 1 slopes one is too large or stands twice
abbrev pub WrongSlopes : Shape → Type 0
WrongSlopes s = (t : ℕ) × (t < s.n - 1) × ((s.q ≤ at s.slopes t) ⊎ ((u : ℕ) × (u < s.n - 1) × (u ≢ t) × (at s.slopes u ≡ at s.slopes t)))

-- the digits of a word
abbrev pub N : Shape → ℕ
N s = s.q * s.q

abbrev pub row : Shape → ℕ → ℕ
row s j = j / s.q

abbrev pub column : Shape → ℕ → ℕ
column s j = j % s.q

-- the line of direction t that digit j is on; the first slope is that of direction 1
unfoldable pub line : Shape → ℕ → ℕ → ℕ
line s zero j = row s j
line s (suc t) j = (column s j + at s.slopes t * row s j) % s.q

-- the value of the check that is line L of direction t: the XOR of its digits
unfoldable pub value : Shape → List ℕ → ℕ → ℕ → ℕ
value s word t L = xor_sum (N s) (λ j. when (eqb (line s t j) L) (at word j))

-- N digits below 2^b
pub record Digits (s : Shape) (word : List ℕ) : Type 0 where
  pub number : length word ≡ N s
  pub below : (j : ℕ) → j < N s → at word j < 2 ^ s.b

pub record Stored (s : Shape) (word : List ℕ) : Type 0 where
  pub digits : Digits s word
  pub zero : (t L : ℕ) → t < s.n → L < s.q → value s word t L ≡ 0

-- 3: some digit has more than b bits
abbrev pub Wide : Shape → List ℕ → Type 0
Wide s xs = (j : ℕ) × (j < length xs) × (2 ^ s.b ≤ at xs j)

-- how many digits two words differ in
unfoldable pub changed : Shape → List ℕ → List ℕ → ℕ
changed s came given = count (N s) (λ j. not (eqb (at given j) (at came j)))
