-- Data places, writing and extraction (RULES 2).
use Rattle.std.specs.Prelude.{◌≡◌, Bool, cond, ◌||◌, List, [], ◌∷◌, ◌⊎◌, ◌≢◌, ℕ, ◌+◌, ◌-◌, ◌*◌, ◌/◌, ◌<◌, eqb, length}
use Rattle.parity.specs.Xor.{xor_sum, when}
use Rattle.parity.specs.Count.{bit}
use Rattle.paper.specs.Answers.{Test, Judged, refusal, at, ◌∈◌, zeros}
use Rattle.paper.specs.Square.{Shape, InLists, WrongSlopes, N, line, Stored, Wide}

-- the check matrix: for line L of direction t and place j, 1 where the digit is on the check
abbrev pub entry : Shape → ℕ → ℕ → ℕ → ℕ
entry s t L j = bit (eqb (line s t j) L)

-- the column of place j is a sum, modulo 2, of some columns at lower places
pub record DataPlace (s : Shape) (j : ℕ) : Type 0 where
  pub chosen : ℕ → Bool
  pub sum : (t L : ℕ) → t < s.n → L < s.q → entry s t L j ≡ xor_sum j (λ i. when (chosen i) (entry s t L i))

-- the digits of a word on its data places, from the lowest place up
pub record DataDigits (s : Shape) (word digits : List ℕ) : Type 0 where
  pub places : List ℕ
  pub rising : (i k : ℕ) → i < k → k < length places → at places i < at places k
  pub each : (i : ℕ) → i < length places → (at places i < N s) × DataPlace s (at places i)
  pub every : (j : ℕ) → j < N s → DataPlace s j → j ∈ places
  pub number : length digits ≡ length places
  pub same : (i : ℕ) → i < length places → at digits i ≡ at word (at places i)

-- how many data digits there are
abbrev pub K : Shape → ℕ
K s = (s.q - 1) * (s.q + 1 - s.n)

-- one row of N bits, 32 to a value, for each check but the spare ones (N7)
abbrev pub scratch_length : Shape → ℕ
scratch_length s = (s.n * s.q - s.n + 1) * ((N s + 31) / 32)

-- the scratch after refusal k: as lent after 1, after 2 and after what is tested between them (18, 11, 16), else zeros
unfoldable pub scratch_left : ℕ → List ℕ → List ℕ
scratch_left k scratch = cond (eqb k 1 || eqb k 18 || eqb k 11 || eqb k 16 || eqb k 2) scratch (zeros scratch)

-- the tests of both entries; 3 is about the digits that come in
abbrev pub write_tests : Shape → List ℕ → List ℕ → List ℕ → List ℕ → List Test
write_tests s digits scratch word incoming =
    (1, ¬ InLists s)
    ∷ (18, WrongSlopes s)
    ∷ (2, ((length digits ≢ K s) ⊎ (length scratch ≢ scratch_length s)) ⊎ (length word ≢ N s))
    ∷ (3, Wide s incoming)
    ∷ []

abbrev pub Writing : Shape → List ℕ → List ℕ → List ℕ → List ℕ → List ℕ → ℕ → Type 0
Writing s digits scratch word scratch' word' answer =
    Judged (write_tests s digits scratch word digits)
    (λ k. (answer ≡ refusal k) × (word' ≡ word) × (scratch' ≡ scratch_left k scratch))
    ((answer ≡ 0) × Stored s word' × DataDigits s word' digits × (scratch' ≡ zeros scratch))

-- stored word or not
abbrev pub Extraction : Shape → List ℕ → List ℕ → List ℕ → List ℕ → List ℕ → ℕ → Type 0
Extraction s word scratch digits scratch' digits' answer =
    Judged (write_tests s digits scratch word word)
    (λ k. (answer ≡ refusal k) × (digits' ≡ digits) × (scratch' ≡ scratch_left k scratch))
    ((answer ≡ 0) × DataDigits s word digits' × (scratch' ≡ zeros scratch))
