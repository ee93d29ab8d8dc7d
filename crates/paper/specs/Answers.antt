-- How a call is answered (RULES 6), and lists.
use Rattle.std.specs.Prelude.{◌≡◌, List, [], ◌∷◌, ◌⊎◌, ℕ, ◌+◌, ◌^◌, ◌<◌, length, get_or, replicate}

-- a refusal's number and its condition
abbrev pub Test : Type 1
Test = ℕ × Type 0

-- the first test whose condition holds turns the call down, by its number; where none holds, it is accepted
abbrev pub Judged : List Test → (ℕ → Type 0) → Type 0 → Type 0
Judged [] refused accepted = accepted
Judged (test ∷ tests) refused accepted = (test.1 × refused test.0) ⊎ ((¬ test.1) × Judged tests refused accepted)

-- a refusal among answers that are numbers (RULES 7.3)
abbrev pub refusal : ℕ → ℕ
refusal k = 2 ^ 31 + k

-- entry j of a list
abbrev pub at : List ℕ → ℕ → ℕ
at xs j = get_or xs j 0

infix 20 ◌∈◌
-- the number is an entry of the list
abbrev pub ◌∈◌ : ℕ → List ℕ → Type 0
x ∈ xs = (i : ℕ) × (i < length xs) × (at xs i ≡ x)

-- a list as long as this one, all zeros
abbrev pub zeros : List ℕ → List ℕ
zeros xs = replicate (length xs) 0
