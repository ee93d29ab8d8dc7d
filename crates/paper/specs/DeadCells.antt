-- Dead cells (RULES 3.1, request N2).
use Rattle.std.specs.Prelude.{◌≡◌, List, [], ◌∷◌, ◌⊎◌, ◌≢◌, ℕ, suc, ◌<◌, ◌≤◌, length}
use Rattle.paper.specs.Answers.{Test, Judged, refusal, at, ◌∈◌, zeros}
use Rattle.paper.specs.Square.{Shape, InLists, WrongSlopes, N, Stored, Wide, changed}
use Rattle.paper.specs.Writing.{scratch_length, scratch_left}

-- 12: a place is not above the one before it, or not below N
abbrev pub WrongPlaces : Shape → List ℕ → Type 0
WrongPlaces s places =
    ((i : ℕ) × (suc i < length places) × (at places (suc i) ≤ at places i)) ⊎ ((i : ℕ) × (i < length places) × (N s ≤ at places i))

-- v is a stored word with the word's digits at all other places
pub record Agrees (s : Shape) (word places v : List ℕ) : Type 0 where
  pub stored : Stored s v
  pub same : (j : ℕ) → j < N s → ¬ (j ∈ places) → at v j ≡ at word j

abbrev pub fill_tests : Shape → List ℕ → List ℕ → List ℕ → List Test
fill_tests s word places scratch =
    (1, ¬ InLists s)
    ∷ (18, WrongSlopes s)
    ∷ (2, (length word ≢ N s) ⊎ (length scratch ≢ scratch_length s))
    ∷ (3, Wide s word)
    ∷ (12, WrongPlaces s places)
    ∷ (13, (v : List ℕ) → ¬ Agrees s word places v)
    ∷ (14, (v w : List ℕ) × Agrees s word places v × Agrees s word places w × (v ≢ w))
    ∷ []

abbrev pub Filling : Shape → List ℕ → List ℕ → List ℕ → List ℕ → List ℕ → ℕ → Type 0
Filling s word places scratch word' scratch' answer =
    Judged (fill_tests s word places scratch)
    (λ k. (answer ≡ refusal k) × (word' ≡ word) × (scratch' ≡ scratch_left k scratch))
    (Agrees s word places word' × (answer ≡ changed s word word') × (scratch' ≡ zeros scratch))
