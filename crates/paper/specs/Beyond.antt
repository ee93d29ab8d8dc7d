-- Beyond the documents: the nearest stored word (RULES 3.5), and dead cells together with other damage.
use Rattle.std.specs.Prelude.{◌≡◌, Bool, not, ◌&&◌, List, [], ◌∷◌, ◌⊎◌, ◌≢◌, ℕ, ◌-◌, ◌*◌, ◌/◌, ◌≤◌, eqb, length}
use Rattle.parity.specs.Count.{any, count}
use Rattle.paper.specs.Answers.{Test, Judged, refusal, at, zeros}
use Rattle.paper.specs.Square.{Shape, InLists, WrongSlopes, N, Stored, Wide, changed}
use Rattle.paper.specs.Writing.{scratch_length, scratch_left}
use Rattle.paper.specs.Reading.{Within}
use Rattle.paper.specs.DeadCells.{WrongPlaces}

-- 20 stands in the place of 4
abbrev pub nearest_tests : Shape → List ℕ → List Test
nearest_tests s word =
    (1, ¬ InLists s)
    ∷ (18, WrongSlopes s)
    ∷ (2, length word ≢ N s)
    ∷ (3, Wide s word)
    ∷ (20, (v : List ℕ) → ¬ Within s (s.n - 1) word v)
    ∷ []

abbrev pub Nearest : Shape → List ℕ → List ℕ → ℕ → Type 0
Nearest s word word' answer =
    Judged (nearest_tests s word)
    (λ k. (answer ≡ refusal k) × (word' ≡ word))
    (Within s (s.n - 1) word word' × (answer ≡ changed s word word'))

-- how many digits may be wrong beside so many listed places
abbrev pub reach : Shape → ℕ → ℕ
reach s places = (2 * s.n - 1 - places) / 2

abbrev pub is_listed : List ℕ → ℕ → Bool
is_listed places j = any (length places) (λ i. eqb (at places i) j)

-- v is a stored word, and no more than so many digits that are not listed differ
pub record Reached (s : Shape) (word places v : List ℕ) : Type 0 where
  pub stored : Stored s v
  pub few : count (N s) (λ j. not (is_listed places j) && not (eqb (at v j) (at word j))) ≤ reach s (length places)

-- 20 stands in the place of 13
abbrev pub restore_tests : Shape → List ℕ → List ℕ → List ℕ → List Test
restore_tests s word places scratch =
    (1, ¬ InLists s)
    ∷ (18, WrongSlopes s)
    ∷ (2, (length word ≢ N s) ⊎ (length scratch ≢ scratch_length s))
    ∷ (3, Wide s word)
    ∷ (12, WrongPlaces s places)
    ∷ (20, (v : List ℕ) → ¬ Reached s word places v)
    ∷ (14, (v w : List ℕ) × Reached s word places v × Reached s word places w × (v ≢ w))
    ∷ []

abbrev pub Restoring : Shape → List ℕ → List ℕ → List ℕ → List ℕ → List ℕ → ℕ → Type 0
Restoring s word places scratch word' scratch' answer =
    Judged (restore_tests s word places scratch)
    (λ k. (answer ≡ refusal k) × (word' ≡ word) × (scratch' ≡ scratch_left k scratch))
    (Reached s word places word' × (answer ≡ changed s word word') × (scratch' ≡ zeros scratch))
