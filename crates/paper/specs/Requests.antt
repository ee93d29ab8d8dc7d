-- The bill (RULES 5.1) and the coverage viewer (RULES 5.2).
use Rattle.std.specs.Prelude.{◌≡◌, List, [], ◌∷◌, ◌⊎◌, ◌≢◌, ℕ, ◌+◌, ◌-◌, ◌*◌, ◌^◌, ◌<◌, ◌≤◌, eqb, length}
use Rattle.parity.specs.Count.{sum, count}
use Rattle.paper.specs.Answers.{Test, Judged, refusal, at}
use Rattle.paper.specs.Square.{InLists, WrongSlopes}
use Rattle.paper.specs.Session.{Session, WrongFigures}

-- calls × price over the functions 1 to 255, in thousandths of a picojoule (N12)
abbrev pub cost : Session → List ℕ → ℕ
cost session prices = sum 255 (λ i. at session.calls (1 + i) * at prices (1 + i))

-- the least number of picojoules that is enough
pub record RoundedUp (thousandths picojoules : ℕ) : Type 0 where
  pub enough : thousandths ≤ 1000 * picojoules
  pub least : 1000 * picojoules < thousandths + 1000

abbrev pub bill_tests : Session → List ℕ → List Test
bill_tests session prices =
    (1, ¬ InLists session.shape)
    ∷ (18, WrongSlopes session.shape)
    ∷ (11, WrongFigures session)
    ∷ (2, length prices ≢ 256)
    ∷ (19, 2 ^ 64 - 1 < cost session prices)
    ∷ []

-- a bill is below 2^63, so a refusal stands above it
abbrev pub Billing : Session → List ℕ → ℕ → Type 0
Billing session prices answer = Judged (bill_tests session prices) (λ k. answer ≡ 2 ^ 63 + k) (RoundedUp (cost session prices) answer)

abbrev pub cover_tests : Session → List ℕ → List Test
cover_tests session bytes =
    (1, ¬ InLists session.shape)
    ∷ (18, WrongSlopes session.shape)
    ∷ (11, WrongFigures session)
    ∷ (2, length bytes ≢ 256)
    ∷ []

-- a byte for each function, 1 where it was called and else 0; the answer is how many are 1 (N13)
abbrev pub Covering : Session → List ℕ → List ℕ → ℕ → Type 0
Covering session bytes bytes' answer =
    Judged (cover_tests session bytes)
    (λ k. (answer ≡ refusal k) × (bytes' ≡ bytes))
    ((length bytes' ≡ 256)
    × ((f : ℕ) → f < 256 → ((0 < at session.calls f) × (at bytes' f ≡ 1)) ⊎ ((at session.calls f ≡ 0) × (at bytes' f ≡ 0)))
    × (answer ≡ count 256 (λ f. eqb (at bytes' f) 1)))
