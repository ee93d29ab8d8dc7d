-- Dead cells and damage together: any change at the listed places, and at few others (RULES 3.6).
use Rattle.std.specs.Prelude.{◌≡◌, not, ◌&&◌, List, ◌⊎◌, ℕ, ◌+◌, ◌-◌, ◌*◌, ◌/◌, ◌^◌, ◌≤◌, eqb, length, Result, Ok, Err}
use Rattle.parity.specs.Count.{count}
use Rattle.gtb.specs.declared.Shape.{Shape}
use Rattle.gtb.specs.declared.Refusal.{Refusal}
use Rattle.gtb.specs.Shape.{word_length}
use Rattle.gtb.specs.Square.{at, Codeword}
use Rattle.distance.specs.Distance.{differences}
use Rattle.gtb.specs.Answer.{answer_number}
use Rattle.erasure.specs.Fill.{is_listed, TestedFirst}

-- how many symbols may be wrong beside f listed places: each costs two of the 2 n - 1 that the distance allows. Subtraction stops at 0, so it is 0 from
-- f = 2 n - 1 on
unfoldable pub reach : Shape → ℕ → ℕ
reach s f = (2 * s.n - 1 - f) / 2

-- how many symbols of an error are not 0, beside those at listed places
unfoldable pub weight_beside : Shape → List ℕ → (ℕ → ℕ) → ℕ
weight_beside s places e = count (word_length s) (λ j. not (is_listed places j) && not (eqb (e j) 0))

-- at how many positions that are not listed v is not the word that came
unfoldable pub strays : Shape → List ℕ → List ℕ → List ℕ → ℕ
strays s word places v = count (word_length s) (λ j. not (is_listed places j) && not (eqb (at v j) (at word j)))

-- v is a codeword, and that at no more than k of these positions
pub record Close (s : Shape) (k : ℕ) (word places v : List ℕ) : Type 0 where
  pub codeword : Codeword s v
  pub few : strays s word places v ≤ k

-- within reach of the list
abbrev pub Reaches : Shape → List ℕ → List ℕ → List ℕ → Type 0
Reaches s word places v = Close s (reach s (length places)) word places v

-- one codeword reaches, and no more: it stands in the lent word, and the answer is at how many positions it is not what came
pub record Restored (s : Shape) (word places word' : List ℕ) (r : Result ℕ Refusal) : Type 0 where
  pub reaches : Reaches s word places word'
  pub only : (v : List ℕ) → Reaches s word places v → v ≡ word'
  pub answer : r ≡ Ok (differences s word' word)
  pub number : answer_number r ≡ differences s word' word

-- none reaches: 20
pub record OutOfReach (s : Shape) (word places word' : List ℕ) (r : Result ℕ Refusal) : Type 0 where
  pub none : (v : List ℕ) → Reaches s word places v → ⊥
  pub answer : r ≡ Err Refusal.Far
  pub number : answer_number r ≡ 2 ^ 31 + 20
  pub left : word' ≡ word

-- more than one reaches: 14
pub record SeveralReach (s : Shape) (word places word' : List ℕ) (r : Result ℕ Refusal) : Type 0 where
  pub one : List ℕ
  pub another : List ℕ
  pub reaches : Reaches s word places one
  pub reaches_too : Reaches s word places another
  pub different : one ≡ another → ⊥
  pub answer : r ≡ Err Refusal.Ambiguous
  pub number : answer_number r ≡ 2 ^ 31 + 14
  pub left : word' ≡ word

-- one of the three
abbrev pub Judgement : Shape → List ℕ → List ℕ → List ℕ → Result ℕ Refusal → Type 0
Judgement s word places word' r = Restored s word places word' r ⊎ (OutOfReach s word places word' r ⊎ SeveralReach s word places word' r)

-- what restoring answers and leaves
abbrev pub Recovering : Shape → List ℕ → List ℕ → List ℕ → List ℕ → List ℕ → Result ℕ Refusal → Type 0
Recovering s word places scratch word' scratch' r = TestedFirst (Judgement s word places word' r) s word places scratch word' scratch' r
