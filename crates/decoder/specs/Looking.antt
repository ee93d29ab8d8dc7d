-- How many of a position's checks reading looks at (RULES 3, request N3).
use Rattle.std.specs.Prelude.{◌≡◌, true, false, not, cond, ◌&&◌, List, ◌↔◌, ℕ, ◌+◌, ◌-◌, ◌<◌, eqb, length, Result, Ok, Err}
use Rattle.parity.specs.Count.{lowest_not}
use Rattle.parity.specs.Lists.{tabulate}
use Rattle.gtb.specs.declared.Shape.{Shape}
use Rattle.gtb.specs.declared.Refusal.{Refusal}
use Rattle.gtb.specs.Shape.{lawful, shape_refusal, word_length}
use Rattle.gtb.specs.Square.{at, narrow}
use Rattle.gtb.specs.Answer.{unless}
use Rattle.correction.specs.Error.{on_check}
use Rattle.decoder.specs.Decode.{located}

-- the checks on position j that judging looks at: in rising direction up to and with the first silent one, or all n
unfoldable pub looked_at : Shape → (ℕ → ℕ) → ℕ → ℕ
looked_at s f j = cond (located s f j) s.n (lowest_not s.n (λ t. not (eqb (on_check s f j t) 0)) + 1)

-- what the number says of a position: located exactly if all n were looked at and none is silent; otherwise the last one looked at is
-- the first silent one
pub record LookedUpTo (s : Shape) (f : ℕ → ℕ) (j : ℕ) : Type 0 where
  pub exact : (located s f j ≡ true) ↔ ((looked_at s f j ≡ s.n) × ((t : ℕ) → t < s.n → on_check s f j t ≡ 0 → ⊥))
  pub before : (t : ℕ) → t + 1 < looked_at s f j → on_check s f j t ≡ 0 → ⊥
  pub short : looked_at s f j < s.n → on_check s f j (looked_at s f j - 1) ≡ 0
  pub last : located s f j ≡ false → on_check s f j (looked_at s f j - 1) ≡ 0

-- tests 1, 18, 2, 3; the list has a place for each digit
unfoldable pub looking_of : Shape → List ℕ → List ℕ → Result (Unit {0}) Refusal
looking_of s w looked =
    unless (lawful s) (Err (shape_refusal s))
    (unless (eqb (length w) (word_length s) && eqb (length looked) (word_length s)) (Err Refusal.Length)
    (unless (narrow s.b w) (Err Refusal.Width) (Ok tt)))

-- the list then holds the number of each position; a refusal leaves it as lent
abbrev pub looked_left : Shape → List ℕ → List ℕ → Result (Unit {0}) Refusal → List ℕ
looked_left s w looked (Ok tt) = tabulate (word_length s) (looked_at s (at w))
looked_left s w looked (Err e) = looked

pub record Looking (s : Shape) (w looked looked' : List ℕ) (r : Result (Unit {0}) Refusal) : Type 0 where
  pub answer : r ≡ looking_of s w looked
  pub left : looked' ≡ looked_left s w looked r
