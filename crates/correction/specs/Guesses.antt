-- What a search sees in the table of the syndromes, `syn` here: check t × q + L at that place.
use Rattle.std.specs.Prelude.{◌≡◌, true, not, cond, ◌&&◌, List, Option, Some, None, ℕ, zero, suc, ◌+◌, ◌*◌, ◌/◌, ◌%◌, ◌<◌, eqb, leb}
use Rattle.gtb.specs.declared.Shape.{Shape}
use Rattle.gtb.specs.Shape.{word_length}
use Rattle.gtb.specs.Square.{line_of, at}
use Rattle.correction.specs.Error.{shows}
use Rattle.correction.specs.Steps.{quiet}

-- a check that is not silent, or none
abbrev pub NotSilent : Shape → List ℕ → Option ℕ → Type 0
NotSilent s syn (Some check) = (check < s.n * s.q) × (at syn check ≡ 0 → ⊥)
NotSilent s syn None = quiet s syn ≡ true

-- how many lines of direction t are silent
abbrev pub silent_lines : Shape → List ℕ → ℕ → ℕ
silent_lines s syn t = shows s.q (λ L. at syn (t * s.q + L)) 0

-- in some direction more than k lines are not
pub record ManyNotSilent (s : Shape) (syn : List ℕ) (k : ℕ) : Type 0 where
  pub direction : ℕ
  pub below : direction < s.n
  pub many : silent_lines s syn direction + k < s.q

-- j is the position in a row on a line of direction u
pub record OnRow (s : Shape) (u row line j : ℕ) : Type 0 where
  pub below : j < word_length s
  pub row_of : line_of s 0 j ≡ row
  pub line_is : line_of s u j ≡ line

-- which of the q positions on its line of direction t position p is
unfoldable pub number_on : Shape → ℕ → ℕ → ℕ
number_on s zero p = p % s.q
number_on s (suc t) p = p / s.q

-- position j is number i on line L of direction t
pub record Placed (s : Shape) (t L i j : ℕ) : Type 0 where
  pub below : j < word_length s
  pub only : (p : ℕ) → p < word_length s → line_of s t p ≡ L → number_on s t p ≡ i → p ≡ j

-- of n values the one at t, if it is not 0, none before it is it, and at least `least` of them all are; else 0
unfoldable pub guessed : ℕ → (ℕ → ℕ) → ℕ → ℕ → ℕ
guessed n v least t = cond (not (eqb (v t) 0) && eqb (shows t v (v t)) 0 && leb least (shows n v (v t))) (v t) 0
