-- What writing and data extraction give and leave (RULES 2).
use Rattle.std.specs.Prelude.{◌≡◌, ◌&&◌, List, ℕ, eqb, length, replicate, Result, Ok, Err}
use Rattle.gtb.specs.declared.Shape.{Shape}
use Rattle.gtb.specs.declared.Refusal.{Refusal}
use Rattle.gtb.specs.Shape.{lawful, shape_refusal, word_length, info_length, scratch_length}
use Rattle.gtb.specs.Square.{narrow}
use Rattle.gtb.specs.Positions.{extract_of, Encodes}
use Rattle.gtb.specs.Answer.{unless, scratch_after}

-- both entries test 1, 18, 2, 3; the digits that 3 looks at are those that come in
unfoldable pub status_of : Shape → List ℕ → List ℕ → List ℕ → List ℕ → Result (Unit {0}) Refusal
status_of s symbols scratch word given =
    unless (lawful s) (Err (shape_refusal s))
    (unless (eqb (length symbols) (info_length s) && eqb (length scratch) (scratch_length s) && eqb (length word) (word_length s)) (Err Refusal.Length)
    (unless (narrow s.b given) (Err Refusal.Width) (Ok tt)))

-- writing: what is answered, and what stands in the scratch and the word afterwards
pub record Encoding (s : Shape) (symbols scratch word scratch' word' : List ℕ) (r : Result (Unit {0}) Refusal) : Type 0 where
  pub answer : r ≡ status_of s symbols scratch word symbols
  pub refused : (e : Refusal) → r ≡ Err e → (word' ≡ word) × (scratch' ≡ scratch_after e scratch)
  pub done : r ≡ Ok tt → Encodes s symbols word' × (scratch' ≡ replicate (length scratch) 0)

-- data extraction: the same of the scratch and the lent symbols
pub record Extraction (s : Shape) (word scratch symbols scratch' symbols' : List ℕ) (r : Result (Unit {0}) Refusal) : Type 0 where
  pub answer : r ≡ status_of s symbols scratch word word
  pub refused : (e : Refusal) → r ≡ Err e → (symbols' ≡ symbols) × (scratch' ≡ scratch_after e scratch)
  pub done : r ≡ Ok tt → (symbols' ≡ extract_of s word) × (scratch' ≡ replicate (length scratch) 0)
