-- The tests of a lent word, past those of the shape (RULES 6).
use Rattle.std.specs.Prelude.{List, ℕ, eqb, length, Result, Ok, Err}
use Rattle.gtb.specs.declared.Shape.{Shape}
use Rattle.gtb.specs.declared.Refusal.{Refusal}
use Rattle.gtb.specs.Shape.{word_length}
use Rattle.gtb.specs.Square.{narrow}
use Rattle.gtb.specs.Answer.{unless}

-- tests 2 and 3
unfoldable pub word_status : Shape → List ℕ → Result (Unit {0}) Refusal
word_status s w = unless (eqb (length w) (word_length s)) (Err Refusal.Length) (unless (narrow s.b w) (Err Refusal.Width) (Ok tt))
