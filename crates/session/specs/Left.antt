-- The word that an arrival leaves (RULES 5), said of codewords and pages alone.
use Rattle.std.specs.Prelude.{◌≡◌, List, ℕ, Ok}
use Rattle.gtb.specs.declared.Shape.{Shape}
use Rattle.gtb.specs.declared.Refusal.{Refusal}
use Rattle.gtb.specs.Square.{Codeword}
use Rattle.gtb.specs.Positions.{extract_of}
use Rattle.distance.specs.Distance.{differences}
use Rattle.page.specs.Page.{page_of}
use Rattle.session.specs.declared.Outcome.{Outcome}
use Rattle.session.specs.declared.Outcome.TheVariants.{Taken, Again, Refused}

-- a codeword that differs from what came in k places, with the page of this number in its data digits
pub record Restored (s : Shape) (word word' : List ℕ) (number k : ℕ) : Type 0 where
  pub codeword : Codeword s word'
  pub changed : differences s word' word ≡ k
  pub marks : ℕ
  pub page : page_of s (extract_of s word') ≡ Ok (number, marks)

-- the word after each answer
pub record Leaves (s : Shape) (word word' : List ℕ) (r : Outcome) : Type 0 where
  pub refused : (e : Refusal) → r ≡ Refused e → word' ≡ word
  pub taken : (number k : ℕ) → r ≡ Taken number k → Restored s word word' number k
  pub again : (number k : ℕ) → r ≡ Again number k → Restored s word word' number k
