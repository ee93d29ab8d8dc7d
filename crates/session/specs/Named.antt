-- The ways of reading that an arrival may name, as the code has them past test 1.
use Rattle.std.specs.Prelude.{◌≡◌, ℕ, Result, Ok, Err, MatchResult}
use Rattle.gtb.specs.declared.Refusal.{Refusal}
use Rattle.session.specs.declared.way.Way.{Way}
use Rattle.session.specs.declared.way.Way.TheVariants.{Clean, Vote, Two}

-- the number of each
abbrev pub number_of : Way → ℕ
number_of Clean = 0
number_of Vote = 1
number_of Two = 2

-- the answer to tests of an arrival that names way k: that way where they are passed, else their refusal
abbrev pub Admits : Result (Unit {0}) Refusal → ℕ → Result Way Refusal → Type 0
Admits tests k r = MatchResult r (λ w. (tests ≡ Ok tt) × (number_of w ≡ k)) (λ e. tests ≡ Err e)
