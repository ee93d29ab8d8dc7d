-- Reading by vote: majority decoding (RULES 3.2; request N4).
use Rattle.std.specs.Prelude.{true, not, ◌&&◌, List, ℕ, ◌*◌, ◌/◌, eqb, ltb, Result}
use Rattle.parity.specs.Count.{first_value}
use Rattle.gtb.specs.declared.Shape.{Shape}
use Rattle.gtb.specs.declared.Refusal.{Refusal}
use Rattle.distance.specs.Distance.{Near}
use Rattle.correction.specs.Error.{on_check, shows}
use Rattle.correction.specs.Reading.{Reader, restored_by, read_of, Reads}

-- the nonzero value that strictly more than half of the n values are, or 0 if there is none
unfoldable pub majority : ℕ → (ℕ → ℕ) → ℕ
majority n v = first_value n (λ t. not (eqb (v t) 0) && ltb n (2 * shows n v (v t))) v

-- the change at position j: what more than half of its checks show
unfoldable pub voted_at : Shape → (ℕ → ℕ) → ℕ → ℕ
voted_at s f j = majority s.n (on_check s f j)

-- at most n/2 positions change, and the changes silence every check; otherwise 15
abbrev pub vote : Reader
vote = record {
  found = λ s f j. not (eqb (voted_at s f j) 0);
  change = voted_at;
  bound = λ s. s.n / 2;
  refusal = Refusal.NoMajority;
  suits = λ s. true;
}

abbrev pub majority_of : Shape → List ℕ → Result ℕ Refusal
majority_of = read_of vote

abbrev pub voted : Shape → List ℕ → List ℕ
voted = restored_by vote

-- reading by vote: a codeword differs from the word that came in at most n/2 symbols
abbrev pub Voting : Shape → List ℕ → List ℕ → Result ℕ Refusal → Type 0
Voting = Reads vote (λ s. Near s (s.n / 2))
