-- The nearest codeword: any damage to at most n - 1 symbols, masked or not (RULES 3.5).
use Rattle.std.specs.Prelude.{Bool, true, not, ◌&&◌, ◌||◌, List, ℕ, zero, suc, ◌-◌, eqb, Result}
use Rattle.parity.specs.Count.{any, lowest_not, first_value}
use Rattle.gtb.specs.declared.Shape.{Shape}
use Rattle.gtb.specs.declared.Refusal.{Refusal}
use Rattle.gtb.specs.Shape.{word_length}
use Rattle.gtb.specs.Square.{silent_test}
use Rattle.distance.specs.Distance.{Near}
use Rattle.correction.specs.Error.{on_check, off}
use Rattle.correction.specs.Reading.{Reader, restored_by, read_of, Reads}

-- at most k changes, each by what a check on its position shows then, silence every check
unfoldable pub reaches : Shape → ℕ → (ℕ → ℕ) → Bool
reaches s zero f = silent_test s f
reaches s (suc k) f = reaches s k f || any (word_length s) (λ j. any s.n (λ t. reaches s k (off f j (on_check s f j t))))

-- the least such number below n, or n
unfoldable pub steps : Shape → (ℕ → ℕ) → ℕ
steps s f = lowest_not s.n (λ k. not (reaches s k f))

-- the change at position j: the first nonzero value on one of its checks that, taken off there, leaves a step less; else 0
unfoldable pub nearest_at : Shape → (ℕ → ℕ) → ℕ → ℕ
nearest_at s f j = first_value s.n (λ t. not (eqb (on_check s f j t) 0) && reaches s (steps s f - 1) (off f j (on_check s f j t))) (on_check s f j)

-- at most n - 1 positions change, and the changes silence every check; otherwise 20
abbrev pub nearest : Reader
nearest = record {
  found = λ s f j. not (eqb (nearest_at s f j) 0);
  change = nearest_at;
  bound = λ s. s.n - 1;
  refusal = Refusal.Far;
  suits = λ s. true;
}

abbrev pub nearest_of : Shape → List ℕ → Result ℕ Refusal
nearest_of = read_of nearest

abbrev pub nearest_word : Shape → List ℕ → List ℕ
nearest_word = restored_by nearest

-- reading the nearest codeword: one differs from the word that came in at most n - 1 symbols
abbrev pub Restoring : Shape → List ℕ → List ℕ → Result ℕ Refusal → Type 0
Restoring = Reads nearest (λ s. Near s (s.n - 1))
