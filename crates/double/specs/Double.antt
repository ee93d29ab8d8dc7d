-- Two wrong symbols, masked or not (RULES 3.3; request N6).
use Rattle.std.specs.Prelude.{Bool, not, ◌&&◌, List, ℕ, eqb, leb, Result}
use Rattle.parity.specs.Count.{any, first_value}
use Rattle.gtb.specs.declared.Shape.{Shape}
use Rattle.gtb.specs.declared.Refusal.{Refusal}
use Rattle.gtb.specs.Shape.{word_length}
use Rattle.gtb.specs.Square.{silent_test}
use Rattle.distance.specs.Distance.{Near}
use Rattle.correction.specs.Error.{on_check, off}
use Rattle.correction.specs.Reading.{Reader, restored_by, read_of, Reads}

-- at most one symbol is wrong: what some position's row check shows, taken off there, silences every check
unfoldable pub single : Shape → (ℕ → ℕ) → Bool
single s f = any (word_length s) (λ i. silent_test s (off f i (on_check s f i 0)))

-- the change at position j: the first nonzero value on one of its checks that, taken off there, leaves at most one wrong symbol; else 0
unfoldable pub two_at : Shape → (ℕ → ℕ) → ℕ → ℕ
two_at s f j = first_value s.n (λ t. not (eqb (on_check s f j t) 0) && single s (off f j (on_check s f j t))) (on_check s f j)

-- test 16: three directions or more
abbrev pub three_directions : Shape → Bool
three_directions s = leb 3 s.n

-- at most two positions change, and the changes silence every check; otherwise 17
abbrev pub two : Reader
two = record {
  found = λ s f j. not (eqb (two_at s f j) 0);
  change = two_at;
  bound = λ s. 2;
  refusal = Refusal.BeyondTwo;
  suits = three_directions;
}

abbrev pub two_of : Shape → List ℕ → Result ℕ Refusal
two_of = read_of two

abbrev pub two_restored : Shape → List ℕ → List ℕ
two_restored = restored_by two

-- reading two wrong symbols: a codeword differs from the word that came in at most two
abbrev pub ReadingTwo : Shape → List ℕ → List ℕ → Result ℕ Refusal → Type 0
ReadingTwo = Reads two (λ s. Near s 2)
