-- Clean reading by its equation, and its contract (RULES 3).
use Rattle.std.specs.Prelude.{Bool, true, not, ◌&&◌, List, ℕ, ◌-◌, eqb, Result}
use Rattle.parity.specs.Xor.{when}
use Rattle.parity.specs.Count.{any, all, first_value}
use Rattle.gtb.specs.declared.Shape.{Shape}
use Rattle.gtb.specs.declared.Refusal.{Refusal}
use Rattle.gtb.specs.Shape.{word_length}
use Rattle.gtb.specs.Square.{line_of}
use Rattle.correction.specs.Error.{on_check}
use Rattle.correction.specs.Reading.{Reader, restored_by, read_of, Reads}
use Rattle.decoder.specs.Damage.{Explains}

-- all n checks on position j are nonzero
unfoldable pub located : Shape → (ℕ → ℕ) → ℕ → Bool
located s f j = all s.n (λ t. not (eqb (on_check s f j t) 0))

-- no other located position is on the check of direction t on j
unfoldable pub alone : Shape → (ℕ → ℕ) → ℕ → ℕ → Bool
alone s f j t = not (any (word_length s) (λ i. located s f i && not (eqb i j) && eqb (line_of s t i) (line_of s t j)))

-- the error at j: of a located position what the first check that it has to itself shows
unfoldable pub error_at : Shape → (ℕ → ℕ) → ℕ → ℕ
error_at s f j = when (located s f j) (first_value s.n (alone s f j) (on_check s f j))

-- at most n - 1 are located, and taking their errors off silences every check; otherwise 4
abbrev pub clean : Reader
clean = record { found = located; change = error_at; bound = λ s. s.n - 1; refusal = Refusal.Uncorrectable; suits = λ s. true }

abbrev pub decode_of : Shape → List ℕ → Result ℕ Refusal
decode_of = read_of clean

abbrev pub restored : Shape → List ℕ → List ℕ
restored = restored_by clean

-- clean reading: a codeword and clean damage explain the word that came
abbrev pub Decoding : Shape → List ℕ → List ℕ → Result ℕ Refusal → Type 0
Decoding = Reads clean Explains
