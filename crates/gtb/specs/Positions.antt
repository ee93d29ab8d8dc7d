-- Information and parity positions (RULES 2).
use Rattle.std.specs.Prelude.{◌≡◌, List, Bool, true, not, ◌&&◌, ◌↔◌, ℕ, ◌+◌, ◌-◌, ◌*◌, ◌/◌, ◌%◌, ◌<◌, eqb, leb}
use Rattle.parity.specs.Xor.{xor_sum, when}
use Rattle.parity.specs.Count.{bit, count}
use Rattle.parity.specs.Lists.{tabulate}
use Rattle.gtb.specs.declared.Shape.{Shape}
use Rattle.gtb.specs.Shape.{word_length, info_length}
use Rattle.gtb.specs.Square.{line_of, at, Codeword}

-- entry of the check matrix: 1 if position j is on line L of direction t, else 0
abbrev pub column : Shape → ℕ → ℕ → ℕ → ℕ
column s j t L = bit (eqb (line_of s t j) L)

-- column j is a sum, modulo 2, of the chosen ones among the columns at lower places: j is a data place; otherwise j is a check place
pub record Dependent (s : Shape) (j : ℕ) : Type 0 where
  pub chosen : ℕ → Bool
  pub sum : (t L : ℕ) → t < s.n → L < s.q → column s j t L ≡ xor_sum j (λ i. when (chosen i) (column s i t L))

-- information symbol k stands in row n - 1 + k div (q - 1), column 1 + k mod (q - 1)
unfoldable pub info_position : Shape → ℕ → ℕ
info_position s k = (s.n - 1 + k / (s.q - 1)) * s.q + (1 + k % (s.q - 1))

-- row n - 1 or below it, and not column 0
unfoldable pub is_information : Shape → ℕ → Bool
is_information s j = leb (s.n - 1) (j / s.q) && leb 1 (j % s.q)

-- the information symbols stand, in rising order, on exactly the Dependent positions, K of them; the others are n × q - (n - 1)
pub record InformationPositions (s : Shape) : Type 0 where
  pub lower : (k : ℕ) → k < info_length s → info_position s k < word_length s
  pub rising : (k l : ℕ) → k < l → l < info_length s → info_position s k < info_position s l
  pub dependent : (k : ℕ) → k < info_length s → Dependent s (info_position s k)
  pub complete : (j : ℕ) → j < word_length s → Dependent s j → (k : ℕ) × (k < info_length s) × (info_position s k ≡ j)
  pub exact : (j : ℕ) → j < word_length s → (is_information s j ≡ true) ↔ Dependent s j
  pub information : count (word_length s) (is_information s) ≡ info_length s
  pub parity : count (word_length s) (λ j. not (is_information s j)) ≡ s.n * s.q - (s.n - 1)

-- data extraction: the symbols on the information positions, in rising order
unfoldable pub extract_of : Shape → List ℕ → List ℕ
extract_of s w = tabulate (info_length s) (λ k. at w (info_position s k))

-- w is a stored word with these data digits
pub record Encodes (s : Shape) (symbols w : List ℕ) : Type 0 where
  pub codeword : Codeword s w
  pub information : extract_of s w ≡ symbols
