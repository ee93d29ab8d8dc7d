-- Errors on a word, and the checks on a position (RULES 3).
use Rattle.std.specs.Prelude.{not, List, ℕ, ◌+◌, ◌*◌, eqb, length}
use Rattle.parity.specs.Xor.{◌⊕◌, when}
use Rattle.parity.specs.Count.{count}
use Rattle.parity.specs.Lists.{tabulate}
use Rattle.gtb.specs.declared.Shape.{Shape}
use Rattle.gtb.specs.Shape.{word_length}
use Rattle.gtb.specs.Square.{line_of, at, syndrome}

-- the number of the check of direction t on position j
abbrev pub check_of : Shape → ℕ → ℕ → ℕ
check_of s j t = t * s.q + line_of s t j

-- the syndrome of the check on position j in direction t
abbrev pub on_check : Shape → (ℕ → ℕ) → ℕ → ℕ → ℕ
on_check s f j t = syndrome s f t (line_of s t j)

-- how many of the first n values are x
unfoldable pub shows : ℕ → (ℕ → ℕ) → ℕ → ℕ
shows n v x = count n (λ t. eqb (v t) x)

-- how many error symbols are nonzero
unfoldable pub weight : Shape → (ℕ → ℕ) → ℕ
weight s e = count (word_length s) (λ j. not (eqb (e j) 0))

-- the error e XORed onto v
unfoldable pub damaged : List ℕ → List ℕ → List ℕ
damaged v e = tabulate (length v) (λ j. at v j ⊕ at e j)

-- the word with the error that a function gives taken off
unfoldable pub mended : Shape → List ℕ → (ℕ → ℕ) → List ℕ
mended s w error = tabulate (word_length s) (λ j. at w j ⊕ error j)

-- the symbols f with x XORed onto position i
unfoldable pub off : (ℕ → ℕ) → ℕ → ℕ → ℕ → ℕ
off f i x j = f j ⊕ when (eqb j i) x
