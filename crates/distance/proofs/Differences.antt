-- Where two codewords differ.
use mathlib.Core.Path.{◌≡◌, ap₂, ◌∙◌}
use mathlib.Core.Bool.{Bool, true, not}
use mathlib.Core.List.{List}
use Prim.Native.Nat.{ℕ, ◌<◌}
use native.Mathlib.Omega.{arith}
use lib.Dec.{eqb}
use Rattle.parity.specs.Xor.{◌⊕◌}
use Rattle.parity.proofs.Xors.{self}
use Rattle.parity.proofs.Pigeon.{some_passes}
use Rattle.gtb.specs.declared.Shape.{Shape}
use Rattle.gtb.specs.Shape.{Lawful, word_length}
use Rattle.gtb.specs.Square.{at, Silent, Codeword}
use Rattle.gtb.proofs.Rows.{syndrome_linear}
use Rattle.gtb.proofs.Crossing.{codeword_distance}

-- the places where two words differ
abbrev pub differs : List ℕ → List ℕ → ℕ → Bool
differs v w j = not (eqb (at v j) (at w j))

-- every check of the difference is zero
pub difference_silent : (s : Shape) (v w : List ℕ) → Codeword s v → Codeword s w → Silent s (λ j. at v j ⊕ at w j)
difference_silent s v w hv hw = record {
  silent = λ t L lt l.
      syndrome_linear s (at v) (at w) t L ∙ ap₂ (λ (x y : ℕ). x ⊕ y) (hv.checks.silent t L lt l) (hw.checks.silent t L lt l) ∙ self 0;
}

pub some_differs : (s : Shape) → Lawful s → (v w : List ℕ) → Codeword s v → Codeword s w → (v ≡ w → ⊥)
    → (j : ℕ) × (j < word_length s) × (differs v w j ≡ true)
some_differs s law v w hv hw ne = some_passes (word_length s) (differs v w) (omega (arith, codeword_distance s law v w hv hw ne))
