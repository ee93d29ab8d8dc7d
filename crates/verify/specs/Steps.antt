-- What the private steps of checking establish.
use Rattle.std.specs.Prelude.{Bool, not, List, ℕ, eqb}
use Rattle.parity.specs.Count.{any}
use Rattle.gtb.specs.declared.Shape.{Shape}
use Rattle.gtb.specs.Square.{at}
use Rattle.correction.specs.Error.{check_of}
use Rattle.verify.specs.Verify.{difference}

-- the words differ at position j
unfoldable pub differs : List ℕ → List ℕ → ℕ → Bool
differs w v j = not (eqb (difference w v j) 0)

-- by the table, some check on position j is silent
unfoldable pub is_masked : Shape → List ℕ → ℕ → Bool
is_masked s syn j = any s.n (λ t. eqb (at syn (check_of s j t)) 0)
