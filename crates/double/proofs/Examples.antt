-- P6: two wrong symbols that cancel on their row, computed from the definitions.
use mathlib.Core.Path.{◌≡◌, refl}
use mathlib.Core.List.{List, [], ◌∷◌}
use Prim.Native.Nat.{ℕ}
use Rattle.parity.specs.Xor.{◌⊕◌, xor_sum, when}
use Rattle.parity.specs.Count.{bit, sum, count, any, all, first_value}
use Rattle.parity.specs.Lists.{tabulate}
use Rattle.gtb.specs.Shape.{standard, orders, is_order, lawful, regular, sloped, fits_slope, slope_of}
use Rattle.gtb.specs.Square.{line_of, narrow, syndrome, silent_test}
use Rattle.std.specs.Prelude.{Ok}
use Rattle.correction.specs.Error.{mended, off}
use Rattle.correction.specs.Reading.{changes_by, restored_by, accepted_by, read_of}
use Rattle.double.specs.Double.{single, two_at, two_of, two_restored}

abbrev pub stored : List ℕ
stored = 3 ∷ 6 ∷ 5 ∷ 5 ∷ 3 ∷ 6 ∷ 6 ∷ 5 ∷ 3 ∷ []

-- 7 on symbols 3 and 4
abbrev pub received : List ℕ
received = 3 ∷ 6 ∷ 5 ∷ (5 ⊕ 7) ∷ (3 ⊕ 7) ∷ 6 ∷ 6 ∷ 5 ∷ 3 ∷ []

pub masked_pair : (two_of (standard 3 3 3) received ≡ Ok 2) × (two_restored (standard 3 3 3) received ≡ stored)
unfolding read_of restored_by accepted_by changes_by two_at single off mended tabulate lawful regular sloped fits_slope is_order orders narrow silent_test syndrome first_value all any bit sum count xor_sum when line_of slope_of ◌⊕◌
masked_pair = (refl, refl)
