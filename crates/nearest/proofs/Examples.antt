-- Two wrong symbols that cancel on their row are restored; a word half way between two codewords is refused. Computed from the definitions.
use mathlib.Core.Path.{◌≡◌, refl}
use mathlib.Core.List.{[], ◌∷◌}
use Rattle.parity.specs.Xor.{◌⊕◌, xor_sum, when}
use Rattle.parity.specs.Count.{bit, sum, count, any, all, lowest_not, first_value}
use Rattle.parity.specs.Lists.{tabulate}
use Rattle.gtb.specs.declared.Refusal.{Refusal}
use Rattle.gtb.specs.Shape.{standard, orders, is_order, lawful, regular, sloped, fits_slope, slope_of}
use Rattle.gtb.specs.Square.{line_of, narrow, syndrome, silent_test}
use Rattle.std.specs.Prelude.{Ok, Err}
use Rattle.correction.specs.Error.{mended, off}
use Rattle.correction.specs.Reading.{changes_by, restored_by, accepted_by, read_of}
use Rattle.double.proofs.Examples.{stored, received}
use Rattle.nearest.specs.Nearest.{reaches, steps, nearest_at, nearest_of, nearest_word}

-- P6
pub masked_pair : (nearest_of (standard 3 3 3) received ≡ Ok 2) × (nearest_word (standard 3 3 3) received ≡ stored)
unfolding read_of restored_by accepted_by changes_by nearest_at steps reaches off mended tabulate lawful regular sloped fits_slope is_order orders narrow silent_test syndrome lowest_not first_value all any bit sum count xor_sum when line_of slope_of ◌⊕◌
masked_pair = (refl, refl)

-- three symbols from the zero word, and as many from 0 1 1 1 0 1 1 1 0
pub half_refused : nearest_of (standard 3 3 1) (0 ∷ 1 ∷ 1 ∷ 1 ∷ 0 ∷ 0 ∷ 0 ∷ 0 ∷ 0 ∷ []) ≡ Err Refusal.Far
unfolding read_of restored_by accepted_by changes_by nearest_at steps reaches off mended tabulate lawful regular sloped fits_slope is_order orders narrow silent_test syndrome lowest_not first_value all any bit sum count xor_sum when line_of slope_of ◌⊕◌
half_refused = refl
