-- The word of the bench value P4 with damage: two equal errors in a row are one too many, and one error is undone.
use mathlib.Core.Path.{◌≡◌, refl}
use mathlib.Core.List.{[], ◌∷◌}
use Rattle.parity.specs.Xor.{◌⊕◌, xor_sum, when}
use Rattle.parity.specs.Count.{bit, sum, count, any, all, first_value}
use Rattle.parity.specs.Lists.{tabulate}
use Rattle.gtb.specs.declared.Refusal.{Refusal}
use Rattle.gtb.specs.Shape.{orders, is_order, standard, regular, fits_slope, sloped, lawful, slope_of}
use Rattle.gtb.specs.Square.{line_of, narrow, syndrome, silent_test}
use Rattle.std.specs.Prelude.{Ok, Err}
use Rattle.correction.specs.Error.{shows, mended}
use Rattle.correction.specs.Reading.{changes_by, restored_by, accepted_by, read_of}
use Rattle.majority.specs.Majority.{majority, voted_at, majority_of, voted}

-- P6: 7 on digits 3 and 4, where n/2 is 1
pub two_changed : majority_of (standard 3 3 3) (3 ∷ 6 ∷ 5 ∷ 2 ∷ 4 ∷ 6 ∷ 6 ∷ 5 ∷ 3 ∷ []) ≡ Err Refusal.NoMajority
unfolding ◌⊕◌ xor_sum when bit sum count any all first_value tabulate orders is_order regular fits_slope sloped lawful slope_of line_of narrow syndrome silent_test mended shows majority voted_at changes_by restored_by accepted_by read_of
two_changed = refl

-- 7 on digit 3 alone
pub one_changed : majority_of (standard 3 3 3) (3 ∷ 6 ∷ 5 ∷ 2 ∷ 3 ∷ 6 ∷ 6 ∷ 5 ∷ 3 ∷ []) ≡ Ok 1
unfolding ◌⊕◌ xor_sum when bit sum count any all first_value tabulate orders is_order regular fits_slope sloped lawful slope_of line_of narrow syndrome silent_test mended shows majority voted_at changes_by restored_by accepted_by read_of
one_changed = refl

pub one_restored : voted (standard 3 3 3) (3 ∷ 6 ∷ 5 ∷ 2 ∷ 3 ∷ 6 ∷ 6 ∷ 5 ∷ 3 ∷ []) ≡ 3 ∷ 6 ∷ 5 ∷ 5 ∷ 3 ∷ 6 ∷ 6 ∷ 5 ∷ 3 ∷ []
unfolding ◌⊕◌ xor_sum when bit sum count any all first_value tabulate slope_of line_of syndrome mended shows majority voted_at restored_by
one_restored = refl
