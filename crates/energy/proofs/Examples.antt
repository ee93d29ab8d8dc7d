-- Bills computed from the definitions, so that a definition that rounds otherwise fails here.
use mathlib.Core.Path.{◌≡◌, refl}
use Prim.Native.Nat.{◌-◌, ◌^◌}
use lib.ListN.{replicate}
use Rattle.parity.specs.Count.{sum}
use Rattle.gtb.specs.declared.Refusal.{Refusal}
use Rattle.std.specs.Prelude.{Ok, Err}
use Rattle.energy.specs.Energy.{millis, due}

-- a thousandth for each of 255 functions: one picojoule, not 255 and not none
pub once_example : due (millis (λ f. 1) (replicate 256 1)) ≡ Ok 1
unfolding due millis sum
once_example = refl

-- 1000 thousandths are 1, one more makes 2; the last sum that is billed, and the first that is not
pub whole_example : due 1000 ≡ Ok 1
unfolding due
whole_example = refl

pub part_example : due 1001 ≡ Ok 2
unfolding due
part_example = refl

pub last_example : due (2 ^ 64 - 1) ≡ Ok 18446744073709552
unfolding due
last_example = refl

pub over_example : due (2 ^ 64) ≡ Err Refusal.Bill
unfolding due
over_example = refl
