-- `host::figures::unmarked_in` meets its contract: of the marks so far each is no, and counted, or yes.
use mathlib.Core.Path.{◌≡◌, refl, ap}
use mathlib.Core.Bool.{Bool, true, false, not}
use mathlib.Core.List.{map}
use Prim.Native.Nat.{ℕ, ◌+◌}
use native.Mathlib.Omega.{arith}
use lib.Dec.{eqb}
use lib.ListN.{length, get_or, get_or-map, length-map}
use mir.Val.{bool_byte}
use Rattle.parity.specs.Count.{bit, count}
use Rattle.parity.proofs.Sums.{count_zero, count_more}
use Rattle.session.specs.Session.{marked}
use Rattle.host.specs.Crossing.{is_yes}
use Rattle.host.proofs.figures.unmarked_in.Goals as goal

-- a mark is no or yes
one : (no : Bool) → bool_byte no + bit (not no) ≡ 1
unfolding bit
one true = refl
one false = refl

pub loop-mark-init : goal.loop-mark-init
loop-mark-init c = omega (arith, count_zero (marked (map is_yes c.args.marks.now)))

pub overflow_add-unmarked : goal.overflow_add-unmarked
overflow_add-unmarked c = omega (arith, c.loop-mark.invariant, one (eqb (get_or c.args.marks.now c.loop-mark.mark-index 0) 0))

pub loop-mark-preserved : goal.loop-mark-preserved
loop-mark-preserved c =
    let marks = c.args.marks.now in
    let i = c.loop-mark.mark-index in
    omega (arith, c.loop-mark.invariant, count_more i (marked (map is_yes marks)), ap bit (get_or-map is_yes marks i 0), one (eqb (get_or marks i 0) 0))

pub returns : goal.returns
returns c =
    let marks = c.args.marks.now in
    let end : c.loop-mark.mark-index ≡ length (map is_yes marks) = omega (arith, length-map marks is_yes) in
    omega (arith, c.loop-mark.invariant, ap (λ (n : ℕ). count n (marked (map is_yes marks))) end)
