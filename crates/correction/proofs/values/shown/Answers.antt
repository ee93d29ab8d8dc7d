-- `correction::values::shown` meets its contract. The loop's invariant is the contract for the first t values.
use mathlib.Core.Path.{◌≡◌, ◌∙◌}
use Prim.Native.Nat.{◌+◌, ◌<◌}
use native.Mathlib.Nat.{le_antisymm}
use native.Mathlib.Omega.{arith}
use borrow.Author.Rules.{rules}
use Rattle.gtb.specs.Square.{at}
use Rattle.correction.specs.Error.{shows}
use Rattle.correction.proofs.Showing.{number_of, shows_zero, shows_more, shows_le}
use Rattle.correction.proofs.values.shown.Goals as goal

pub loop-t-init : goal.loop-t-init
loop-t-init c = (search rules, shows_zero _ _)

pub offset_bounds-values-t : goal.offset_bounds-values-t
offset_bounds-values-t c =
    let inside : c.loop-t.t < 8 = omega (arith, c.requires) in
    omega (arith, inside)

pub bounds-values-t : goal.bounds-values-t
bounds-values-t c =
    let inside : c.loop-t.t < 8 = omega (arith, c.requires) in
    inside

pub overflow_add-count : goal.overflow_add-count
overflow_add-count c =
    let next : c.loop-t.count + c.from-count.result ≡ shows (c.loop-t.t + 1) (at c.args.values.now) c.args.x = shows_more _ _ _ c.loop-t.invariant.1 (c.from-count.ensures ∙ number_of _) in
    let inside : c.loop-t.t < 8 = omega (arith, c.requires) in
    omega (arith, next, shows_le (c.loop-t.t + 1) (at c.args.values.now) c.args.x, inside)

pub loop-t-preserved : goal.loop-t-preserved
loop-t-preserved c =
    let next : c.loop-t.count + c.from-count.result ≡ shows (c.loop-t.t + 1) (at c.args.values.now) c.args.x = shows_more _ _ _ c.loop-t.invariant.1 (c.from-count.ensures ∙ number_of _) in
    (search rules, next)

pub returns : goal.returns
returns c = rw (le_antisymm c.loop-t.invariant.0 c.loop-t-test.false) at c.loop-t.invariant.1
