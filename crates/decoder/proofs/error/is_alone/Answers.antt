-- `decoder::error::is_alone` meets its contract. The loop's invariant: none of the places passed shares the check.
use mathlib.Core.Path.{sym, ap, ap₂, ◌∙◌}
use mathlib.Core.Bool.{Bool, not, ◌||◌}
use Prim.Native.Nat.{◌<◌}
use Rattle.parity.proofs.Tests.{any_zero, any_more, any_intro}
use Rattle.decoder.specs.Steps.{alone_among_places}
use native.Mathlib.Nat.{le_antisymm}
use native.Mathlib.Omega.{arith}
use borrow.Author.Rules.{rules}
use Rattle.decoder.proofs.error.is_alone.Goals as goal

pub loop-x-init : goal.loop-x-init
loop-x-init c = (search rules, any_zero _)

pub offset_bounds-places-x : goal.offset_bounds-places-x
offset_bounds-places-x c =
    let inside : c.loop-x.x < 8 = omega (arith, c.requires.2.few) in
    omega (arith, inside)

pub bounds-places-x : goal.bounds-places-x
bounds-places-x c =
    let inside : c.loop-x.x < 8 = omega (arith, c.requires.2.few) in
    inside

pub shares_check-requires : goal.shares_check-requires
shares_check-requires c =
    (c.requires.0, c.requires.1, c.requires.2.below c.loop-x.x c.loop-x-test.true)

pub returns-then-shares_check : goal.returns-then-shares_check
unfolding alone_among_places
returns-then-shares_check c = sym (ap not (any_intro _ _ c.loop-x.x c.loop-x-test.true (sym c.shares_check.ensures ∙ c.if-shares_check.true)))

pub loop-x-preserved : goal.loop-x-preserved
loop-x-preserved c = (search rules, any_more _ _ ∙ ap₂ (λ (x y : Bool). x || y) c.loop-x.invariant.1 (sym c.shares_check.ensures ∙ c.if-shares_check.false))

pub returns : goal.returns
unfolding alone_among_places
returns c = sym (ap not (rw (le_antisymm c.loop-x.invariant.0 c.loop-x-test.false) at c.loop-x.invariant.1))
