-- `verify::compare::is_masked` meets its contract. The loop's invariant: no check passed is silent.
use mathlib.Core.Path.{sym, ap, ap₂, ◌∙◌}
use mathlib.Core.Bool.{Bool, ◌||◌}
use Prim.Native.Nat.{◌<◌}
use lib.Dec.{eqb}
use Rattle.parity.proofs.Tests.{any_zero, any_more, any_intro}
use Rattle.gtb.specs.Square.{at}
use Rattle.correction.specs.Error.{check_of}
use Rattle.correction.proofs.CheckNumbers.{check_fits}
use Rattle.verify.specs.Steps.{is_masked}
use native.Mathlib.Nat.{le_antisymm}
use native.Mathlib.Omega.{arith}
use borrow.Author.Rules.{rules}
use borrow.Author.Tests.{eq-eqb, ne_eqb}
use Rattle.verify.proofs.compare.is_masked.Goals as goal

pub loop-t-init : goal.loop-t-init
loop-t-init c = (search rules, any_zero _)

pub offset_bounds-syn-number : goal.offset_bounds-syn-number
offset_bounds-syn-number c =
    let inside : c.number.result < 248 = rw c.number.ensures (check_fits c.args.checks.shape c.args.checks.lawful c.loop-t.t c.args.j c.loop-t-test.true c.requires) in
    omega (arith, inside)

pub bounds-syn-number : goal.bounds-syn-number
bounds-syn-number c = rw c.number.ensures (check_fits c.args.checks.shape c.args.checks.lawful c.loop-t.t c.args.j c.loop-t-test.true c.requires)

pub returns-then-syn-number-eq0 : goal.returns-then-syn-number-eq0
unfolding is_masked
returns-then-syn-number-eq0 c = let s = c.args in
    sym
    (any_intro _ (λ u. eqb (at s.syn.now (check_of s.checks.shape s.j u)) 0) c.loop-t.t c.loop-t-test.true
    (eq-eqb _ 0 (sym (ap (at s.syn.now) c.number.ensures) ∙ c.if-syn-number-eq0.true)))

pub loop-t-preserved : goal.loop-t-preserved
loop-t-preserved c = let s = c.args in (
  search rules,
  any_more _ _
      ∙ ap₂ (λ (x y : Bool). x || y) c.loop-t.invariant.1 (ne_eqb _ 0 (λ z. c.if-syn-number-eq0.false (ap (at s.syn.now) c.number.ensures ∙ z))),
)

pub returns : goal.returns
unfolding is_masked
returns c = sym (rw (le_antisymm c.loop-t.invariant.0 c.loop-t-test.false) at c.loop-t.invariant.1)
