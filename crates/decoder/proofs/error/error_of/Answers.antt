-- `decoder::error::error_of` meets its contract. The loop's invariant: no check passed has j alone on it.
use mathlib.Core.Path.{sym, ap, ◌∙◌}
use Prim.Native.Nat.{◌<◌}
use Rattle.gtb.specs.Square.{at}
use Rattle.decoder.specs.Steps.{error_among}
use native.Mathlib.Nat.{le_antisymm}
use native.Mathlib.Omega.{arith}
use borrow.Author.Count.{below_none, below_more}
use borrow.Author.Rules.{rules}
use Rattle.correction.proofs.CheckNumbers.{check_fits}
use Rattle.parity.proofs.First.{first_at, first_none}
use Rattle.decoder.proofs.error.error_of.Goals as goal

pub loop-t-init : goal.loop-t-init
loop-t-init c = (search rules, below_none _)

pub offset_bounds-syn-number : goal.offset_bounds-syn-number
offset_bounds-syn-number c =
    let inside : c.number.result < 248 = rw c.number.ensures (check_fits c.args.checks.shape c.args.checks.lawful c.loop-t.t c.args.j c.loop-t-test.true c.requires.0) in
    omega (arith, inside)

pub bounds-syn-number : goal.bounds-syn-number
bounds-syn-number c =
    let inside : c.number.result < 248 = rw c.number.ensures (check_fits c.args.checks.shape c.args.checks.lawful c.loop-t.t c.args.j c.loop-t-test.true c.requires.0) in
    inside

pub returns-then-is_alone : goal.returns-then-is_alone
unfolding error_among
returns-then-is_alone c = ap (at c.args.syn.now) c.number.ensures
    ∙ sym
    (first_at _ _ _ c.loop-t.t c.loop-t-test.true c.loop-t.invariant.1 (sym c.is_alone.ensures ∙ c.if-is_alone.true))

pub loop-t-preserved : goal.loop-t-preserved
loop-t-preserved c = (search rules, below_more _ _ c.loop-t.invariant.1 (sym c.is_alone.ensures ∙ c.if-is_alone.false))

pub returns : goal.returns
unfolding error_among
returns c = sym (first_none _ _ _ (rw (le_antisymm c.loop-t.invariant.0 c.loop-t-test.false) at c.loop-t.invariant.1))
