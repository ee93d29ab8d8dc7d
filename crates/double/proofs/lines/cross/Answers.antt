-- `double::lines::cross` meets its contract. The loop's invariant: no position of the rows passed is on both lines.
use mathlib.Core.Path.{ap, ◌∙◌}
use Prim.Native.Nat.{ℕ, ◌+◌, ◌*◌}
use native.Mathlib.Nat.{le_antisymm}
use native.Mathlib.Omega.{arith}
use borrow.Author.Count.{below_more}
use borrow.Author.Rules.{rules}
use Rattle.gtb.specs.Square.{line_of}
use Rattle.double.proofs.Crossings.{crosses_here, row_passed, crosses_none}
use Rattle.double.proofs.lines.cross.Goals as goal

pub returns-then-t-eq0 : goal.returns-then-t-eq0
returns-then-t-eq0 c = let on = c.on_row.ensures in
    crosses_here _ c.args.checks.lawful _ _ _ _ _ c.requires.0 c.requires.1 on.below (ap (λ (t : ℕ). line_of c.args.checks.shape t c.on_row.result) c.if-t-eq0.true ∙ on.row_of) on.line_is

pub returns-then-number-t : goal.returns-then-number-t
returns-then-number-t c = let on = c.on_row-j.ensures in
    crosses_here _ c.args.checks.lawful _ _ _ _ _ c.requires.0 c.requires.1 on.below (omega (arith, c.number.ensures, c.if-number-t.true)) on.line_is

pub loop-row-preserved : goal.loop-row-preserved
loop-row-preserved c = (
  search rules,
  below_more _ _ c.loop-row.invariant.1
      (row_passed _ c.args.checks.lawful _ _ _ _ _ _ c.requires.0 c.requires.1 c.on_row-j.ensures
      (λ e. c.if-number-t.false (c.number.ensures ∙ ap (λ (l : ℕ). c.args.t * c.args.checks.shape.q + l) e))),
)

pub returns : goal.returns
returns c = crosses_none _ c.args.checks.lawful _ _ _ _ c.requires.0 c.requires.1 (rw (le_antisymm c.loop-row.invariant.0 c.loop-row-test.false) at c.loop-row.invariant.1)
