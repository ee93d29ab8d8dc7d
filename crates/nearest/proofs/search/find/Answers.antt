-- `nearest::search::find` meets its contract. The loop's invariant: no codeword is at fewer than k positions another, and the table is as it came.
use mathlib.Core.Path.{◌∙◌}
use native.Mathlib.Nat.{le_antisymm}
use borrow.Author.Rules.{rules}
use Rattle.nearest.proofs.Finding.{beyond_more, found_nearest, found_far}
use Rattle.nearest.proofs.search.find.Goals as goal

pub returns-in-Some : goal.returns-in-Some
returns-in-Some c = found_nearest c.loop-k.invariant.1 c.in-Some.ensures c.args.checks.lawful c.loop-k-test.true c.loop-k.invariant.2

pub loop-k-preserved : goal.loop-k-preserved
loop-k-preserved c =
    let same = c.loop-k.invariant.1 in
    let none = c.in_default.ensures in
    (search rules, none.0 ∙ same, beyond_more same none.1 c.loop-k.invariant.2)

pub returns : goal.returns
returns c = found_far c.args.checks.lawful (rw (le_antisymm c.loop-k.invariant.0 c.loop-k-test.false) at c.loop-k.invariant.2)
