-- `syndrome::doubled::lay` meets its contract. The loop's invariant is the contract for the first r rows.
use native.Mathlib.Nat.{le_antisymm}
use borrow.Author.Rules.{rules}
use Rattle.syndrome.proofs.Doubles.{doubled_none}
use Rattle.syndrome.proofs.doubled.lay.Goals as goal

pub loop-r-init : goal.loop-r-init
loop-r-init c = (search rules, doubled_none _ _ _ c.requires.2)

pub loop-r-preserved : goal.loop-r-preserved
loop-r-preserved c = (search rules, c.lay_row.ensures)

pub returns : goal.returns
returns c = rw (le_antisymm c.loop-r.invariant.0 c.loop-r-test.false) at c.loop-r.invariant.1
