-- `syndrome::add_rows` meets its contract, which with `row` for the first q is the loop's invariant.
use borrow.Author.Rules.{rules}
use native.Mathlib.Omega.{arith}
use Rattle.parity.specs.Xor.{◌⊕◌}
use Rattle.parity.proofs.Writes.{written_none, written_end}
use Rattle.syndrome.proofs.Sweeps.{added_entry}
use Rattle.gtb.proofs.Turns.{row_in, square_le}
use Rattle.syndrome.proofs.add_rows.Goals as goal

pub loop-row-init : goal.loop-row-init
loop-row-init c = (search rules, written_none _ _ _)

pub overflow_mul-row : goal.overflow_mul-row
overflow_mul-row c = let q = c.args.q in
    omega (arith, row_in c.loop-row.row q c.loop-row-test.true, square_le q c.requires.2)

pub run_sum-requires : goal.run_sum-requires
run_sum-requires c = omega (arith, row_in c.loop-row.row c.args.q c.loop-row-test.true)

pub loop-row-preserved : goal.loop-row-preserved
unfolding ◌⊕◌
loop-row-preserved c = (search rules, added_entry _ _ _ _ c.loop-row.invariant.1 c.run_sum.ensures (omega arith))

pub returns : goal.returns
returns c = written_end c.loop-row.invariant.1 (omega arith)
