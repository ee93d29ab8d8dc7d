-- `syndrome::flat::add_columns` meets its contract. The loop's invariant is the contract for the first r rows.
use mathlib.Core.Path.{refl}
use native.Mathlib.Omega.{arith}
use borrow.Author.Rules.{rules}
use Rattle.gtb.proofs.Turns.{row_in, square_le}
use Rattle.syndrome.proofs.Sweeps.{rounds_none, rounds_more, rounds_end}
use Rattle.syndrome.proofs.flat.add_columns.Goals as goal

pub loop-r-init : goal.loop-r-init
loop-r-init c = (search rules, rounds_none _ _ _ _)

pub overflow_mul-r : goal.overflow_mul-r
overflow_mul-r c = omega (arith, row_in c.loop-r.r c.args.q c.loop-r-test.true, square_le c.args.q c.requires.2)

pub add_run-requires : goal.add_run-requires
add_run-requires c = (omega (arith, c.loop-r.invariant.1.size, c.requires.0), omega (arith, row_in c.loop-r.r c.args.q c.loop-r-test.true, c.requires.1))

pub loop-r-preserved : goal.loop-r-preserved
loop-r-preserved c = (search rules, rounds_more _ _ _ _ _ _ _ _ c.loop-r.invariant.1 c.add_run.ensures (λ L. refl))

pub shape_of-sums : goal.shape_of-sums
shape_of-sums c = c.loop-r.invariant.1.size

pub returns : goal.returns
returns c = rounds_end _ c.loop-r.invariant.1 (omega arith)
