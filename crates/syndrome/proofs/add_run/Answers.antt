-- `syndrome::add_run` meets its contract, which with i for `count` is the loop's invariant.
use borrow.Author.Rules.{rules}
use native.Mathlib.Omega.{arith}
use Rattle.parity.specs.Xor.{◌⊕◌}
use Rattle.parity.proofs.Writes.{written_none, written_end}
use Rattle.syndrome.proofs.Sweeps.{added_more}
use Rattle.syndrome.proofs.add_run.Goals as goal

pub loop-i-init : goal.loop-i-init
loop-i-init c = (search rules, written_none _ _ _)

pub loop-i-preserved : goal.loop-i-preserved
unfolding ◌⊕◌
loop-i-preserved c = (search rules, added_more _ _ _ _ _ c.loop-i.invariant.1 (omega arith))

pub shape_of-syn : goal.shape_of-syn
shape_of-syn c = c.loop-i.invariant.1.size

pub returns : goal.returns
returns c = written_end c.loop-i.invariant.1 (omega arith)
