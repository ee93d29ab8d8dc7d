-- `elimination::Layout::take_off` meets its contract, which with i for the last k is the loop's invariant.
use native.Mathlib.Omega.{arith}
use borrow.Author.Rules.{rules}
use Rattle.parity.specs.Xor.{◌⊕◌}
use Rattle.elimination.specs.Packed.{cell_of}
use Rattle.elimination.proofs.Substitution.{taken_more}
use Rattle.elimination.proofs.Layout.take_off.Goals as goal

pub loop-i-preserved : goal.loop-i-preserved
unfolding ◌⊕◌ cell_of
loop-i-preserved c = (search rules, taken_more (omega arith) c.share.ensures c.loop-i.invariant.1)
