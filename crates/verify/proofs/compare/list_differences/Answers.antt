-- `verify::compare::list_differences` meets its contract. The loop's invariant is the contract for the first x errors.
use mathlib.Core.Path.{refl}
use native.Mathlib.Omega.{arith}
use borrow.Author.Rules.{rules}
use Rattle.parity.specs.Xor.{◌⊕◌}
use Rattle.parity.proofs.Writes.{begins_more}
use Rattle.verify.proofs.compare.list_differences.Goals as goal

pub loop-x-preserved : goal.loop-x-preserved
unfolding ◌⊕◌
loop-x-preserved c = (search rules, begins_more _ (omega (arith, c.requires.0, c.loop-x-test.true)) refl c.loop-x.invariant.1)
