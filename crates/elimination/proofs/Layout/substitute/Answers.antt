-- `elimination::Layout::substitute` meets its contract, which with k for 0 is the loop's invariant.
use native.Mathlib.Omega.{arith}
use borrow.Author.Rules.{rules}
use Rattle.elimination.proofs.Substitution.{substituted_more}
use Rattle.elimination.proofs.Layout.substitute.Goals as goal

pub loop-k-preserved : goal.loop-k-preserved
loop-k-preserved c = (search rules, substituted_more c.requires.2 (omega (arith, c.loop-k.invariant.0, c.loop-k-test.true)) (omega (arith, c.loop-k-test.true)) c.loop-k.invariant.1 c.take_off.ensures)
