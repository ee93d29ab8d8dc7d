-- `gtb::copy` meets its contract. The loop's invariant: the symbols passed are copied, the others are as they were.
use borrow.Author.Rules.{rules}
use native.Mathlib.Omega.{arith}
use Rattle.gtb.proofs.Copies.{copied, all_copied}
use Rattle.gtb.proofs.copy.Goals as goal

pub loop-i-preserved : goal.loop-i-preserved
loop-i-preserved c = (
  search rules,
  search rules,
  search rules,
  copied c.args.from.now c.args.to.now c.loop-i.i
      c.loop-i.invariant.3 (omega arith) (omega arith),
)

pub returns : goal.returns
returns c = all_copied _ _ c.loop-i.i c.loop-i.invariant.3 (omega arith)
