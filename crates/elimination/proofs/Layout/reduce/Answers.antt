-- `elimination::Layout::reduce` meets its contract, which with k for `columns` is the loop's invariant.
use borrow.Author.Rules.{rules}
use Rattle.elimination.proofs.Columns.{progress_none, progress_more}
use Rattle.elimination.proofs.Layout.reduce.Goals as goal

pub loop-k-init : goal.loop-k-init
loop-k-init c = (search rules, progress_none (search rules))

pub loop-k-preserved : goal.loop-k-preserved
loop-k-preserved c = (search rules, progress_more c.loop-k.invariant.1 c.column-u.ensures)
