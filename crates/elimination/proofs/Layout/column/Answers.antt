-- `elimination::Layout::column` meets its contract.
use native.Mathlib.Omega.{arith}
use borrow.Author.Rules.{rules}
use Rattle.elimination.proofs.Columns.{column_free, column_pivot}
use Rattle.elimination.proofs.Reductions.{reduced_lift}
use Rattle.elimination.proofs.Layout.column.Goals as goal

pub returns-in-None : goal.returns-in-None
returns-in-None c = column_free (search rules) c.requires.2 c.in-None.ensures

pub clear-requires : goal.clear-requires
clear-requires c = let first = c.in-Some.ensures in (
  omega (arith, c.lift.ensures.size),
  c.requires.1,
  omega (arith, first.least, first.inside),
  λ j l. (reduced_lift c.requires.2 c.requires.1 first.least first.inside c.lift.ensures.rows).zeros c.args.u j (omega arith) (omega (arith, first.least, first.inside)) l,
)

pub returns-in-Some : goal.returns-in-Some
returns-in-Some c = column_pivot c.requires.1 c.requires.2 c.in-Some.ensures c.lift.ensures c.clear.ensures
