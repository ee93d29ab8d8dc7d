-- `elimination::Layout::clear` meets its contract, which with i for `rows` is the loop's invariant.
use native.Mathlib.Omega.{arith}
use borrow.Author.Rules.{rules}
use Rattle.elimination.specs.Packed.{cell_of}
use Rattle.elimination.proofs.Columns.{cleared_none, cleared_own, cleared_more, zeros_joined}
use Rattle.elimination.proofs.Layout.clear.Goals as goal

pub loop-i-init : goal.loop-i-init
loop-i-init c = (search rules, search rules, cleared_none _ (search rules))

pub clear_row-requires : goal.clear_row-requires
clear_row-requires c = let a = c.args in (
  omega (arith, c.loop-i.invariant.2.size),
  c.loop-i-test.true,
  c.requires.1,
  c.loop-i.invariant.1,
  zeros_joined c.loop-i.invariant.2 a.u (cleared_own c.loop-i.i (cell_of a.self.width a.scratch.now) a.k a.u) c.requires.1 c.requires.3,
)

pub loop-i-preserved : goal.loop-i-preserved
loop-i-preserved c = (search rules, search rules, cleared_more c.loop-i.i c.requires.1 c.loop-i.invariant.1 c.loop-i.invariant.2 c.clear_row.ensures)
