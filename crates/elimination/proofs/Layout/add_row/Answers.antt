-- `elimination::Layout::add_row` meets its contract.
use native.Mathlib.Omega.{arith}
use borrow.Author.Rules.{rules}
use Rattle.parity.specs.Xor.{◌⊕◌}
use Rattle.elimination.proofs.Columns.{joined_one}
use Rattle.elimination.proofs.Cells.{row_before, rows_apart}
use Rattle.elimination.proofs.Layout.add_row.Goals as goal

pub add_run-requires : goal.add_run-requires
add_run-requires c = let a = c.args in
    let p = c.requires in (
      search rules,
      omega (arith, row_before a.self.width a.i a.self.rows p.2),
      omega (arith, row_before a.self.width a.s a.self.rows p.1),
      rows_apart a.self.width a.self.columns a.s a.i a.self.fits p.4,
    )

pub returns : goal.returns
unfolding ◌⊕◌
returns c = let p = c.requires in
    joined_one c.args.self.fits (search rules) (omega arith) p.3 p.5 c.add_run.ensures
