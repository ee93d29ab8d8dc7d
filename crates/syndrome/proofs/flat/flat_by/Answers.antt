-- `syndrome::flat::flat_by` meets its contract.
use mathlib.Core.Path.{◌∙◌, sym, ap}
use native.Mathlib.Omega.{arith}
use lib.ListN.{length}
use Rattle.gtb.proofs.Bounds.{bounds}
use Rattle.syndrome.proofs.Flats.{flat_of}
use Rattle.syndrome.proofs.flat.flat_by.Goals as goal

pub add_rows-requires : goal.add_rows-requires
add_rows-requires g c = (ap length c.requires.2, rw c.requires.4 at c.requires.1, rw c.requires.4 at (bounds _ c.requires.0).q31)

pub add_columns-requires : goal.add_columns-requires
add_columns-requires g c = let small = (bounds _ c.requires.0).q31 in
    (rw c.requires.4 at small, rw c.requires.4 at c.requires.1, rw c.requires.4 at small)

pub copy_run-requires : goal.copy_run-requires
copy_run-requires g c = let small = (bounds _ c.requires.0).q31 in
    (omega (arith, small, c.requires.4, c.add_rows.ensures.size ∙ ap length c.requires.2), omega (arith, small, c.requires.4, c.add_columns.ensures.size))

pub returns : goal.returns
returns g c = flat_of c.args.shape c.requires.0 c.args.word.now g.row.Q (sym c.requires.4) c.requires.3 _ c.requires.2 c.add_rows.ensures
    c.add_columns.ensures c.copy_run.ensures
