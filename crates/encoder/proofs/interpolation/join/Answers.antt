-- `encoder::interpolation::join` meets its contract. The loop's invariant: the rows before r are joined.
use mathlib.Core.Path.{◌≡◌, ◌∙◌}
use native.Mathlib.Omega.{arith}
use lib.ListN.{length}
use Rattle.gtb.specs.Shape.{word_length}
use Rattle.gtb.proofs.Bounds.{bounds}
use Rattle.gtb.proofs.Sizes.{sizes}
use Rattle.encoder.proofs.Bounds.{shift_bounds, Room, rows_fit}
use Rattle.encoder.proofs.Joins.{joined_more}
use Rattle.encoder.proofs.interpolation.join.Goals as goal

pub join_row-requires : goal.join_row-requires
join_row-requires c =
    let fit : Room c.args.code.shape.q c.loop-r.r c.loop-r.word = let b = bounds _ c.args.code.lawful in
    let f = rows_fit c.args.code.shape c.loop-r.r (omega arith) in
    let z = sizes c.args.code.shape c.args.code.lawful in
    let size : length c.loop-r.word ≡ word_length c.args.code.shape = c.loop-r.invariant.2.size ∙ c.requires.0 in
    (omega arith, omega arith) in
    let b = bounds _ c.args.code.lawful in
    let x = shift_bounds c.args.code.shape c.args.code.lawful c.args.k c.requires.1 in
    omega (arith, fit, c.shift-x.ensures)

pub loop-r-preserved : goal.loop-r-preserved
loop-r-preserved c = let b = bounds _ c.args.code.lawful in
    (omega arith, omega arith, joined_more _ _ _ _ (omega arith) _ c.loop-r.invariant.0 _ _ c.loop-r.invariant.2 c.join_row.ensures)
