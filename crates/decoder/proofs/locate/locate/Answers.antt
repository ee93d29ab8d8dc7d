-- `decoder::locate::locate` meets its contract. The loop's invariant: the list holds the located positions of the rows passed, fewer than n.
use Prim.Native.Nat.{◌+◌, ◌*◌}
use native.Mathlib.Nat.{zero-mul, le_antisymm}
use native.Mathlib.Omega.{arith}
use borrow.Author.Rules.{rules}
use Rattle.gtb.proofs.Bounds.{bounds}
use Rattle.gtb.proofs.Turns.{row_in}
use Rattle.correction.proofs.Rows.{next_row}
use Rattle.correction.proofs.Listing.{listed_none, scanned_few, scanned_many}
use Rattle.decoder.proofs.locate.locate.Goals as goal

pub loop-row-init : goal.loop-row-init
loop-row-init c = (search rules, omega (arith, (bounds c.args.checks.shape c.args.checks.lawful).n2), rw (zero-mul c.args.checks.shape.q) (listed_none _ _ c.requires))

pub scan_row-requires : goal.scan_row-requires
scan_row-requires c = let i = c.loop-row.invariant in
    (c.loop-row-test.true, i.1, i.2)

pub returns-in_err-found : goal.returns-in_err-found
returns-in_err-found c = let s = c.args.checks.shape in
    let row = c.loop-row.row in
    rw c.from_residual.ensures (scanned_many (row * s.q + s.q) (row_in row s.q c.loop-row-test.true) (c.scan_row.ensures.0.many c.in_err-found.was))

pub loop-row-preserved : goal.loop-row-preserved
loop-row-preserved c = let (few, listed) = c.scan_row.ensures.0.few _ c.in_ok-found.was in
    (search rules, few, rw next_row listed)

pub returns : goal.returns
returns c = scanned_few c.loop-row.invariant.1 (rw (le_antisymm c.loop-row.invariant.0 c.loop-row-test.false) at c.loop-row.invariant.2)
