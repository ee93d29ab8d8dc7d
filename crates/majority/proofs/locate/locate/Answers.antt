-- `majority::locate::locate` meets its contract. The loop's invariant: the list holds what is found in the rows passed, at most n/2 positions.
use Prim.Native.Nat.{◌+◌, ◌*◌}
use native.Mathlib.Nat.{zero-mul}
use native.Mathlib.Omega.{arith}
use borrow.Author.Rules.{rules}
use Rattle.gtb.proofs.Turns.{row_in}
use Rattle.correction.proofs.Listing.{listed_none, scanned_many}
use Rattle.majority.proofs.locate.locate.Goals as goal

pub loop-row-init : goal.loop-row-init
loop-row-init c = (search rules, omega arith, rw (zero-mul c.args.checks.shape.q) (listed_none _ _ c.requires))

pub returns-in_err-found : goal.returns-in_err-found
returns-in_err-found c = let s = c.args.checks.shape in
    let row = c.loop-row.row in
    rw c.from_residual.ensures (scanned_many (row * s.q + s.q) (row_in row s.q c.loop-row-test.true) (c.scan_row.ensures.many c.in_err-found.was))
