-- `verify::locate::locate` meets its contract. The loop's invariant: the list holds the differing positions of the runs passed, fewer than n.
use mathlib.Core.Path.{◌≡◌}
use Prim.Native.Nat.{ℕ, ◌+◌, ◌-◌, ◌*◌, ◌/◌}
use native.Mathlib.Nat.{le_antisymm}
use native.Mathlib.Omega.{arith}
use borrow.Author.Rules.{rules}
use Rattle.gtb.proofs.Bounds.{bounds}
use Rattle.correction.proofs.Listing.{listed_none, scanned_many}
use Rattle.verify.proofs.locate.locate.Goals as goal

-- the runs and the rest are the whole word
runs-and-rest : (size : ℕ) → size / 16 * 16 + (size - size / 16 * 16) ≡ size
runs-and-rest size = omega arith

pub loop-k-init : goal.loop-k-init
loop-k-init c = (search rules, omega (arith, (bounds c.args.checks.shape c.args.checks.lawful).n2), listed_none _ _ c.requires.2)

pub scan_run-requires : goal.scan_run-requires
scan_run-requires c = let i = c.loop-k.invariant in
    let b = bounds c.args.checks.shape c.args.checks.lawful in
    (omega arith, omega arith, b.n8, i.1, i.2)

pub returns-in_err-found : goal.returns-in_err-found
returns-in_err-found c = rw c.from_residual.ensures (scanned_many (c.loop-k.k * 16 + 16) (omega (arith, c.requires.0)) (c.scan_run.ensures.many c.in_err-found.was))

pub scan_run-requires-2 : goal.scan_run-requires-2
scan_run-requires-2 c = let i = c.loop-k.invariant in
    let b = bounds c.args.checks.shape c.args.checks.lawful in
    (omega arith, omega arith, b.n8, i.1, rw (le_antisymm i.0 c.loop-k-test.false) at i.2)
