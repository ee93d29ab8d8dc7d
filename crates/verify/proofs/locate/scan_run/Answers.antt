-- `verify::locate::scan_run` meets its contract. The loop's invariant: the list holds the differing positions up to here, fewer than n.
use mathlib.Core.Path.{sym, ◌∙◌}
use Prim.Native.Nat.{◌+◌}
use native.Mathlib.Omega.{arith}
use Rattle.correction.proofs.Listing.{listed_skips, scanned_few, scanned_many}
use Rattle.verify.proofs.Table.{same_run}
use Rattle.verify.proofs.locate.scan_run.Goals as goal

pub returns-then-are_same : goal.returns-then-are_same
returns-then-are_same c = scanned_few c.requires.3
    (listed_skips c.args.size
    (same_run c.args.received.now c.args.proposed.now c.args.from c.args.size (sym c.are_same.ensures ∙ c.if-are_same.true))
    c.requires.4)

pub returns-then-n-found : goal.returns-then-n-found
returns-then-n-found c = scanned_many (c.args.from + c.loop-i.i + 1) (omega arith) (omega (arith, c.keep-found.ensures.counted))
