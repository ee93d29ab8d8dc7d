-- `host::crossing::store_taken` meets its contract. The loop's invariant: the values stored and those of the marks that are left are all values.
use mathlib.Core.Bool.{false}
use native.Mathlib.Omega.{arith}
use lib.ListN.{length-set}
use borrow.Author.Rules.{rules}
use Rattle.parity.specs.Count.{bit}
use Rattle.session.proofs.Progress.{bit_byte}
use Rattle.host.proofs.Crossings.{crossed, all_crossed}
use Rattle.host.proofs.crossing.store_taken.Goals as goal

pub loop-i-preserved : goal.loop-i-preserved
loop-i-preserved c = (
  search rules,
  simp length-set (omega arith),
  crossed bit c.args.taken c.loop-i.values c.loop-i.i c.loop-i.invariant.2 false (bit_byte _) (rw c.well_formed.0.1.0.1 (omega arith)) (omega arith),
)

pub returns : goal.returns
returns c = all_crossed bit _ _ c.loop-i.i c.loop-i.invariant.2 (omega (arith, c.well_formed.0.1.0.1)) (omega arith)
