-- `host::crossing::load_taken` meets its contract. The loop's invariant: the marks loaded and those of the values that are left are all marks.
use mathlib.Core.Path.{refl}
use native.Mathlib.Omega.{arith}
use lib.ListN.{length-set}
use borrow.Author.Rules.{rules}
use Rattle.host.specs.Crossing.{is_yes}
use Rattle.host.proofs.Crossings.{crossed, all_crossed}
use Rattle.host.proofs.crossing.load_taken.Goals as goal

pub loop-i-preserved : goal.loop-i-preserved
loop-i-preserved c = (
  search rules,
  simp length-set (omega arith),
  crossed is_yes c.args.values.now c.loop-i.taken c.loop-i.i c.loop-i.invariant.2 0 refl (omega arith) (omega arith),
)

pub returns : goal.returns
returns c = all_crossed is_yes _ _ c.loop-i.i c.loop-i.invariant.2 (omega arith) (omega arith)
