-- `host::pair::load` meets its contract. The loop's invariant: the symbols loaded and those of the bytes that are left are all symbols.
use native.Mathlib.Omega.{arith}
use lib.ListN.{length-set}
use borrow.Author.Rules.{rules}
use Rattle.host.proofs.Steps.{loaded, all_loaded}
use Rattle.host.proofs.pair.load.Goals as goal

pub loop-i-preserved : goal.loop-i-preserved
loop-i-preserved c = (
  search rules,
  search rules,
  simp length-set (omega arith),
  loaded c.args.bytes.now c.loop-i.symbols c.loop-i.i
      c.symbol_at.ensures c.loop-i.invariant.3 (omega arith) (omega arith),
)

pub returns : goal.returns
returns c = all_loaded _ _ c.loop-i.i c.loop-i.invariant.3 (omega arith) (omega arith)
