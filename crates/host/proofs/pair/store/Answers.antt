-- `host::pair::store` meets its contract. The loop's invariant: the bytes stored and those of the symbols that are left are all bytes.
use native.Mathlib.Omega.{arith}
use borrow.Author.Rules.{rules}
use Rattle.host.proofs.Steps.{stored, all_stored}
use Rattle.host.proofs.pair.store.Goals as goal

pub loop-i-preserved : goal.loop-i-preserved
loop-i-preserved c = let more = stored c.args.symbols.now c.loop-i.bytes c.loop-i.i c.put_symbol.ensures c.loop-i.invariant.3 (omega arith) (omega arith) in
    (search rules, search rules, search rules, more)

pub returns : goal.returns
returns c = all_stored _ _ c.loop-i.i c.loop-i.invariant.3 (omega arith) (omega arith)
