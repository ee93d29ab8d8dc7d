-- `encoder::runs::place_row` meets its contract. The loop's invariant: i symbols are written, and `sum` is their XOR.
use mathlib.Core.Path.{◌≡◌, refl, sym}
use native.Mathlib.Omega.{arith}
use borrow.Author.Rules.{rules}
use Rattle.parity.specs.Xor.{◌⊕◌}
use Rattle.parity.proofs.XorSums.{xs_zero, more}
use Rattle.parity.proofs.Writes.{written_none, written_more}
use Rattle.encoder.proofs.Writes.{written_lower}
use Rattle.encoder.proofs.runs.place_row.Goals as goal

pub loop-i-init : goal.loop-i-init
loop-i-init c = (search rules, sym (xs_zero _), written_none _ _ _)

pub loop-i-preserved : goal.loop-i-preserved
unfolding ◌⊕◌
loop-i-preserved c = (omega arith, more _ _ c.loop-i.invariant.1, written_more _ _ _ _ _ _ (omega arith) refl c.loop-i.invariant.2)

pub returns : goal.returns
returns c = let a = c.args in
    let e : c.loop-i.i ≡ a.count = omega arith in
    written_lower _ _ _ _ _ _ (omega arith) (rw e at c.loop-i.invariant.1) (rw e at c.loop-i.invariant.2)
