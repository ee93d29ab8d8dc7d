-- `encoder::runs::join_run` meets its contract. The loop's invariant: the first c places are written; what is still to be read is as it was.
use mathlib.Core.Path.{◌≡◌, ap₂}
use Prim.Native.Nat.{ℕ, ◌+◌, ◌≤◌}
use native.Mathlib.Omega.{arith}
use Rattle.parity.specs.Xor.{◌⊕◌}
use Rattle.gtb.specs.Square.{at}
use Rattle.parity.proofs.Writes.{written_more}
use Rattle.encoder.proofs.runs.join_run.Goals as goal

pub loop-c-preserved : goal.loop-c-preserved
unfolding ◌⊕◌
loop-c-preserved c = let a = c.args in
    let kept : (j : ℕ) → a.a + c.loop-c.c ≤ j → at c.loop-c.word j ≡ at a.word.now j = c.loop-c.invariant.1.above in
    (omega arith, written_more _ _ _ _ _ _ (omega arith) (ap₂ (λ (x y : ℕ). x ⊕ y) (kept (a.a + c.loop-c.c) (omega arith)) (kept (a.from + c.loop-c.c) (omega arith))) c.loop-c.invariant.1)
