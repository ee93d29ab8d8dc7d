-- `encoder::interpolation::join_row` meets its contract: the second run reads what the first left as it was.
use mathlib.Core.Path.{ap, ap₂, ◌∙◌}
use Prim.Native.Nat.{ℕ, ◌+◌}
use native.Mathlib.Omega.{arith}
use Rattle.parity.specs.Xor.{◌⊕◌}
use Rattle.gtb.specs.Square.{at}
use Rattle.encoder.proofs.Turned.{written_turned}
use Rattle.encoder.proofs.interpolation.join_row.Goals as goal

pub returns : goal.returns
returns c = let a = c.args in
    let w = a.word.now in
    written_turned a.a a.q a.x _ _ (λ c u. at w (a.a + c) ⊕ at w (a.a + a.q + u)) w _ _ (omega arith)
    c.join_run.ensures c.join_run-2.ensures
    (λ i l. ap (λ (k : ℕ). at w (a.a + i) ⊕ at w k) (omega arith))
    (λ i l.
    ap₂ (λ (x y : ℕ). x ⊕ y) (c.join_run.ensures.above _ (omega arith) ∙ ap (at w) (omega arith)) (c.join_run.ensures.above _ (omega arith)))
