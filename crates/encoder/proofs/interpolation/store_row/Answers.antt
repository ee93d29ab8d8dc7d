-- `encoder::interpolation::store_row` meets its contract.
use mathlib.Core.Path.{refl, ap}
use Prim.Native.Nat.{ℕ}
use native.Mathlib.Nat.{zero-add}
use native.Mathlib.Omega.{arith}
use Rattle.parity.specs.Xor.{◌⊕◌}
use Rattle.gtb.specs.Square.{at}
use Rattle.encoder.proofs.Turned.{written_turned}
use Rattle.encoder.proofs.interpolation.store_row.Goals as goal

pub returns : goal.returns
returns c = let a = c.args in
    let v = a.walked.now in
    written_turned a.a a.q a.z _ _ (λ c u. at v u ⊕ a.total) a.word.now _ _ (omega arith)
    c.store_run.ensures c.store_run-2.ensures
    (λ i l. refl) (λ i l. ap (λ (k : ℕ). at v k ⊕ a.total) (zero-add i))
