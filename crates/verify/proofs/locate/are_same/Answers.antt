-- `verify::locate::are_same` meets its contract. The loop's invariant: `bits` is 0 exactly if the symbols passed are the same.
use mathlib.Core.Path.{refl, sym, ap, ◌∙◌}
use mathlib.Core.Bool.{Bool, ◌&&◌}
use Prim.Native.Nat.{◌+◌}
use lib.Dec.{eqb}
use Rattle.parity.specs.Xor.{◌⊕◌}
use Rattle.parity.specs.Count.{all}
use Rattle.parity.proofs.Tests.{all_more}
use Rattle.verify.specs.Verify.{difference}
use borrow.Author.Rules.{rules}
use Rattle.correction.proofs.Silence.{no_bits}
use Rattle.verify.proofs.locate.are_same.Goals as goal

pub loop-i-init : goal.loop-i-init
unfolding all
loop-i-init c = (search rules, refl)

pub loop-i-preserved : goal.loop-i-preserved
unfolding ◌⊕◌
loop-i-preserved c = let a = c.args in
    let entry = difference a.received.now a.proposed.now (a.from + c.loop-i.i) in
    (search rules, no_bits c.loop-i.bits entry ∙ ap (λ (b : Bool). b && eqb entry 0) c.loop-i.invariant.1 ∙ sym (all_more _ _))
