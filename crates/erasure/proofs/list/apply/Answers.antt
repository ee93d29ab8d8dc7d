-- `erasure::list::apply` meets its contract. The loop's invariant: the first k changes are XORed on.
use mathlib.Core.Path.{◌≡◌, refl, ◌∙◌}
use mathlib.Core.Bool.{not}
use Prim.Native.Nat.{◌<◌}
use native.Mathlib.Nat.{le_antisymm}
use lib.Dec.{eqb}
use lib.ListN.{length}
use Rattle.std.specs.Prelude.{take, count_by}
use Rattle.parity.specs.Xor.{◌⊕◌}
use Rattle.gtb.specs.Square.{at}
use Rattle.correction.proofs.Slices.{count_first}
use Rattle.correction.proofs.Toggles.{toggled_none, toggled_more}
use borrow.Author.Rules.{rules}
use native.Mathlib.Omega.{arith}
use Rattle.erasure.proofs.list.apply.Goals as goal

pub loop-k-init : goal.loop-k-init
loop-k-init c = (search rules, search rules, toggled_none _ _ _)

pub loop-k-preserved : goal.loop-k-preserved
unfolding ◌⊕◌
loop-k-preserved c =
    let place : at c.args.places.now c.loop-k.k < length c.args.word.now = c.requires.1 c.loop-k.k (omega arith) in
    (search rules, search rules, toggled_more (at c.args.places.now c.loop-k.k) c.loop-k.invariant.2 refl place)

pub returns : goal.returns
returns c =
    let changed : c.count.result ≡ count_by (λ x. not (eqb x 0)) (take (length c.args.places.now) c.args.changes.now) = search rules in record {
      word = rw (le_antisymm c.loop-k.invariant.1 (search rules)) at c.loop-k.invariant.2;
      changed = changed ∙ count_first (λ x. not (eqb x 0)) c.args.changes.now (length c.args.places.now) (omega (arith, c.requires.0, c.told-changes));
    }
