-- `syndrome::flat::is_flat` meets its contract: each test is one of the definition's.
use mathlib.Core.Path.{sym, ap, ◌∙◌}
use mathlib.Core.Bool.{Bool, ◌&&◌}
use Prim.Native.Nat.{ℕ}
use lib.Dec.{eqb}
use borrow.Author.Tests.{eq-eqb, ne_eqb}
use Rattle.parity.proofs.Tests.{and_no_left}
use Rattle.gtb.specs.Shape.{slope_of}
use Rattle.syndrome.specs.Sweep.{is_flat}
use Rattle.syndrome.proofs.flat.is_flat.Goals as goal

pub returns-then-shape-ne2 : goal.returns-then-shape-ne2
unfolding is_flat
returns-then-shape-ne2 c = sym (and_no_left _ (ne_eqb _ _ c.if-shape-ne2.true))

pub returns : goal.returns
unfolding is_flat
returns c = let a = c.args in
    ap (λ (x : ℕ). eqb x 0) c.slope.ensures ∙ sym (ap (λ (x : Bool). x && eqb (slope_of a.shape 1) 0) (eq-eqb _ _ c.if-shape-ne2.false))
