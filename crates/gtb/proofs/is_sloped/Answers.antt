-- `gtb::is_sloped` meets its contract.
use mathlib.Core.Path.{◌∙◌}
use native.Mathlib.Omega.{arith}
use borrow.Author.Rules.{rules}
use Prim.Native.Nat.{◌-◌}
use Rattle.std.proofs.lemmas.Iterator.{serves_from_Range, YieldsList-from_range}
use Rattle.std.proofs.lemmas.Iterator.Search.{all_from_yields_List}
use Rattle.gtb.specs.Shape.{fits_slope, sloped}
use Rattle.gtb.proofs.Bounds.{regular_directions}
use Rattle.gtb.proofs.Lists.{all_below}
use Rattle.gtb.proofs.is_sloped.Goals as goal

pub overflow_sub-last : goal.overflow_sub-last
overflow_sub-last c = omega (arith, (regular_directions _ c.requires).0)

pub all-requires-clause-callable : goal.all-requires-clause-callable
all-requires-clause-callable c = serves_from_Range (λ x q k. search rules) (λ t l u. omega (arith, (regular_directions _ c.requires).1))

pub returns : goal.returns
unfolding sloped
returns c =
    all_from_yields_List (fits_slope c.args.shape.q c.args.shape.slopes) _ _ c.all.result c.all.ensures.ran
    (YieldsList-from_range 0 (c.args.shape.n - 1) (c.args.shape.n - 1) (cc) (omega arith)) (λ t b q k. search rules)
    ∙ all_below _ _
