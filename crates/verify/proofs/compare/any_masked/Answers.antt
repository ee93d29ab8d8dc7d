-- `verify::compare::any_masked` meets its contract.
use mathlib.Core.Path.{◌≡◌, refl, ◌∙◌}
use Prim.Native.Nat.{◌<◌, ◌≤◌}
use native.Mathlib.Omega.{arith}
use borrow.Author.Rules.{rules}
use lib.ListN.{length, take}
use Rattle.std.proofs.lemmas.Iterator.{YieldsList-from_slice}
use Rattle.std.proofs.lemmas.Iterator.Adapters.{serves_from_places}
use Rattle.std.proofs.lemmas.Iterator.Search.{any_from_yields_List}
use Rattle.std.proofs.lemmas.List.{get_or-take, get_or_read_under, length-take-le}
use Rattle.gtb.specs.Shape.{word_length}
use Rattle.gtb.specs.Square.{at}
use Rattle.verify.specs.Steps.{is_masked}
use Rattle.verify.proofs.Lists.{any_first}
use Rattle.verify.proofs.compare.any_masked.Goals as goal

pub any-requires-clause-callable : goal.any-requires-clause-callable
any-requires-clause-callable c =
    serves_from_places (YieldsList-from_slice (take c.args.count c.args.places.now) c.iter.ensures.rest) (λ j q k. search rules)
    (λ j k l e.
    let fits : c.args.count ≤ length c.args.places.now = omega (arith, c.requires.few, c.told-places) in
    let lk : k < c.args.count = omega (arith, l, length-take-le c.args.count c.args.places.now fits) in
    let entry : j.now ≡ at c.args.places.now k = get_or_read_under _ k _ j.now 0 e l refl ∙ get_or-take c.args.count c.args.places.now k 0 lk in
    let inside : j.now < word_length c.args.checks.shape = rw entry (c.requires.below k lk) in
    search (rules, inside))

pub returns : goal.returns
returns c =
    any_from_yields_List (is_masked c.args.checks.shape c.args.syn.now) _ _ c.any.result c.any.ensures.ran
    (YieldsList-from_slice (take c.args.count c.args.places.now) c.iter.ensures.rest) (λ j b q k. search rules)
    ∙ any_first _ c.args.places.now c.args.count (omega (arith, c.requires.few, c.told-places))
