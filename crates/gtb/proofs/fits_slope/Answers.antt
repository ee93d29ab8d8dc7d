-- `gtb::fits_slope` meets its contract.
use mathlib.Core.Path.{sym, ◌∙◌}
use mathlib.Core.Bool.{not}
use native.Mathlib.Omega.{arith}
use borrow.Author.Rules.{rules}
use lib.Dec.{eqb}
use lib.ListN.{get_or, take}
use borrow.Author.Tests.{lt-ltb, le-ltb}
use Rattle.std.proofs.Common.{tests}
use Rattle.std.proofs.lemmas.Iterator.{YieldsList-from_slice}
use Rattle.std.proofs.lemmas.Iterator.Search.{all_from_yields_List}
use Rattle.parity.proofs.Tests.{and_no_left}
use Rattle.gtb.specs.Shape.{fits_slope}
use Rattle.gtb.proofs.Lists.{all_first}
use Rattle.gtb.proofs.fits_slope.Goals as goal

pub returns-then-slope-q : goal.returns-then-slope-q
unfolding fits_slope
returns-then-slope-q c =
    let slopes = c.args.slopes.now in
    let slope = get_or slopes c.args.t 0 in
    rw (lt-ltb slope c.args.q c.if-slope-q.true)
    (all_from_yields_List (λ x. not (eqb x slope)) _ _ c.all.result c.all.ensures.ran (YieldsList-from_slice (take c.args.t slopes) (cc))
    (λ x b q k. search (rules, tests))
    ∙ all_first (λ x. not (eqb x slope)) slopes c.args.t (omega arith))

pub returns-else-slope-q : goal.returns-else-slope-q
unfolding fits_slope
returns-else-slope-q c = let a = c.args in
    let large = le-ltb (get_or a.slopes.now a.t 0) a.q c.if-slope-q.false in
    large ∙ sym (and_no_left _ large)
