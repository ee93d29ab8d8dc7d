-- `restore::suspects::is_shown` meets its contract.
use mathlib.Core.Path.{◌≡◌, sym, ◌∙◌}
use mathlib.Core.Bool.{not, ◌&&◌}
use lib.Dec.{eqb, leb}
use native.Mathlib.Omega.{arith}
use borrow.Author.Rules.{rules}
use Rattle.std.specs.Prelude.{take}
use Rattle.std.specs.List.{list_any}
use Rattle.std.proofs.lemmas.Iterator.Search.{any_from_yields_List}
use Rattle.std.proofs.lemmas.Iterator.{YieldsList-from_slice}
use Rattle.gtb.specs.Square.{at}
use Rattle.correction.specs.Error.{shows}
use Rattle.restore.proofs.Choosing.{outvoted}
use Rattle.restore.proofs.suspects.is_shown.Goals as goal

pub returns : goal.returns
returns c none =
    let shown : c.any.result ≡ list_any (λ x. not (eqb x 0) && leb c.args.least (shows c.args.n (at c.args.values.now) x)) (take c.args.n c.args.values.now) =
    any_from_yields_List (λ x. not (eqb x 0) && leb c.args.least (shows c.args.n (at c.args.values.now) x)) _ _ _ c.any.ensures.ran (YieldsList-from_slice (take c.args.n c.args.values.now) (search rules)) (λ x b q h. search rules) in
    outvoted (omega (arith, c.requires.0, c.told-values)) c.requires.1 (sym shown ∙ none)
