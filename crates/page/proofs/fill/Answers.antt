-- `page::fill` meets its contract.
use mathlib.Core.Path.{◌∙◌}
use native.Mathlib.Omega.{arith}
use lib.ListN.{length-set, length-take, length-drop}
use Rattle.gtb.proofs.Copies.{whole_copy}
use Rattle.page.proofs.Parts.{filled}
use Rattle.page.proofs.fill.Goals as goal

pub returns : goal.returns
returns c = filled c.args.number c.args.marks.now c.args.symbols.now c.requires.0
    (c.copy.ensures ∙ whole_copy _ _ (simp (length-take, length-drop, length-set) (omega arith))) (c.fill.ensures.after (λ y e. e))
