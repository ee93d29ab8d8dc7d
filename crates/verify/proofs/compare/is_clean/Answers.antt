-- `verify::compare::is_clean` meets its contract. What holds of the list, the errors and the table is what the definitions say (Table.antt).
use mathlib.Core.Path.{ap, ◌∙◌}
use mathlib.Core.Bool.{not}
use native.Mathlib.Omega.{arith}
use borrow.Author.Rules.{rules}
use Rattle.gtb.proofs.Bounds.{bounds}
use Rattle.gtb.proofs.Words.{test_silent}
use Rattle.correction.proofs.Listing.{within}
use Rattle.verify.proofs.Table.{differ_many, differ_inside, differ_few}
use Rattle.verify.proofs.compare.is_clean.Goals as goal

pub returns-in_default : goal.returns-in_default
returns-in_default c = differ_many _ c.args.checks.lawful _ _ (c.locate.ensures.many c.in_default.is)

pub list_differences-requires : goal.list_differences-requires
list_differences-requires c = (
  omega (arith, (c.locate.ensures.few _ c.in-Some.is).0, (bounds _ c.args.checks.lawful).n8),
  search rules,
  differ_inside c.args.checks.shape _ _ c.requires.0 c.requires.1 (c.locate.ensures.few _ c.in-Some.is).1,
)

pub cancel-requires : goal.cancel-requires
cancel-requires c = (c.requires.2.size, within c.args.checks.lawful (c.locate.ensures.few _ c.in-Some.is).0 (c.locate.ensures.few _ c.in-Some.is).1)

pub any_masked-requires : goal.any_masked-requires
any_masked-requires c = within c.args.checks.lawful (c.locate.ensures.few _ c.in-Some.is).0 (c.locate.ensures.few _ c.in-Some.is).1

pub returns : goal.returns
returns c =
    let (_, _, y, silent) = c.requires in
    ap not c.any_masked.ensures
    ∙ differ_few _ _ _ c.args.checks.lawful (c.locate.ensures.few _ c.in-Some.is).1 c.list_differences.ensures y (test_silent _ _ silent) c.cancel.ensures
    (c.locate.ensures.few _ c.in-Some.is).0
