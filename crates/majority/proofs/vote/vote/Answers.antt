-- `majority::vote::vote` meets its contract.
use mathlib.Core.Path.{◌∙◌}
use Rattle.gtb.proofs.Bounds.{bounds}
use Rattle.majority.proofs.Table.{values_vote}
use Rattle.majority.proofs.vote.vote.Goals as goal

pub elect-requires : goal.elect-requires
elect-requires c = (bounds _ c.args.checks.lawful).n8

pub returns : goal.returns
returns c = c.elect.ensures ∙ values_vote _ _ _ c.gather.ensures
