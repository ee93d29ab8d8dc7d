-- `elimination::has` meets its contract.
use borrow.Author.Rules.{rules}
use Rattle.elimination.specs.Packed.{bit_at}
use Rattle.elimination.proofs.has.Goals as goal

pub returns : goal.returns
unfolding bit_at
returns c = search rules
