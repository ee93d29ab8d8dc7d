-- `program::argument::choose` meets its contract.
use borrow.Author.Tests.{lt-ltb, le-ltb}
use Rattle.program.specs.Choice.{choice_of}
use Rattle.program.proofs.argument.choose.Goals as goal

pub returns-then-count-lt2 : goal.returns-then-count-lt2
unfolding choice_of
returns-then-count-lt2 c = rw (lt-ltb _ 2 c.if-count-lt2.true)

pub returns-then-count-gt2 : goal.returns-then-count-gt2
unfolding choice_of
returns-then-count-gt2 c = rw (le-ltb _ 2 c.if-count-lt2.false, lt-ltb 2 _ c.if-count-gt2.true)

pub returns-else-count-gt2 : goal.returns-else-count-gt2
unfolding choice_of
returns-else-count-gt2 c = rw (le-ltb _ 2 c.if-count-lt2.false, le-ltb 2 _ c.if-count-gt2.false) c.meaning.ensures
