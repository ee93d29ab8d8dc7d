-- `program::shown::put_lowest` meets its contract.
use borrow.Author.Tests.{lt-ltb, le-ltb}
use mathlib.Core.List.{append_assoc}
use Rattle.program.specs.Shown.{lowest_text}
use Rattle.program.proofs.shown.put_lowest.Goals as goal

pub returns-then-lowest-lt1024 : goal.returns-then-lowest-lt1024
unfolding lowest_text
returns-then-lowest-lt1024 c = rw (lt-ltb c.args.lowest 1024 c.if-lowest-lt1024.true) (simp (c.put_number.ensures.0, c.put.ensures, append_assoc))

pub returns-else-lowest-lt1024 : goal.returns-else-lowest-lt1024
unfolding lowest_text
returns-else-lowest-lt1024 c = rw (le-ltb c.args.lowest 1024 c.if-lowest-lt1024.false) c.put-else-lowest-lt1024.ensures
