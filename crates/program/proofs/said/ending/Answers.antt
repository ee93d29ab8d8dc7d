-- `program::said::ending` meets its contract.
use mathlib.Core.List.{append_assoc}
use Rattle.program.specs.Said.{limit_text, ending_text}
use Rattle.program.proofs.said.ending.Goals as goal

pub returns : goal.returns
unfolding limit_text ending_text
returns c = simp (c.put_summary.ensures, c.put_blame.ensures.0, c.put_if-2.ensures.0, c.put_if.ensures.0, c.new-text.ensures, append_assoc)
