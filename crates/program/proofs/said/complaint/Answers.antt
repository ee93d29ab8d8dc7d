-- `program::said::complaint` meets its contract.
use Rattle.program.specs.Said.{complaint_text}
use Rattle.program.proofs.said.complaint.Goals as goal

pub returns : goal.returns
unfolding complaint_text
returns c = simp (c.put.ensures, c.put_if.ensures.0, c.new-text.ensures)
