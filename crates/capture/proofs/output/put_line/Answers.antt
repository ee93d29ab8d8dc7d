-- `capture::output::put_line` meets its contract: each outcome is a line of at most 30 bytes.
use Rattle.capture.specs.Output.{outcome_line}
use Rattle.capture.proofs.Texts.{put_line_lem}
use Rattle.capture.proofs.output.put_line.Goals as goal

pub returns-in-Taken : goal.returns-in-Taken
unfolding outcome_line
returns-in-Taken c = rw c.in-Taken.is (put_line_lem c.requires c.put_outcome.ensures)

pub returns-in-Again : goal.returns-in-Again
unfolding outcome_line
returns-in-Again c = rw c.in-Again.is (put_line_lem c.requires c.put_outcome-in-Again.ensures)

pub returns-in-Refused : goal.returns-in-Refused
unfolding outcome_line
returns-in-Refused c = rw (c.in-Refused.is, ← c.from.ensures)
    (put_line_lem c.requires c.put_outcome-in-Refused.ensures)
