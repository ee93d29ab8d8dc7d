-- `capture::head::take_shape` meets its contract: the values that are stored are those of the line.
use Rattle.lines.proofs.Contents.{content_none}
use Rattle.capture.proofs.Judges.{shaped_other, shaped_three}
use Rattle.capture.proofs.head.take_shape.Goals as goal

pub returns-in_default : goal.returns-in_default
returns-in_default c = rw (content_none _ (c.parse.ensures.refused c.in_default.is), ← c.fault_in-malformed.ensures) c.fail.ensures

pub returns-then-count-ne3 : goal.returns-then-count-ne3
returns-then-count-ne3 c = shaped_other (c.parse.ensures.accepted _ c.in-Some.is) _ c.if-count-ne3.true
    c.fault_in-malformed.ensures c.fail-then-count-ne3.ensures

pub returns : goal.returns
returns c = shaped_three (c.parse.ensures.accepted _ c.in-Some.is) _ c.if-count-ne3.false c.fault_in.ensures c.start_session.ensures
