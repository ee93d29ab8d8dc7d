-- `capture::head::take_head` meets its contract, phase by phase.
use Rattle.capture.specs.Judge.{judged_of}
use Rattle.capture.proofs.Judges.{kept_short}
use Rattle.capture.proofs.head.take_head.Goals as goal

pub returns-in-ShapeNames : goal.returns-in-ShapeNames
unfolding judged_of
returns-in-ShapeNames c = rw (c.in-ShapeNames.is, kept_short _ c.requires.1, ← c.is_shape_names.ensures, ← c.fault_in-wrong.ensures) c.take_names.ensures

pub returns-in-ShapeValues : goal.returns-in-ShapeValues
unfolding judged_of
returns-in-ShapeValues c = rw (c.in-ShapeValues.is, kept_short _ c.requires.1) c.take_shape.ensures

pub returns-in-WordNames : goal.returns-in-WordNames
unfolding judged_of
returns-in-WordNames c = rw (c.in-WordNames.is, kept_short _ c.requires.1, ← c.is_word_names.ensures, ← c.fault_in-wrong-in-WordNames.ensures) c.take_names-in-WordNames.ensures

pub returns-in-Ended : goal.returns-in-Ended
unfolding judged_of
returns-in-Ended c = rw c.in-Ended.is c.pass-in-Ended.ensures
