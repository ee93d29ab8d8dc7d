-- `capture::head::fault_in` meets its contract.
use Rattle.capture.proofs.Judges.{marked_is, returned_is}
use Rattle.capture.proofs.head.fault_in.Goals as goal

pub returns : goal.returns
returns c = rw (marked_is c.args.line.now c.starts_with.ensures.value, returned_is c.args.line.now c.ends_with.ensures.value)
