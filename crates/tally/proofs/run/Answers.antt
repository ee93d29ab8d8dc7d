-- `tally::run` is safe and ends: every step is within the buffers, and the state's measure falls.
use Rattle.capture.proofs.Sessions.{start_consistent}
use Rattle.tally.proofs.Acts.{begun_there, took_stepped, closing_stepped}
use Rattle.tally.proofs.run.Goals as goal

pub loop-block-init : goal.loop-block-init
loop-block-init g c = record {
  figures = rw c.begin-reader.ensures.tally start_consistent;
  sound = begun_there _ _ _ c.begin-state.ensures c.begin-reader.ensures.at;
}

pub loop-block-smaller-in-Take : goal.loop-block-smaller-in-Take
loop-block-smaller-in-Take g c = (took_stepped c.loop-block.invariant.sound c.in-Take.is c.take-taken.ensures).less

pub loop-block-smaller-in-Close : goal.loop-block-smaller-in-Close
loop-block-smaller-in-Close g c = (closing_stepped c.loop-block.invariant.sound c.in-Close.is c.close-closed.ensures).less
