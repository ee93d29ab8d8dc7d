-- The loop of `tally::run`: every step is within the buffers, and the state's measure falls.
use Rattle.session.specs.Session.{Consistent}
use Rattle.program.specs.Steps.{measure_of, Sound}
use Rattle.tally.proofs.run.Given as goal

abbrev pub invariant-loop-block : goal.invariant-loop-block
invariant-loop-block g l = record {
  figures : Consistent l.reader.tally.session;
  sound : Sound l.state;
}

abbrev pub decreases-loop-block : goal.decreases-loop-block
decreases-loop-block g l = measure_of l.state
