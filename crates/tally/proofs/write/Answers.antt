-- `tally::write` meets its contract.
use Rattle.std.proofs.Common.{ap, arith}
use Rattle.program.specs.declared.Action.TheVariants.{BlameOutput}
use Rattle.program.specs.Steps.{rank}
use Rattle.program.proofs.Moves.{stepped_by, ended_stepped, written_stepped}
use Rattle.tally.proofs.write.Goals as goal

pub returns-in-Ok : goal.returns-in-Ok
returns-in-Ok c = stepped_by c.written.ensures (written_stepped _ c.requires.0 c.requires.1)

pub returns-in-Err : goal.returns-in-Err
returns-in-Err c = stepped_by c.write_failed.ensures (ended_stepped _ c.requires.0 BlameOutput (omega (arith, ap rank c.requires.1)) (omega arith))
