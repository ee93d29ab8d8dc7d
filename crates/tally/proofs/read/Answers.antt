-- `tally::read` meets its contract.
use Rattle.std.proofs.Common.{ap, arith}
use Rattle.program.specs.declared.Action.TheVariants.{BlameInput}
use Rattle.program.specs.Steps.{rank}
use Rattle.program.proofs.Moves.{stepped_by, ended_stepped, received_stepped}
use Rattle.tally.proofs.Acts.{asked}
use Rattle.tally.proofs.read.Goals as goal

pub received-requires : goal.received-requires
received-requires g c = (asked _ _ _ c.args.block.now c.wanted.ensures c.told-block (omega (arith, c.in-Ok.ensures.bound, c.read.auto.buf))).0

pub returns-in-Ok : goal.returns-in-Ok
returns-in-Ok g c =
    let few = asked _ _ _ c.args.block.now c.wanted.ensures c.told-block (omega (arith, c.in-Ok.ensures.bound, c.read.auto.buf)) in
    stepped_by c.received.ensures (received_stepped _ c.requires.0 _ c.requires.1 few.0 few.1)

pub returns-in-Err : goal.returns-in-Err
returns-in-Err g c = stepped_by c.read_failed.ensures (ended_stepped _ c.requires.0 BlameInput (omega (arith, ap rank c.requires.1)) (omega arith))
