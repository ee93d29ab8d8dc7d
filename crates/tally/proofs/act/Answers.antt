-- `tally::act` meets its contract.
use Rattle.program.proofs.Moves.{stepped_by, looked_stepped, drawn_stepped}
use Rattle.tally.proofs.Acts.{stopped_stepped}
use Rattle.tally.proofs.act.Goals as goal

pub returns-in-Look : goal.returns-in-Look
returns-in-Look g c = λ pos. stepped_by c.looked.ensures (looked_stepped _ c.requires _ c.in-Look.is)

pub returns-in-Draw : goal.returns-in-Draw
returns-in-Draw g c = λ pos. stepped_by c.drew.ensures (drawn_stepped _ c.requires c.in-Draw.is)

pub returns-in-Say : goal.returns-in-Say
returns-in-Say g c = λ pos. stopped_stepped c.requires pos c.stopped.ensures

pub returns-in-BlameInput : goal.returns-in-BlameInput
returns-in-BlameInput g c = λ pos. stopped_stepped c.requires pos c.blame.ensures

pub returns-in-BlameOutput : goal.returns-in-BlameOutput
returns-in-BlameOutput g c = λ pos. stopped_stepped c.requires pos c.blame-in-BlameOutput.ensures

pub returns-in-Take : goal.returns-in-Take
returns-in-Take g c = λ pos. stopped_stepped c.requires pos c.stopped-in-Take.ensures
