-- `energy::number::billed` meets its contract.
use Rattle.energy.proofs.number.billed.Goals as goal

pub returns-in-Err : goal.returns-in-Err
returns-in-Err c = rw (c.in-Err.is, c.from.ensures)
