-- `majority::correct::correct_all` meets its contract.
use Rattle.correction.proofs.Readings.{corrected}
use Rattle.majority.proofs.correct.correct_all.Goals as goal

pub returns : goal.returns
returns c = corrected _ _ _ (c.find.ensures.few _ c.in-Some.is _ c.requires.0 c.requires.1) c.apply.ensures
