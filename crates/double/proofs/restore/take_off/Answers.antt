-- `double::restore::take_off` meets its contract.
use Rattle.double.proofs.Trials.{places, errors, pair_taken}
use Rattle.double.proofs.restore.take_off.Goals as goal

pub returns : goal.returns
returns c = pair_taken c.args.shape (places c.args.pair) (errors c.args.pair) c.requires.1 c.requires.2 c.apply.ensures
