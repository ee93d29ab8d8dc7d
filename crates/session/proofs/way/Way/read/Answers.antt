-- `session::way::Way::read` meets its contract: what each reader ensures is what its way gives.
use Rattle.session.proofs.Ways.{reads_clean, reads_vote, reads_two}
use Rattle.session.proofs.way.Way.read.Goals as goal

pub returns-in-Clean : goal.returns-in-Clean
returns-in-Clean c = rw c.in-Clean.is (reads_clean c.decode.ensures.read)

pub returns-in-Vote : goal.returns-in-Vote
returns-in-Vote c = rw c.in-Vote.is (reads_vote c.decode_majority.ensures.read)

pub returns-in-Two : goal.returns-in-Two
returns-in-Two c = rw c.in-Two.is (reads_two c.decode_two.ensures.read)
