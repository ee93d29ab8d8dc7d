-- `session::way::Way::suits` meets its contract: the first two ways suit every shape.
use Rattle.session.specs.Arrival.{way_of}
use Rattle.session.proofs.way.Way.suits.Goals as goal

pub returns-in-Clean : goal.returns-in-Clean
unfolding way_of
returns-in-Clean c = rw c.in-Clean.is

pub returns-in-Vote : goal.returns-in-Vote
unfolding way_of
returns-in-Vote c = rw c.in-Vote.is

pub returns-in-Two : goal.returns-in-Two
unfolding way_of
returns-in-Two c = rw c.in-Two.is
