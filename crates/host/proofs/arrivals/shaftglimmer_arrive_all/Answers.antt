-- `host::arrivals::shaftglimmer_arrive_all` meets its contract. A session with no page more is left as it was.
use mathlib.Core.Path.{refl}
use Rattle.host.proofs.Answers.{delivers_kept, delivers_written}
use Rattle.host.proofs.arrivals.shaftglimmer_arrive_all.Goals as goal

pub returns-then-after-before : goal.returns-then-after-before
returns-then-after-before c = let session = c.args.session.now in
    delivers_kept session _ _ _ _ c.arrive_all-delivered.result c.load-before.ensures c.arrive_all-delivered.ensures c.status-answer.ensures c.if-after-before.true refl

pub returns : goal.returns
returns c = let session = c.args.session.now in
    delivers_written session _ _ _ _ c.arrive_all-delivered.result c.load-before.ensures c.arrive_all-delivered.ensures c.status-answer.ensures c.if-after-before.false c.store.ensures
