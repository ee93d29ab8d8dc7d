-- `verify::locate::keep` meets its contract.
use Rattle.correction.proofs.Listing.{listed_keep, listed_skip}
use Rattle.verify.proofs.Table.{differ_yes, differ_no}
use Rattle.verify.proofs.locate.keep.Goals as goal

pub returns-then-received-j : goal.returns-then-received-j
returns-then-received-j c = listed_keep (differ_yes c.args.received.now c.args.proposed.now c.args.j c.if-received-j.true) c.requires.2 c.requires.3

pub returns : goal.returns
returns c = listed_skip (differ_no c.args.received.now c.args.proposed.now c.args.j c.if-received-j.false) c.requires.3
