-- `capture::glance::open_line` meets its contract: the values that are stored arrive.
use mathlib.Core.Path.{ap}
use Rattle.lines.proofs.Contents.{content_none}
use Rattle.session.proofs.Opens.{tells_refused}
use Rattle.capture.specs.Judge.{brought_by}
use Rattle.capture.proofs.glance.open_line.Goals as goal

pub returns-in_default : goal.returns-in_default
returns-in_default c = let parsed = c.parse.ensures in
    (tells_refused (ap (brought_by _) (content_none _ (parsed.refused c.in_default.is))), parsed.size)
