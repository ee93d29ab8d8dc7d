-- `lines::is_text` meets its contract.
use Rattle.std.proofs.Common.{◌∙◌}
use lib.Pointwise.{bytes_decides}
use Rattle.lines.proofs.Same.{tested_same}
use Rattle.lines.proofs.is_text.Goals as goal

pub returns : goal.returns
returns c = c.eq.ensures ∙ tested_same _ _ _ (bytes_decides c.args.bytes.now c.args.text.now)
