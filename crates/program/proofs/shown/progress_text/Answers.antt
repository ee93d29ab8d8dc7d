-- `program::shown::progress_text` meets its contract.
use mathlib.Core.List.{append_assoc}
use Rattle.program.specs.Shown.{progress_text}
use Rattle.program.proofs.shown.progress_text.Goals as goal

pub returns : goal.returns
unfolding progress_text
returns c = simp (c.put_lowest.ensures, c.put_numbered-2.ensures.0, c.put_numbered.ensures.0, c.put.ensures, c.new-text.ensures, append_assoc)
