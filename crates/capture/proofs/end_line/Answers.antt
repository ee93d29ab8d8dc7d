-- `capture::end_line` meets its contract: what the look told is what the line is judged with.
use mathlib.Core.Path.{sym, ◌∙◌}
use Rattle.capture.proofs.Frames.{line_ended}
use Rattle.capture.proofs.end_line.Goals as goal

pub returns : goal.returns
returns c = let asked = c.requires in
    let put = c.put_answer.ensures in
    line_ended _ asked.0 (c.judge-judged.ensures ∙ sym asked.3.sure) put.0 c.count_answer.ensures put.1
