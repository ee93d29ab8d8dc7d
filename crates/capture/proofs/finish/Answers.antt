-- `capture::finish` meets its contract: nothing is held when no line was begun.
use mathlib.Core.Path.{refl, ◌∙◌}
use native.Mathlib.Omega.{arith}
use Rattle.capture.specs.Feed.{closing}
use Rattle.capture.proofs.Texts.{appended_both, held_none}
use Rattle.capture.proofs.finish.Goals as goal

pub returns : goal.returns
unfolding closing
returns c = let table = c.put_table-end.ensures in
    let answer = c.put_answer-next.ensures in
    let last = c.last_answer-answer.ensures in
    record {
      tally = refl;
      held = refl;
      output = λ buffer line h. rw (← held_none h, ← last) (appended_both answer.0 table.0);
      counts = λ buffer line h. rw (← held_none h, ← last) c.count_answer.ensures;
      within = omega (arith, answer.1, table.1);
      size = table.0.size ∙ answer.0.size;
    }
