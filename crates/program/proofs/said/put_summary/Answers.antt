-- `program::said::put_summary` meets its contract.
use mathlib.Core.List.{append_assoc}
use Rattle.program.specs.Shown.{summary_text}
use Rattle.program.proofs.said.put_summary.Goals as goal

pub returns-then-person : goal.returns-then-person
unfolding summary_text
returns-then-person c =
    rw c.if-person.true (simp (c.put_numbered-then-person-2.ensures.0, c.put_numbered-then-person.ensures.0, c.put_numbered.ensures.0, append_assoc))
