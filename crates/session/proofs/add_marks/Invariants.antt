-- `session::add_marks` meets its contract: the marks so far have been added.
use Rattle.session.proofs.Marks.{Turn}
use Rattle.session.proofs.add_marks.Given as goal

abbrev pub invariant-loop-mark : goal.invariant-loop-mark
invariant-loop-mark l = Turn l.initial.calls l.marks l.calls l.mark-index
