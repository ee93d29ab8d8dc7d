-- `session::figures::marked_in` meets its contract: the marks so far have been counted.
use mathlib.Core.Path.{◌≡◌}
use Rattle.parity.specs.Count.{count}
use Rattle.session.specs.Session.{marked}
use Rattle.session.proofs.figures.marked_in.Given as goal

abbrev pub invariant-loop-mark : goal.invariant-loop-mark
invariant-loop-mark l = l.pages ≡ count l.mark-index (marked l.marks)
