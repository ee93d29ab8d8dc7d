-- `capture::output::put_counts` meets its contract: after f turns the counts of the first f functions have been written.
use Rattle.capture.proofs.Texts.{Counting}
use Rattle.capture.proofs.output.put_counts.Given as goal

abbrev pub invariant-loop-f : goal.invariant-loop-f
invariant-loop-f l = Counting l.initial.out l.at l.calls l.out l.next l.f
