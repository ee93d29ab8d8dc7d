-- `batch::run` meets its contract. The loop's invariant: after i words there is a run of the first i arrivals, and all that is lent is as they leave it.
use mathlib.Core.Path.{◌≡◌}
use lib.ListN.{length}
use Rattle.gtb.specs.Shape.{info_length}
use Rattle.session.specs.Named.{number_of}
use Rattle.batch.proofs.Turns.{Delivering}
use Rattle.batch.proofs.run.Given as goal

abbrev pub invariant-loop-i : goal.invariant-loop-i
invariant-loop-i l = Delivering l.initial.after (number_of l.way) l.initial.words l.scratch l.i l.words l.outcomes l.after × (length l.came ≡ l.size) × (length l.symbols ≡ info_length l.initial.after.shape)
