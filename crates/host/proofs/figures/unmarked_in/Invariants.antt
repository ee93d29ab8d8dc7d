-- `host::figures::unmarked_in` meets its contract: of the marks so far each is no, and counted, or yes.
use mathlib.Core.Path.{◌≡◌}
use mathlib.Core.List.{map}
use Prim.Native.Nat.{◌+◌}
use Rattle.parity.specs.Count.{count}
use Rattle.session.specs.Session.{marked}
use Rattle.host.specs.Crossing.{is_yes}
use Rattle.host.proofs.figures.unmarked_in.Given as goal

abbrev pub invariant-loop-mark : goal.invariant-loop-mark
invariant-loop-mark l = l.unmarked + count l.mark-index (marked (map is_yes l.marks)) ≡ l.mark-index
