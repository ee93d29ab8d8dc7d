-- `session::figures::marked_below` meets its contract: the marks before the piece at hand have been counted.
use mathlib.Core.Path.{◌≡◌}
use Prim.Native.Nat.{◌+◌}
use Rattle.std.specs.Slice.Iter.{chunks_rest, chunks_size}
use Rattle.parity.specs.Count.{count}
use Rattle.session.specs.Session.{marked}
use Rattle.session.specs.Steps.{marks_in}
use Rattle.session.proofs.figures.marked_below.Given as goal

abbrev pub invariant-loop-part : goal.invariant-loop-part
invariant-loop-part l = (chunks_size l.part-iterator ≡ 128) × (l.pages + marks_in (chunks_rest l.part-iterator) ≡ count l.end (marked l.taken))
