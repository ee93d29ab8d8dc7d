-- `encoder::interpolation::walk` meets its contract. The loop's invariant: i steps are done, u is where they lead, and `value` what stands there.
use mathlib.Core.Path.{◌≡◌}
use Prim.Native.Nat.{◌*◌, ◌%◌, ◌≤◌, ◌<◌}
use Rattle.gtb.specs.Square.{at}
use Rattle.encoder.specs.Steps.{difference}
use Rattle.encoder.proofs.Walks.{Walking}
use Rattle.encoder.proofs.interpolation.walk.Given as goal

abbrev pub invariant-loop-i : goal.invariant-loop-i
invariant-loop-i l = (l.i ≤ l.last) × (l.u ≡ l.delta * l.i % l.q) × (l.u < l.q) × (l.value ≡ at l.walked l.u) × Walking l.q l.delta (difference l.q l.word l.k l.t) l.i l.walked
