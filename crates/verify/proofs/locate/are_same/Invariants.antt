-- `verify::locate::are_same` meets its contract. The loop's invariant: `bits` is 0 exactly if the symbols passed are the same.
use mathlib.Core.Path.{◌≡◌}
use Prim.Native.Nat.{◌+◌, ◌≤◌}
use lib.Dec.{eqb}
use Rattle.parity.specs.Count.{all}
use Rattle.verify.specs.Verify.{difference}
use Rattle.verify.proofs.locate.are_same.Given as goal

abbrev pub invariant-loop-i : goal.invariant-loop-i
invariant-loop-i l = (l.i ≤ l.count) × (eqb l.bits 0 ≡ all l.i (λ k. eqb (difference l.received l.proposed (l.from + k)) 0))
