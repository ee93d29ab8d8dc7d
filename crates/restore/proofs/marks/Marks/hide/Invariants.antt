-- `restore::marks::Marks::hide` meets its contract. The loop's invariant: both tables have their value at the first t checks.
use mathlib.Core.Path.{◌≡◌}
use Prim.Native.Nat.{◌≤◌}
use lib.ListN.{length}
use Rattle.restore.specs.Steps.{Put}
use Rattle.restore.proofs.marks.Marks.hide.Given as goal

abbrev pub invariant-loop-t : goal.invariant-loop-t
invariant-loop-t l = (l.t ≤ l.n) × (length l.self.seen ≡ 248) × (length l.self.touched ≡ 248)
    × Put l.checks.shape l.j 0 l.t l.initial.self.seen l.self.seen × Put l.checks.shape l.j 1 l.t l.initial.self.touched l.self.touched
