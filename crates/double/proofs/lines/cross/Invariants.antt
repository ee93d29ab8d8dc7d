-- `double::lines::cross` meets its contract. The loop's invariant: no position of the rows passed is on both lines.
use mathlib.Core.Path.{◌≡◌}
use Prim.Native.Nat.{ℕ, ◌<◌, ◌≤◌}
use Rattle.gtb.specs.Square.{line_of}
use Rattle.correction.specs.Guesses.{OnRow}
use Rattle.double.proofs.lines.cross.Given as goal

abbrev pub invariant-loop-row : goal.invariant-loop-row
invariant-loop-row l = (l.row ≤ l.q) × ((r : ℕ) → r < l.row → (i : ℕ) → OnRow l.checks.shape l.u r l.b i → line_of l.checks.shape l.t i ≡ l.a → ⊥)
