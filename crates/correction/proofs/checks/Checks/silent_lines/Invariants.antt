-- `correction::checks::Checks::silent_lines` meets its contract. The loop's invariant is the contract for the lines passed.
use mathlib.Core.Path.{◌≡◌}
use Prim.Native.Nat.{◌+◌, ◌*◌, ◌≤◌}
use Rattle.gtb.specs.Square.{at}
use Rattle.correction.specs.Error.{shows}
use Rattle.correction.proofs.checks.Checks.silent_lines.Given as goal

abbrev pub invariant-loop-line : goal.invariant-loop-line
invariant-loop-line l = (l.line ≤ l.q) × (l.silent ≡ shows l.line (λ L. at l.syn (l.t * l.q + L)) 0)
