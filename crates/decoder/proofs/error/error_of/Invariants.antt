-- `decoder::error::error_of` meets its contract. The loop's invariant: no check passed has j alone on it.
use mathlib.Core.Path.{◌≡◌}
use mathlib.Core.Bool.{false}
use Prim.Native.Nat.{ℕ, ◌<◌, ◌≤◌}
use Rattle.decoder.specs.Steps.{alone_among_places}
use Rattle.decoder.proofs.error.error_of.Given as goal

abbrev pub invariant-loop-t : goal.invariant-loop-t
invariant-loop-t l = (l.t ≤ l.n) × ((u : ℕ) → u < l.t → alone_among_places l.checks.shape l.places l.count l.j u ≡ false)
