-- `encoder::runs::place_row` meets its contract. The loop's invariant: i symbols are written, and `sum` is their XOR.
use mathlib.Core.Path.{◌≡◌}
use Prim.Native.Nat.{◌+◌, ◌≤◌}
use Rattle.parity.specs.Xor.{xor_sum}
use Rattle.gtb.specs.Square.{at}
use Rattle.parity.specs.Lists.{Written}
use Rattle.encoder.proofs.runs.place_row.Given as goal

abbrev pub invariant-loop-i : goal.invariant-loop-i
invariant-loop-i l = (l.i ≤ l.count) × (l.sum ≡ xor_sum l.i (λ j. at l.symbols (l.start + j))) × Written (l.a + 1) l.i (λ j. at l.symbols (l.start + j)) l.initial.word l.word
