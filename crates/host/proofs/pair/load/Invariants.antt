-- `host::pair::load` meets its contract. The loop's invariant: the symbols loaded and those of the bytes that are left are all symbols.
use mathlib.Core.Path.{◌≡◌}
use mathlib.Core.List.{◌++◌}
use Prim.Native.Nat.{◌*◌, ◌≤◌}
use lib.ListN.{length, take, drop}
use Rattle.host.specs.Bytes.{symbols_of}
use Rattle.host.proofs.pair.load.Given as goal

abbrev pub invariant-loop-i : goal.invariant-loop-i
invariant-loop-i l = (l.i-end ≡ length l.initial.symbols) × (l.i ≤ length l.initial.symbols) × (length l.symbols ≡ length l.initial.symbols) × (take l.i l.symbols ++ symbols_of (drop (4 * l.i) l.bytes) ≡ symbols_of l.bytes)
