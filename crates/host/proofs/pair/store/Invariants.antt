-- `host::pair::store` meets its contract. The loop's invariant: the bytes stored and those of the symbols that are left are all bytes.
use mathlib.Core.Path.{◌≡◌}
use mathlib.Core.List.{◌++◌}
use Prim.Native.Nat.{◌*◌, ◌≤◌}
use lib.ListN.{length, take, drop}
use Rattle.host.specs.Bytes.{bytes_of}
use Rattle.host.proofs.pair.store.Given as goal

abbrev pub invariant-loop-i : goal.invariant-loop-i
invariant-loop-i l = (l.i-end ≡ length l.symbols) × (l.i ≤ length l.symbols) × (length l.bytes ≡ length l.initial.bytes) × (take (4 * l.i) l.bytes ++ bytes_of (drop l.i l.symbols) ≡ bytes_of l.symbols)
