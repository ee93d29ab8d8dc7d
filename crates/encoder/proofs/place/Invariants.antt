-- `encoder::place` meets its contract. The loop's invariant: i rows are put down.
use Prim.Native.Nat.{◌≤◌}
use Rattle.encoder.proofs.Places.{Placing}
use Rattle.encoder.proofs.place.Given as goal

abbrev pub invariant-loop-i : goal.invariant-loop-i
invariant-loop-i l = (l.i ≤ l.rows) × Placing l.q l.m l.p l.i l.symbols l.initial.word l.word
