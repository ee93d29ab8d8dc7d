-- `gtb::code::Code::gather` meets its contract. The loop's invariant: the symbols of i rows are copied.
use Prim.Native.Nat.{◌≤◌}
use Rattle.gtb.proofs.Gathers.{RowsGathered}
use Rattle.gtb.proofs.code.Code.gather.Given as goal

abbrev pub invariant-loop-i : goal.invariant-loop-i
invariant-loop-i l = (l.i ≤ l.rows) × RowsGathered l.q l.m l.p l.i l.word l.initial.symbols l.symbols
