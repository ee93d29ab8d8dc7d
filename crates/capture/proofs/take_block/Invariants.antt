-- `capture::take_block` meets its contract. The loop's invariant: what is left of the block leads to the same end (`Reading`), and the memory of the look has its lengths.
use mathlib.Core.Path.{◌≡◌}
use lib.ListN.{length}
use Rattle.capture.proofs.Frames.{Reading}
use Rattle.capture.proofs.take_block.Given as goal

abbrev pub invariant-loop-size : goal.invariant-loop-size
invariant-loop-size l = record {
  reading : Reading l.initial.reader l.initial.line l.block l.initial.out l.line l.out l.reader l.rest;
  values : length l.values ≡ 1024;
  symbols : length l.symbols ≡ 900;
}

abbrev pub decreases-loop-size : goal.decreases-loop-size
decreases-loop-size l = length l.rest
