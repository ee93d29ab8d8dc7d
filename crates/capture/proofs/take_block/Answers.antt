-- `capture::take_block` meets its contract. The loop's invariant: what is left of the block leads to the same end (`Reading`), and the memory of the look has its lengths.
use mathlib.Core.Path.{refl, sym, ◌∙◌}
use Rattle.capture.proofs.Frames.{rest_tail, line_ended, reading_begins, block_taken, reading_on}
use Rattle.capture.proofs.Looks.{foretold_known}
use Rattle.capture.proofs.take_block.Goals as goal

pub loop-size-init : goal.loop-size-init
loop-size-init c = record { reading = reading_begins _ _ _ _ c.requires.0 c.requires.2; values = refl; symbols = refl }

-- the outcome was known
pub loop-size-preserved-in-Known : goal.loop-size-preserved-in-Known
loop-size-preserved-in-Known c =
    let inv = c.loop-size.invariant in
    let put = c.put_line.ensures in
    let found = sym c.find_newline.ensures ∙ c.in-Some.is in
    let ended = line_ended _ inv.reading.figures (foretold_known c.glance-seen.ensures.0 c.in-Known.is) put.0 c.count_outcome-reader.ensures put.1 in
    record {
      reading = rw rest_tail (reading_on inv.reading found c.append.ensures c.line_end-end.ensures ended);
      values = c.glance-seen.ensures.1;
      symbols = c.glance-seen.auto.symbols ∙ inv.symbols;
    }

-- the line was judged
pub loop-size-preserved : goal.loop-size-preserved
loop-size-preserved c =
    let inv = c.loop-size.invariant in
    let found = sym c.find_newline.ensures ∙ c.in-Some.is in
    record {
      reading = rw rest_tail (reading_on inv.reading found c.append.ensures c.line_end-end.ensures c.end_line-reader.ensures);
      values = c.glance-seen.ensures.1;
      symbols = c.glance-seen.auto.symbols ∙ inv.symbols;
    }

pub returns : goal.returns
returns c =
    let taken = block_taken c.loop-size.invariant.reading (sym c.find_newline.ensures ∙ c.in_default.is) c.append-2.ensures c.requires.1 in
    record { fed = taken.fed; figures = taken.figures; within = taken.within; line = taken.line; size = taken.size }
