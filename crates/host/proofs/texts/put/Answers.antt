-- `host::texts::put` meets its contract: the text stands in the table between two starts, and there is room for it.
use mathlib.Core.Path.{ap}
use native.Mathlib.Omega.{arith}
use lib.ListN.{length}
use Rattle.host.proofs.Placed.{placed, text_short, copied}
use Rattle.host.proofs.texts.put.Goals as goal

pub slice_bounds-put_text-count : goal.slice_bounds-put_text-count
slice_bounds-put_text-count c = (placed c.args.refusal c.texts-all.ensures c.starts-starts.ensures c.requires.0).rises

pub slice_bounds-put_text-start : goal.slice_bounds-put_text-start
slice_bounds-put_text-start c = (placed c.args.refusal c.texts-all.ensures c.starts-starts.ensures c.requires.0).rises

pub slice_bounds-put_text-end : goal.slice_bounds-put_text-end
slice_bounds-put_text-end c = (placed c.args.refusal c.texts-all.ensures c.starts-starts.ensures c.requires.0).fits

pub put_text-requires : goal.put_text-requires
put_text-requires c =
    let at = placed c.args.refusal c.texts-all.ensures c.starts-starts.ensures c.requires.0 in
    omega (arith, ap length at.text, text_short c.args.refusal c.requires.0, ap length c.requires.1)

pub returns : goal.returns
returns c =
    let at = placed c.args.refusal c.texts-all.ensures c.starts-starts.ensures c.requires.0 in
    record {
      size = omega (arith, c.put_text.ensures.next, ap length at.text);
      bytes = copied _ c.args.text.now at.text c.requires.1 c.put_text.ensures.written;
    }
