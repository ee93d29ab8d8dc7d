-- `host::arrival::take_word` meets its contract: a short word fits the arrays, and a long one's scratch takes what came.
use mathlib.Core.Path.{sym, ◌∙◌}
use Prim.Native.Nat.{◌≤◌}
use native.Mathlib.Omega.{arith}
use lib.ListN.{length}
use lib.Seq.{length-take-le}
use Rattle.gtb.proofs.Sizes.{sizes}
use Rattle.host.proofs.Room.{long_scratch, few_data}
use Rattle.host.proofs.arrival.take_word.Goals as goal

pub info_length-info-requires : goal.info_length-info-requires
info_length-info-requires c = c.requires.0.openable.lawful

pub slice_bounds-came-end : goal.slice_bounds-came-end
slice_bounds-came-end c = c.if-size-le-FEW.true

pub slice_bounds-settle_word-end : goal.slice_bounds-settle_word-end
slice_bounds-settle_word-end c = sym (length-take-le _ _ c.if-size-le-FEW.true)

pub slice_bounds-few-end : goal.slice_bounds-few-end
slice_bounds-few-end c =
    let few-room : c.info_length-info.result ≤ 144 = let o = c.requires.0.openable in
    omega (arith, c.info_length-info.ensures, few_data _ o.lawful (omega (arith, c.if-size-le-FEW.true, o.size))) in
    few-room

pub slice_bounds-settle_word-end-then-size-le-FEW : goal.slice_bounds-settle_word-end-then-size-le-FEW
slice_bounds-settle_word-end-then-size-le-FEW c =
    let few-room : c.info_length-info.result ≤ 144 = let o = c.requires.0.openable in
    omega (arith, c.info_length-info.ensures, few_data _ o.lawful (omega (arith, c.if-size-le-FEW.true, o.size))) in
    sym (length-take-le _ _ few-room)

pub settle_word-requires : goal.settle_word-requires
settle_word-requires c =
    let few-room : c.info_length-info.result ≤ 144 = let o = c.requires.0.openable in
    omega (arith, c.info_length-info.ensures, few_data _ o.lawful (omega (arith, c.if-size-le-FEW.true, o.size))) in
    (c.requires.0, length-take-le _ _ c.if-size-le-FEW.true, length-take-le _ _ few-room ∙ c.info_length-info.ensures)

pub slice_bounds-settle_word-end-then-info-le-SHORT : goal.slice_bounds-settle_word-end-then-info-le-SHORT
slice_bounds-settle_word-end-then-info-le-SHORT c =
    let scratch-room : length c.args.word.now ≤ length c.args.scratch.now = let o = c.requires.0.openable in
    omega (arith, long_scratch _ o.lawful (omega (arith, c.if-size-le-FEW.false, o.size)), o.size, c.requires.1) in
    scratch-room

pub slice_bounds-settle_word-end-then-info-le-SHORT-2 : goal.slice_bounds-settle_word-end-then-info-le-SHORT-2
slice_bounds-settle_word-end-then-info-le-SHORT-2 c =
    let scratch-room : length c.args.word.now ≤ length c.args.scratch.now = let o = c.requires.0.openable in
    omega (arith, long_scratch _ o.lawful (omega (arith, c.if-size-le-FEW.false, o.size)), o.size, c.requires.1) in
    sym (length-take-le _ _ scratch-room)

pub slice_bounds-short-end : goal.slice_bounds-short-end
slice_bounds-short-end c = c.if-info-le-SHORT.true

pub slice_bounds-settle_word-end-then-info-le-SHORT-3 : goal.slice_bounds-settle_word-end-then-info-le-SHORT-3
slice_bounds-settle_word-end-then-info-le-SHORT-3 c = sym (length-take-le _ _ c.if-info-le-SHORT.true)

pub settle_word-requires-then-info-le-SHORT : goal.settle_word-requires-then-info-le-SHORT
settle_word-requires-then-info-le-SHORT c =
    let scratch-room : length c.args.word.now ≤ length c.args.scratch.now = let o = c.requires.0.openable in
    omega (arith, long_scratch _ o.lawful (omega (arith, c.if-size-le-FEW.false, o.size)), o.size, c.requires.1) in
    (c.requires.0, length-take-le _ _ scratch-room, length-take-le _ _ c.if-info-le-SHORT.true ∙ c.info_length-info.ensures)

pub slice_bounds-settle_word-end-2 : goal.slice_bounds-settle_word-end-2
slice_bounds-settle_word-end-2 c =
    let scratch-room : length c.args.word.now ≤ length c.args.scratch.now = let o = c.requires.0.openable in
    omega (arith, long_scratch _ o.lawful (omega (arith, c.if-size-le-FEW.false, o.size)), o.size, c.requires.1) in
    scratch-room

pub slice_bounds-settle_word-end-3 : goal.slice_bounds-settle_word-end-3
slice_bounds-settle_word-end-3 c =
    let scratch-room : length c.args.word.now ≤ length c.args.scratch.now = let o = c.requires.0.openable in
    omega (arith, long_scratch _ o.lawful (omega (arith, c.if-size-le-FEW.false, o.size)), o.size, c.requires.1) in
    sym (length-take-le _ _ scratch-room)

pub slice_bounds-symbols-end : goal.slice_bounds-symbols-end
slice_bounds-symbols-end c =
    let info-room : c.info_length-info.result ≤ 900 = omega (arith, c.info_length-info.ensures, (sizes _ c.requires.0.openable.lawful).info) in
    info-room

pub slice_bounds-settle_word-end-4 : goal.slice_bounds-settle_word-end-4
slice_bounds-settle_word-end-4 c =
    let info-room : c.info_length-info.result ≤ 900 = omega (arith, c.info_length-info.ensures, (sizes _ c.requires.0.openable.lawful).info) in
    sym (length-take-le _ _ info-room)

pub settle_word-requires-2 : goal.settle_word-requires-2
settle_word-requires-2 c =
    let scratch-room : length c.args.word.now ≤ length c.args.scratch.now = let o = c.requires.0.openable in
    omega (arith, long_scratch _ o.lawful (omega (arith, c.if-size-le-FEW.false, o.size)), o.size, c.requires.1) in
    let info-room : c.info_length-info.result ≤ 900 = omega (arith, c.info_length-info.ensures, (sizes _ c.requires.0.openable.lawful).info) in
    (c.requires.0, length-take-le _ _ scratch-room, length-take-le _ _ info-room ∙ c.info_length-info.ensures)
