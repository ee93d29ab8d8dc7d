-- `decoder::locate::keep` meets its contract.
use mathlib.Core.Path.{sym, ◌∙◌}
use Prim.Native.Nat.{◌+◌, ◌*◌, ◌<◌}
use native.Mathlib.Nat.{lt_of_lt_of_le}
use native.Mathlib.Omega.{arith}
use Rattle.gtb.proofs.Bounds.{bounds}
use Rattle.gtb.proofs.Turns.{square_le}
use Rattle.correction.proofs.Rows.{in_word}
use Rattle.correction.proofs.Listing.{listed_keep, listed_skip}
use Rattle.decoder.proofs.locate.keep.Goals as goal

pub judge-judged-requires : goal.judge-judged-requires
judge-judged-requires c = (c.requires.0, c.requires.1)

pub overflow_mul-places : goal.overflow_mul-places
overflow_mul-places c =
    let place : c.args.row.number * c.args.row.checks.shape.q + c.args.column < 961 = lt_of_lt_of_le (in_word c.args.row.checks.shape c.args.row.inside c.requires.1) (square_le c.args.row.checks.shape.q (bounds c.args.row.checks.shape c.args.row.checks.lawful).q31) in
    omega (arith, place)

pub overflow_add-places : goal.overflow_add-places
overflow_add-places c =
    let place : c.args.row.number * c.args.row.checks.shape.q + c.args.column < 961 = lt_of_lt_of_le (in_word c.args.row.checks.shape c.args.row.inside c.requires.1) (square_le c.args.row.checks.shape.q (bounds c.args.row.checks.shape c.args.row.checks.lawful).q31) in
    omega (arith, place)

pub offset_bounds-places-count : goal.offset_bounds-places-count
offset_bounds-places-count c =
    let room : c.args.count < 8 = omega (arith, (bounds c.args.row.checks.shape c.args.row.checks.lawful).n8) in
    omega (arith, room)

pub bounds-places-count : goal.bounds-places-count
bounds-places-count c =
    let room : c.args.count < 8 = omega (arith, (bounds c.args.row.checks.shape c.args.row.checks.lawful).n8) in
    room

pub overflow_add-result : goal.overflow_add-result
overflow_add-result c =
    let room : c.args.count < 8 = omega (arith, (bounds c.args.row.checks.shape c.args.row.checks.lawful).n8) in
    omega (arith, room)

pub returns-then-judged : goal.returns-then-judged
returns-then-judged c =
    let room : c.args.count < 8 = omega (arith, (bounds c.args.row.checks.shape c.args.row.checks.lawful).n8) in
    listed_keep (sym c.judge-judged.ensures.located ∙ c.if-judged.true) room c.requires.3

pub returns : goal.returns
returns c = listed_skip (sym c.judge-judged.ensures.located ∙ c.if-judged.false) c.requires.3
