-- `decoder::looking::note_row` meets its contract. The loop's invariant is the contract up to column c.
use mathlib.Core.Path.{refl}
use Prim.Native.Nat.{◌+◌, ◌*◌, ◌<◌}
use native.Mathlib.Nat.{add-zero, add_assoc, le_antisymm, lt_of_lt_of_le}
use native.Mathlib.Omega.{arith}
use borrow.Author.Rules.{rules}
use Rattle.gtb.specs.Shape.{word_length}
use Rattle.gtb.proofs.Bounds.{bounds}
use Rattle.gtb.proofs.Turns.{square_le}
use Rattle.correction.proofs.Rows.{in_word}
use Rattle.parity.proofs.Writes.{begins_more}
use Rattle.decoder.proofs.looking.note_row.Goals as goal

pub offset_bounds-syn-row : goal.offset_bounds-syn-row
offset_bounds-syn-row c =
    let inside : c.args.row < 248 = omega (arith, (bounds c.args.checks.shape c.args.checks.lawful).q31) in
    omega (arith, inside)

pub bounds-syn-row : goal.bounds-syn-row
bounds-syn-row c =
    let inside : c.args.row < 248 = omega (arith, (bounds c.args.checks.shape c.args.checks.lawful).q31) in
    inside

pub loop-c-init : goal.loop-c-init
loop-c-init c = (search rules, rw (add-zero (c.args.row * c.args.checks.shape.q)) c.requires.1)

pub judge-judged-requires : goal.judge-judged-requires
judge-judged-requires c = rw (c.of-in_row.ensures.0, c.of-in_row.ensures.1) (refl, c.loop-c-test.true)

pub overflow_mul-looked : goal.overflow_mul-looked
overflow_mul-looked c =
    let place : c.args.row * c.args.checks.shape.q + c.loop-c.c < word_length c.args.checks.shape = in_word c.args.checks.shape c.requires.0 c.loop-c-test.true in
    let small : c.args.row * c.args.checks.shape.q + c.loop-c.c < 961 = lt_of_lt_of_le place (square_le c.args.checks.shape.q (bounds c.args.checks.shape c.args.checks.lawful).q31) in
    omega (arith, small)

pub overflow_add-looked : goal.overflow_add-looked
overflow_add-looked c =
    let place : c.args.row * c.args.checks.shape.q + c.loop-c.c < word_length c.args.checks.shape = in_word c.args.checks.shape c.requires.0 c.loop-c-test.true in
    let small : c.args.row * c.args.checks.shape.q + c.loop-c.c < 961 = lt_of_lt_of_le place (square_le c.args.checks.shape.q (bounds c.args.checks.shape c.args.checks.lawful).q31) in
    omega (arith, small)

pub offset_bounds-looked-row : goal.offset_bounds-looked-row
offset_bounds-looked-row c =
    let place : c.args.row * c.args.checks.shape.q + c.loop-c.c < word_length c.args.checks.shape = in_word c.args.checks.shape c.requires.0 c.loop-c-test.true in
    let small : c.args.row * c.args.checks.shape.q + c.loop-c.c < 961 = lt_of_lt_of_le place (square_le c.args.checks.shape.q (bounds c.args.checks.shape c.args.checks.lawful).q31) in
    omega (arith, small)

pub bounds-looked-row : goal.bounds-looked-row
bounds-looked-row c =
    let place : c.args.row * c.args.checks.shape.q + c.loop-c.c < word_length c.args.checks.shape = in_word c.args.checks.shape c.requires.0 c.loop-c-test.true in
    rw c.loop-c.invariant.1.size place

pub loop-c-preserved : goal.loop-c-preserved
loop-c-preserved c =
    let place : c.args.row * c.args.checks.shape.q + c.loop-c.c < word_length c.args.checks.shape = in_word c.args.checks.shape c.requires.0 c.loop-c-test.true in
    (search rules, rw (← add_assoc) (begins_more _ place (rw (c.of-in_row.ensures.0, c.of-in_row.ensures.1) at c.judge-judged.ensures.looked) c.loop-c.invariant.1))

pub returns : goal.returns
returns c = rw (le_antisymm c.loop-c.invariant.0 c.loop-c-test.false) at c.loop-c.invariant.1
