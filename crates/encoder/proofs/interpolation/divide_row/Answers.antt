-- `encoder::interpolation::divide_row` meets its contract.
use mathlib.Core.Path.{ap, ◌∙◌}
use Prim.Native.Nat.{ℕ, ◌+◌, ◌-◌, ◌%◌}
use native.Mathlib.Omega.{arith}
use Rattle.parity.proofs.Cycles.{both}
use Rattle.encoder.proofs.Divides.{Numbers, numbers, row_divided}
use Rattle.encoder.proofs.interpolation.divide_row.Goals as goal

pub overflow_sub-z : goal.overflow_sub-z
overflow_sub-z c =
    let at-start : Numbers c.args.code.shape c.args.k c.args.t c.args.word.now = numbers _ c.args.code.lawful _ _ _ c.requires in
    let f = at-start in omega (arith, c.shift.ensures)

pub add_mod-delta-requires : goal.add_mod-delta-requires
add_mod-delta-requires c =
    let at-start : Numbers c.args.code.shape c.args.k c.args.t c.args.word.now = numbers _ c.args.code.lawful _ _ _ c.requires in
    let f = at-start in omega (arith, c.shift.ensures, c.shift-2.ensures)

pub walk-walked-requires : goal.walk-walked-requires
walk-walked-requires c =
    let at-start : Numbers c.args.code.shape c.args.k c.args.t c.args.word.now = numbers _ c.args.code.lawful _ _ _ c.requires in
    let f = at-start in
    (f.low, f.high, c.add_mod-delta.ensures.1, f.root_fits, f.row_fits', both _ _ _ c.requires.value.cyclic c.requires.root.cyclic)

pub run_sum-total-requires : goal.run_sum-total-requires
run_sum-total-requires c =
    let at-start : Numbers c.args.code.shape c.args.k c.args.t c.args.word.now = numbers _ c.args.code.lawful _ _ _ c.requires in
    let f = at-start in omega (arith, c.walk-walked.ensures.size)

pub store_row-requires : goal.store_row-requires
store_row-requires c =
    let at-start : Numbers c.args.code.shape c.args.k c.args.t c.args.word.now = numbers _ c.args.code.lawful _ _ _ c.requires in
    let f = at-start in omega (arith, c.walk-walked.ensures.size)

pub returns : goal.returns
returns c = let q = c.args.code.shape.q in
    row_divided _ c.args.code.lawful _ _ _ _ _ _ _ _ c.requires (ap (λ (x : ℕ). q - x) c.shift.ensures)
    (c.add_mod-delta.ensures.0 ∙ ap (λ (y : ℕ). (q - c.shift.result + y) % q) c.shift-2.ensures)
    c.walk-walked.ensures c.run_sum-total.ensures c.store_row.ensures
