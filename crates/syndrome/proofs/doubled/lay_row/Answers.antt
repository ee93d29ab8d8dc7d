-- `syndrome::doubled::lay_row` meets its contract: one run, and the same one behind it.
use Prim.Native.Nat.{◌+◌, ◌*◌, ◌≤◌}
use native.Mathlib.Omega.{arith}
use Rattle.gtb.proofs.Turns.{row_in, square_le}
use Rattle.syndrome.proofs.Doubles.{place_in, doubled_small, doubled_more}
use Rattle.syndrome.proofs.doubled.lay_row.Goals as goal

pub overflow_mul-to : goal.overflow_mul-to
overflow_mul-to c =
    let place-small : c.args.r * (c.args.q + c.args.q) + (c.args.q + c.args.q) ≤ 1922 = omega (arith, place_in c.args.r c.args.q c.requires.0, doubled_small c.args.q c.requires.1) in
    omega (arith, place-small)

pub overflow_mul-r : goal.overflow_mul-r
overflow_mul-r c =
    let row_small : c.args.r * c.args.q + c.args.q ≤ 961 = omega (arith, row_in c.args.r c.args.q c.requires.0, square_le c.args.q c.requires.1) in
    omega (arith, row_small)

pub copy_run-requires : goal.copy_run-requires
copy_run-requires c = let p = place_in c.args.r c.args.q c.requires.0 in
    let e = c.requires.3.size in
    (omega arith, omega (arith, row_in c.args.r c.args.q c.requires.0))

pub overflow_add-to-2 : goal.overflow_add-to-2
overflow_add-to-2 c =
    let place-small : c.args.r * (c.args.q + c.args.q) + (c.args.q + c.args.q) ≤ 1922 = omega (arith, place_in c.args.r c.args.q c.requires.0, doubled_small c.args.q c.requires.1) in
    omega (arith, place-small)

pub overflow_mul-r-2 : goal.overflow_mul-r-2
overflow_mul-r-2 c =
    let row_small : c.args.r * c.args.q + c.args.q ≤ 961 = omega (arith, row_in c.args.r c.args.q c.requires.0, square_le c.args.q c.requires.1) in
    omega (arith, row_small)

pub copy_run-requires-2 : goal.copy_run-requires-2
copy_run-requires-2 c = let p = place_in c.args.r c.args.q c.requires.0 in
    let e = c.requires.3.size in
    let kept = c.copy_run.ensures.size in
    (omega arith, omega (arith, row_in c.args.r c.args.q c.requires.0))

pub returns : goal.returns
returns c = doubled_more _ _ _ _ _ _ c.requires.3 c.copy_run.ensures c.copy_run-2.ensures
