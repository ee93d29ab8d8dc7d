-- `erasure::system::kept_check` meets its contract.
use mathlib.Core.Path.{◌≡◌}
use Prim.Native.Nat.{ℕ, ◌+◌, ◌-◌, ◌*◌, ◌/◌, ◌%◌, ◌<◌, ◌≤◌}
use native.Mathlib.Omega.{arith}
use Rattle.gtb.specs.Kept.{kept_direction, kept_line}
use Rattle.gtb.proofs.Bounds.{bounds}
use Rattle.erasure.proofs.Numbers.{check_first, check_later, kept_fits}
use Rattle.erasure.proofs.system.kept_check.Goals as goal

pub returns-then-i-q : goal.returns-then-i-q
returns-then-i-q c = check_first c.args.shape c.requires.0 c.args.i c.if-i-q.true

pub overflow_sub-others : goal.overflow_sub-others
overflow_sub-others c =
    let q : ℕ = c.args.shape.q in
    let order : 3 ≤ q = (bounds c.args.shape c.requires.0).q3 in
    omega (arith, order)

pub overflow_sub-t : goal.overflow_sub-t
overflow_sub-t c =
    let q : ℕ = c.args.shape.q in
    let order : 3 ≤ q = (bounds c.args.shape c.requires.0).q3 in
    omega (arith, order)

pub nonzero_div-t : goal.nonzero_div-t
nonzero_div-t c =
    let q : ℕ = c.args.shape.q in
    let order : 3 ≤ q = (bounds c.args.shape c.requires.0).q3 in
    omega (arith, order)

pub overflow_mul-result : goal.overflow_mul-result
overflow_mul-result c =
    let i : ℕ = c.args.i in
    let q : ℕ = c.args.shape.q in
    let number : (i - 1) / (q - 1) * q + (i - 1) % (q - 1) ≡ kept_direction c.args.shape i * q + kept_line c.args.shape i = check_later c.args.shape c.requires.0 i c.if-i-q.false in
    let small : (i - 1) / (q - 1) * q + (i - 1) % (q - 1) < 248 = omega (arith, number, kept_fits c.args.shape c.requires.0 i c.requires.1) in
    omega (arith, small)

pub overflow_sub-result : goal.overflow_sub-result
overflow_sub-result c =
    let q : ℕ = c.args.shape.q in
    let order : 3 ≤ q = (bounds c.args.shape c.requires.0).q3 in
    omega (arith, order)

pub nonzero_rem-result : goal.nonzero_rem-result
nonzero_rem-result c =
    let q : ℕ = c.args.shape.q in
    let order : 3 ≤ q = (bounds c.args.shape c.requires.0).q3 in
    omega (arith, order)

pub overflow_add-result : goal.overflow_add-result
overflow_add-result c =
    let i : ℕ = c.args.i in
    let q : ℕ = c.args.shape.q in
    let number : (i - 1) / (q - 1) * q + (i - 1) % (q - 1) ≡ kept_direction c.args.shape i * q + kept_line c.args.shape i = check_later c.args.shape c.requires.0 i c.if-i-q.false in
    let small : (i - 1) / (q - 1) * q + (i - 1) % (q - 1) < 248 = omega (arith, number, kept_fits c.args.shape c.requires.0 i c.requires.1) in
    omega (arith, small)

pub returns : goal.returns
returns c =
    let i : ℕ = c.args.i in
    let q : ℕ = c.args.shape.q in
    let number : (i - 1) / (q - 1) * q + (i - 1) % (q - 1) ≡ kept_direction c.args.shape i * q + kept_line c.args.shape i = check_later c.args.shape c.requires.0 i c.if-i-q.false in
    number
