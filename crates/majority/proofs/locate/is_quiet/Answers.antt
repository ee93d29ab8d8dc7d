-- `majority::locate::is_quiet` meets its contract. The loop's invariant: `silent` is how many of the checks passed are silent.
use mathlib.Core.Path.{◌≡◌}
use Prim.Native.Nat.{ℕ, ◌+◌, ◌*◌, ◌<◌}
use native.Mathlib.Omega.{arith}
use borrow.Author.Rules.{rules}
use Rattle.gtb.proofs.Bounds.{bounds}
use Rattle.correction.proofs.CheckNumbers.{check_fits}
use Rattle.correction.proofs.Rows.{in_word}
use Rattle.correction.specs.Error.{shows}
use Rattle.correction.specs.Steps.{check_in}
use Rattle.correction.proofs.Showing.{bit_byte, shows_more, shows_le}
use Rattle.majority.proofs.Table.{silent_first, silent_half}
use Rattle.gtb.specs.Square.{at}
use lib.Dec.{eqb}
use mir.Val.{bool_byte}
use Rattle.majority.proofs.locate.is_quiet.Goals as goal

pub loop-t-init : goal.loop-t-init
loop-t-init c = let b = bounds _ c.args.row.checks.lawful in
    (omega arith, omega arith, silent_first c.args.row.checks.shape c.args.syn.now c.args.row.number c.requires.1 c.requires.0)

pub offset_bounds-syn-check : goal.offset_bounds-syn-check
offset_bounds-syn-check c =
    let check : c.check-check.result < 248 = rw c.check-check.ensures (check_fits c.args.row.checks.shape c.args.row.checks.lawful c.loop-t.t _ c.loop-t-test.true (in_word c.args.row.checks.shape c.args.row.inside c.requires.1)) in
    omega (arith, check)

pub bounds-syn-check : goal.bounds-syn-check
bounds-syn-check c =
    let check : c.check-check.result < 248 = rw c.check-check.ensures (check_fits c.args.row.checks.shape c.args.row.checks.lawful c.loop-t.t _ c.loop-t-test.true (in_word c.args.row.checks.shape c.args.row.inside c.requires.1)) in
    check

pub overflow_add-silent : goal.overflow_add-silent
overflow_add-silent c =
    let shown : ℕ → ℕ = check_in c.args.row.checks.shape c.args.syn.now (c.args.row.number * c.args.row.checks.shape.q + c.args.column) in
    let next : c.loop-t.silent + bool_byte (eqb (at c.args.syn.now c.check-check.result) 0) ≡ shows (c.loop-t.t + 1) shown 0 = shows_more _ shown _ c.loop-t.invariant.2 (rw c.check-check.ensures (bit_byte _)) in
    omega (arith, next, shows_le (c.loop-t.t + 1) shown 0, (bounds c.args.row.checks.shape c.args.row.checks.lawful).n8)

pub overflow_mul-silent : goal.overflow_mul-silent
overflow_mul-silent c =
    let shown : ℕ → ℕ = check_in c.args.row.checks.shape c.args.syn.now (c.args.row.number * c.args.row.checks.shape.q + c.args.column) in
    let next : c.loop-t.silent + bool_byte (eqb (at c.args.syn.now c.check-check.result) 0) ≡ shows (c.loop-t.t + 1) shown 0 = shows_more _ shown _ c.loop-t.invariant.2 (rw c.check-check.ensures (bit_byte _)) in
    omega (arith, next, shows_le (c.loop-t.t + 1) shown 0, (bounds c.args.row.checks.shape c.args.row.checks.lawful).n8)

pub returns-then-n-silent : goal.returns-then-n-silent
returns-then-n-silent c =
    let shown : ℕ → ℕ = check_in c.args.row.checks.shape c.args.syn.now (c.args.row.number * c.args.row.checks.shape.q + c.args.column) in
    let next : c.loop-t.silent + bool_byte (eqb (at c.args.syn.now c.check-check.result) 0) ≡ shows (c.loop-t.t + 1) shown 0 = shows_more _ shown _ c.loop-t.invariant.2 (rw c.check-check.ensures (bit_byte _)) in
    λ _. silent_half _ _ _ (c.loop-t.t + 1) (omega (arith, c.loop-t-test.true)) next c.if-n-silent.true

pub loop-t-preserved : goal.loop-t-preserved
loop-t-preserved c =
    let shown : ℕ → ℕ = check_in c.args.row.checks.shape c.args.syn.now (c.args.row.number * c.args.row.checks.shape.q + c.args.column) in
    let next : c.loop-t.silent + bool_byte (eqb (at c.args.syn.now c.check-check.result) 0) ≡ shows (c.loop-t.t + 1) shown 0 = shows_more _ shown _ c.loop-t.invariant.2 (rw c.check-check.ensures (bit_byte _)) in
    (search rules, search rules, next)
