-- `decoder::locate::judge` meets its contract. The loop's invariant: the checks of the directions passed are nonzero.
use mathlib.Core.Path.{refl, sym, ◌∙◌}
use Prim.Native.Nat.{◌<◌}
use native.Mathlib.Nat.{le_antisymm}
use native.Mathlib.Omega.{arith}
use borrow.Author.Rules.{rules}
use Rattle.gtb.proofs.Bounds.{bounds}
use Rattle.correction.proofs.CheckNumbers.{check_fits}
use Rattle.correction.proofs.Rows.{in_word}
use Rattle.decoder.proofs.Looks.{one_look}
use Rattle.decoder.proofs.Shifts.{loud_none, loud_more, judges_silent, judges_loud}
use Rattle.decoder.proofs.locate.judge.Goals as goal

pub returns-then-own-eq0 : goal.returns-then-own-eq0
returns-then-own-eq0 c = one_look c.args.row.checks.shape c.args.row.checks.lawful c.args.syn.now c.args.row.number (sym c.requires.0 ∙ c.if-own-eq0.true) c.args.column c.requires.1 refl refl

pub loop-t-init : goal.loop-t-init
loop-t-init c = let b = bounds _ c.args.row.checks.lawful in
    (omega arith, omega arith, loud_none _ _ _)

pub check-check-requires : goal.check-check-requires
check-check-requires c = (c.loop-t.invariant.0, c.loop-t-test.true, c.requires.1)

pub offset_bounds-syn-check : goal.offset_bounds-syn-check
offset_bounds-syn-check c =
    let check : c.check-check.result < 248 = rw c.check-check.ensures (check_fits c.args.row.checks.shape c.args.row.checks.lawful c.loop-t.t _ c.loop-t-test.true (in_word c.args.row.checks.shape c.args.row.inside c.requires.1)) in
    omega (arith, check)

pub bounds-syn-check : goal.bounds-syn-check
bounds-syn-check c =
    let check : c.check-check.result < 248 = rw c.check-check.ensures (check_fits c.args.row.checks.shape c.args.row.checks.lawful c.loop-t.t _ c.loop-t-test.true (in_word c.args.row.checks.shape c.args.row.inside c.requires.1)) in
    check

pub overflow_cast-looked : goal.overflow_cast-looked
overflow_cast-looked c =
    let inside : c.loop-t.t < 8 = omega (arith, (bounds c.args.row.checks.shape c.args.row.checks.lawful).n8) in
    omega (arith, inside)

pub overflow_add-looked : goal.overflow_add-looked
overflow_add-looked c =
    let inside : c.loop-t.t < 8 = omega (arith, (bounds c.args.row.checks.shape c.args.row.checks.lawful).n8) in
    omega (arith, inside)

pub returns-then-syn-check-eq0 : goal.returns-then-syn-check-eq0
returns-then-syn-check-eq0 c = judges_silent c.args.row.checks.shape c.args.syn.now c.args.row.number c.args.column c.requires.1 (λ z. c.if-own-eq0.false (c.requires.0 ∙ z))
    c.loop-t.t c.loop-t-test.true c.loop-t.invariant.2 c.check-check.ensures c.if-syn-check-eq0.true refl refl

pub loop-t-preserved : goal.loop-t-preserved
loop-t-preserved c = (search rules, search rules, loud_more c.check-check.ensures c.if-syn-check-eq0.false c.loop-t.invariant.2)

pub returns : goal.returns
returns c = judges_loud c.args.row.checks.shape c.args.syn.now c.args.row.number c.args.column c.requires.1 (λ z. c.if-own-eq0.false (c.requires.0 ∙ z))
    (rw (le_antisymm c.loop-t.invariant.1 c.loop-t-test.false) at c.loop-t.invariant.2) refl refl
