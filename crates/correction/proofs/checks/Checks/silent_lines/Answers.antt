-- `correction::checks::Checks::silent_lines` meets its contract. The loop's invariant is the contract for the lines passed.
use mathlib.Core.Path.{◌≡◌, ◌∙◌}
use Prim.Native.Nat.{◌+◌, ◌*◌, ◌<◌}
use native.Mathlib.Nat.{le_antisymm}
use native.Mathlib.Omega.{arith}
use borrow.Author.Rules.{rules}
use Rattle.gtb.specs.Square.{at}
use Rattle.gtb.proofs.Bounds.{bounds}
use Rattle.correction.proofs.CheckNumbers.{check_lt}
use Rattle.correction.specs.Error.{shows}
use Rattle.correction.proofs.Showing.{number_of, shows_zero, shows_more, shows_le}
use Rattle.correction.proofs.checks.Checks.silent_lines.Goals as goal

pub loop-line-init : goal.loop-line-init
loop-line-init c = (search rules, shows_zero _ _)

pub overflow_mul-t : goal.overflow_mul-t
overflow_mul-t c =
    let inside : c.args.t * c.args.self.shape.q + c.loop-line.line < 248 = check_lt c.args.self.shape c.args.self.lawful c.args.t _ c.requires c.loop-line-test.true in
    omega (arith, inside)

pub overflow_add-t : goal.overflow_add-t
overflow_add-t c =
    let inside : c.args.t * c.args.self.shape.q + c.loop-line.line < 248 = check_lt c.args.self.shape c.args.self.lawful c.args.t _ c.requires c.loop-line-test.true in
    omega (arith, inside)

pub offset_bounds-syn-t : goal.offset_bounds-syn-t
offset_bounds-syn-t c =
    let inside : c.args.t * c.args.self.shape.q + c.loop-line.line < 248 = check_lt c.args.self.shape c.args.self.lawful c.args.t _ c.requires c.loop-line-test.true in
    omega (arith, inside)

pub bounds-syn-t : goal.bounds-syn-t
bounds-syn-t c =
    let inside : c.args.t * c.args.self.shape.q + c.loop-line.line < 248 = check_lt c.args.self.shape c.args.self.lawful c.args.t _ c.requires c.loop-line-test.true in
    inside

pub overflow_add-silent : goal.overflow_add-silent
overflow_add-silent c =
    let next : let a = c.args in
    c.loop-line.silent + c.from-silent.result ≡ shows (c.loop-line.line + 1) (λ L. at a.syn.now (a.t * a.self.shape.q + L)) 0 = shows_more _ _ _ c.loop-line.invariant.1 (c.from-silent.ensures ∙ number_of _) in
    omega (
      arith,
      next,
      shows_le (c.loop-line.line + 1) (λ L. at c.args.syn.now (c.args.t * c.args.self.shape.q + L)) 0,
      (bounds c.args.self.shape c.args.self.lawful).q31,
      c.loop-line-test.true,
    )

pub loop-line-preserved : goal.loop-line-preserved
loop-line-preserved c =
    let next : let a = c.args in
    c.loop-line.silent + c.from-silent.result ≡ shows (c.loop-line.line + 1) (λ L. at a.syn.now (a.t * a.self.shape.q + L)) 0 = shows_more _ _ _ c.loop-line.invariant.1 (c.from-silent.ensures ∙ number_of _) in
    (search rules, next)

pub returns : goal.returns
returns c = rw (le_antisymm c.loop-line.invariant.0 c.loop-line-test.false) at c.loop-line.invariant.1
