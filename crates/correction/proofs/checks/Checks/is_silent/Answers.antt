-- `correction::cancel::is_silent` meets its contract. The loop's invariant: `bits` is 0 exactly if the entries passed are.
use mathlib.Core.Path.{refl, sym, ap, ◌∙◌}
use mathlib.Core.Bool.{Bool, ◌&&◌}
use Prim.Native.Nat.{◌*◌, ◌≤◌}
use lib.Dec.{eqb}
use Rattle.parity.specs.Count.{all}
use Rattle.parity.proofs.Tests.{all_more}
use Rattle.gtb.specs.Square.{at}
use native.Mathlib.Nat.{le_antisymm}
use native.Mathlib.Omega.{arith}
use borrow.Author.Rules.{rules}
use Rattle.correction.proofs.CheckNumbers.{checks_fit}
use Rattle.correction.proofs.Silence.{no_bits}
use Rattle.correction.proofs.checks.Checks.is_silent.Goals as goal

pub overflow_mul-count : goal.overflow_mul-count
overflow_mul-count c =
    let checks : c.args.self.shape.n * c.args.self.shape.q ≤ 248 = checks_fit c.args.self.shape c.args.self.lawful in
    omega (arith, checks)

pub loop-e-init : goal.loop-e-init
unfolding all
loop-e-init c = (search rules, refl)

pub offset_bounds-syn-e : goal.offset_bounds-syn-e
offset_bounds-syn-e c =
    let checks : c.args.self.shape.n * c.args.self.shape.q ≤ 248 = checks_fit c.args.self.shape c.args.self.lawful in
    omega (arith, checks)

pub bounds-syn-e : goal.bounds-syn-e
bounds-syn-e c =
    let checks : c.args.self.shape.n * c.args.self.shape.q ≤ 248 = checks_fit c.args.self.shape c.args.self.lawful in
    omega (arith, checks)

pub overflow_step-e : goal.overflow_step-e
overflow_step-e c =
    let checks : c.args.self.shape.n * c.args.self.shape.q ≤ 248 = checks_fit c.args.self.shape c.args.self.lawful in
    omega (arith, checks)

pub loop-e-preserved : goal.loop-e-preserved
loop-e-preserved c = let bits = c.loop-e.bits in
    let entry = at c.args.syn.now c.loop-e.e in
    (search rules, no_bits bits entry ∙ ap (λ (b : Bool). b && eqb entry 0) c.loop-e.invariant.1 ∙ sym (all_more _ _))

pub returns : goal.returns
returns c = rw (le_antisymm c.loop-e.invariant.0 c.loop-e-test.false) at c.loop-e.invariant.1
