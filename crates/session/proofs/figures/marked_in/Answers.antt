-- `session::figures::marked_in` meets its contract: the marks so far have been counted.
use mathlib.Core.Path.{sym, ap₂, ap, ◌∙◌}
use Prim.Native.Nat.{ℕ, ◌+◌}
use native.Mathlib.Omega.{arith}
use Rattle.parity.specs.Count.{count}
use Rattle.parity.proofs.Sums.{bit_le, count_zero, count_more, count_bound}
use Rattle.session.specs.Session.{marked}
use Rattle.session.proofs.Progress.{bit_byte}
use Rattle.session.proofs.figures.marked_in.Goals as goal

pub loop-mark-init : goal.loop-mark-init
loop-mark-init c = sym (count_zero (marked c.args.marks.now))

pub overflow_add-pages : goal.overflow_add-pages
overflow_add-pages c =
    let p = marked c.args.marks.now in
    let i = c.loop-mark.mark-index in
    omega (arith, c.loop-mark.invariant, count_bound i p, bit_byte (p i), bit_le (p i))

pub loop-mark-preserved : goal.loop-mark-preserved
loop-mark-preserved c = ap₂ (λ (x y : ℕ). x + y) c.loop-mark.invariant (bit_byte _) ∙ sym (count_more c.loop-mark.mark-index (marked c.args.marks.now))

pub returns : goal.returns
returns c = c.loop-mark.invariant ∙ ap (λ (k : ℕ). count k (marked c.args.marks.now)) (omega arith)
