-- `lines::parse` meets its contract: value by value.
use native.Mathlib.Omega.{arith}
use Rattle.lines.specs.Scan.{ValueAt}
use Rattle.lines.proofs.Parses.{unread, finished, turn, unparted}
use Rattle.lines.proofs.parse.Goals as goal

pub returns-in_err-value : goal.returns-in_err-value
returns-in_err-value c = rw c.from_residual.ensures (unread c.loop-value.invariant _ c.number_at.ensures c.in_err-value.was)

pub returns-then-next-line : goal.returns-then-next-line
returns-then-next-line c =
    let value-at : ValueAt c.args.line.now c.loop-value.from c.in_ok-value.value c.in_ok-value.next = c.number_at.ensures.found _ _ c.in_ok-value.was in
    rw c.store.ensures (finished c.loop-value.invariant value-at c.if-next-line.true)

pub bounds-line-next : goal.bounds-line-next
bounds-line-next c =
    let value-at : ValueAt c.args.line.now c.loop-value.from c.in_ok-value.value c.in_ok-value.next = c.number_at.ensures.found _ _ c.in_ok-value.was in
    omega arith

pub returns-then-line-next-ne32 : goal.returns-then-line-next-ne32
returns-then-line-next-ne32 c =
    let value-at : ValueAt c.args.line.now c.loop-value.from c.in_ok-value.value c.in_ok-value.next = c.number_at.ensures.found _ _ c.in_ok-value.was in
    rw c.store.ensures (unparted c.loop-value.invariant value-at (omega arith) c.if-line-next-ne32.true)

pub loop-value-smaller : goal.loop-value-smaller
loop-value-smaller c =
    let value-at : ValueAt c.args.line.now c.loop-value.from c.in_ok-value.value c.in_ok-value.next = c.number_at.ensures.found _ _ c.in_ok-value.was in
    omega arith

pub loop-value-preserved : goal.loop-value-preserved
loop-value-preserved c =
    let value-at : ValueAt c.args.line.now c.loop-value.from c.in_ok-value.value c.in_ok-value.next = c.number_at.ensures.found _ _ c.in_ok-value.was in
    rw c.store.ensures (turn c.loop-value.invariant value-at (omega arith) c.if-line-next-ne32.false)
