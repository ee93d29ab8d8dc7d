-- `lines::number_at` meets its contract: what has been passed is the spelling of the value.
use Rattle.std.proofs.Common.{arith}
use Rattle.lines.specs.Scan.{Digit}
use Rattle.lines.proofs.Scans.{digit_first, digit_more, without_digit, with_leading_zero, with_large_value}
use Rattle.lines.proofs.number_at.Goals as goal

pub returns-in_err-first : goal.returns-in_err-first
returns-in_err-first c = rw c.from_residual.ensures (without_digit _ _ (c.digit_at.ensures.none c.in_err-first.was))

pub loop-digit-init : goal.loop-digit-init
loop-digit-init c =
    let digit : Digit c.args.line.now c.args.from c.in_ok-first.first = c.digit_at.ensures.found _ c.in_ok-first.was in
    record { low = omega arith; high = omega arith; small = omega arith; text = digit_first _ _ digit }

pub returns-then-value-eq0 : goal.returns-then-value-eq0
returns-then-value-eq0 c =
    with_leading_zero _ _ (c.digit_at-in-loop-digit.ensures.found _ c.in-Some.is) c.if-value-eq0.true c.loop-digit.invariant.text

pub returns-then-value-gt4294967295 : goal.returns-then-value-gt4294967295
returns-then-value-gt4294967295 c =
    let more = digit_more _ _ (c.digit_at-in-loop-digit.ensures.found _ c.in-Some.is) c.if-value-eq0.false c.loop-digit.invariant.text in
    with_large_value _ _ _ _ (omega arith) more

pub loop-digit-preserved : goal.loop-digit-preserved
loop-digit-preserved c =
    let digit : Digit c.args.line.now c.loop-digit.at c.in-Some.digit = c.digit_at-in-loop-digit.ensures.found _ c.in-Some.is in
    record {
      low = omega arith;
      high = omega arith;
      small = omega arith;
      text = digit_more _ _ digit c.if-value-eq0.false c.loop-digit.invariant.text;
    }
