-- `host::line::shaftglimmer_parse_line` meets its contract: each answer follows from what the parser found.
use native.Mathlib.Omega.{arith}
use Rattle.host.proofs.Spelled.{count_few, line_long, line_malformed, line_parsed}
use Rattle.host.proofs.line.shaftglimmer_parse_line.Goals as goal

pub returns-then-line-gt-LONGEST : goal.returns-then-line-gt-LONGEST
returns-then-line-gt-LONGEST c = line_long _ _ _ c.if-line-gt-LONGEST.true c.refused.ensures

pub returns-in_default : goal.returns-in_default
returns-in_default c = let parsed = c.parse.ensures in
    line_malformed _ _ _ parsed c.in_default.is c.refused-in_default.ensures

pub overflow_cast-result : goal.overflow_cast-result
overflow_cast-result c = let few = count_few (c.parse.ensures.accepted _ c.in-Some.is) in
    record { fits = omega (arith, c.if-line-gt-LONGEST.false) }

pub returns : goal.returns
returns c = let stored = c.parse.ensures in
    let short = c.if-line-gt-LONGEST.false in
    line_parsed _ _ _ short stored.size (stored.accepted _ c.in-Some.is) c.keep.ensures
