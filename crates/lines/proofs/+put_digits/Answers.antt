-- `lines::put_digits` meets its contract: the digits of a tenth, then the last one.
use Rattle.std.proofs.Common.{arith}
use Rattle.lines.proofs.Decimals.{decimal_one, decimal_some, length_more}
use Rattle.lines.proofs.Pasting.{put_more}
use Rattle.lines.proofs.+put_digits.Goals as goal

pub put_byte-requires : goal.put_byte-requires
put_byte-requires t c = omega (arith, decimal_some c.args.value)

pub returns-then-value-lt10 : goal.returns-then-value-lt10
returns-then-value-lt10 t c = rw (decimal_one c.args.value (omega arith)) c.put_byte.ensures

pub put_digits-last-requires : goal.put_digits-last-requires
put_digits-last-requires t c = (omega (arith, c.decreases), omega (arith, length_more c.args.value (omega arith)))

pub put_byte-requires-2 : goal.put_byte-requires-2
put_byte-requires-2 t c = omega (arith, length_more c.args.value (omega arith))

pub returns : goal.returns
returns t c = put_more (omega arith) c.put_digits-last.ensures c.put_byte-2.ensures
