-- `lines::put_count` meets its contract: two numbers of at most ten digits, a space and a newline.
use native.Mathlib.Omega.{arith}
use Rattle.lines.proofs.Pasting.{put_pair}
use Rattle.lines.proofs.put_count.Goals as goal

pub returns : goal.returns
returns c = let first = c.put_number-a.ensures in (
  put_pair c.args.function c.args.calls first.0 c.put_byte-b.ensures c.put_number-c.ensures.0 c.put_byte.ensures,
  omega (arith, first.1, c.put_number-c.ensures.1),
)
