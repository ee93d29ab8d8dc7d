-- `lines::put_outcome` meets its contract: a name of at most seven letters, a space and two numbers.
use native.Mathlib.Omega.{arith}
use Rattle.lines.proofs.Pasting.{put_named}
use Rattle.lines.proofs.put_outcome.Goals as goal

pub returns : goal.returns
returns c = let first = c.put_kind-a.ensures in (
  put_named c.args.kind c.args.number c.args.fixed first.0 c.put_byte-b.ensures c.put_count.ensures.0,
  omega (arith, first.1, c.put_count.ensures.1),
)
