-- `program::text::Text::put_numbered` meets its contract.
use mathlib.Core.Path.{ap}
use mathlib.Core.List.{append_assoc}
use native.Mathlib.Omega.{arith}
use lib.ListN.{length, length-append}
use Rattle.program.specs.Shown.{numbered}
use Rattle.program.proofs.text.Text.put_numbered.Goals as goal

pub returns : goal.returns
unfolding numbered
returns c = (simp (c.put.ensures, c.put_number.ensures.0, append_assoc), omega (arith, c.put_number.ensures.1, rw length-append at (ap length c.put.ensures)))
