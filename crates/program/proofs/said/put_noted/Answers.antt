-- `program::said::put_noted` meets its contract.
use mathlib.Core.Path.{ap}
use mathlib.Core.List.{append_assoc}
use native.Mathlib.Omega.{arith}
use lib.ListN.{length, length-append}
use Rattle.program.specs.Said.{noted_text}
use Rattle.program.proofs.said.put_noted.Goals as goal

pub returns-then-wanted : goal.returns-then-wanted
unfolding noted_text
returns-then-wanted c =
    rw c.if-wanted.true
    (simp (c.put_numbered.ensures.0, c.put.ensures, append_assoc), omega (arith, rw length-append at (ap length c.put.ensures), c.put_numbered.ensures.1))
