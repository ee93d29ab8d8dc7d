-- `program::said::put_fault` meets its contract.
use mathlib.Core.Path.{ap}
use mathlib.Core.List.{append_assoc}
use native.Mathlib.Omega.{arith}
use lib.ListN.{length, length-append}
use Rattle.program.specs.Said.{fault_text}
use Rattle.program.proofs.said.put_fault.Goals as goal

pub returns : goal.returns
unfolding fault_text
returns c = (
  simp (c.put_noted-2.ensures.0, c.put_noted.ensures.0, c.put.ensures, c.expected_text.ensures.0, c.line_number-number.ensures, append_assoc),
  omega (arith, rw length-append at (ap length c.put.ensures), c.expected_text.ensures.1, c.put_noted.ensures.1, c.put_noted-2.ensures.1),
)
