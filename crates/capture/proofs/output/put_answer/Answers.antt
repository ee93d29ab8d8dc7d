-- `capture::output::put_answer` meets its contract.
use native.Mathlib.Omega.{arith}
use Rattle.capture.proofs.Texts.{appended_none}
use Rattle.capture.proofs.output.put_answer.Goals as goal

pub returns-in-Nothing : goal.returns-in-Nothing
returns-in-Nothing c = rw c.in-Nothing.is (appended_none _ _, omega arith)
