-- `program::text::Text::put` meets its contract.
use mathlib.Core.Path.{ap}
use native.Mathlib.Omega.{arith}
use lib.ListN.{length}
use Rattle.program.specs.Filled.{given_size}
use Rattle.program.proofs.Filled.{put_filled}
use Rattle.program.proofs.Texts.{put_after}
use Rattle.program.proofs.text.Text.put.Goals as goal

pub returns : goal.returns
returns c = put_after c.self.view_is (omega (arith, c.self.invariant, c.self.told)) (omega (arith, c.requires, c.self.told)) c.put_text-self-inside.ensures

pub invariant_of-self : goal.invariant_of-self
invariant_of-self c = put_filled c.self.invariant (omega (arith, c.requires, given_size c.self.invariant, ap length c.self.view_is)) c.put_text-self-inside.ensures
