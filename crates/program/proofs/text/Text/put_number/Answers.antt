-- `program::text::Text::put_number` meets its contract.
use mathlib.Core.Path.{ap}
use native.Mathlib.Omega.{arith}
use lib.ListN.{length, length-append}
use Rattle.program.specs.Filled.{given_size}
use Rattle.program.proofs.Texts.{put_after}
use Rattle.program.proofs.Filled.{put_filled}
use Rattle.program.proofs.text.Text.put_number.Goals as goal

pub returns : goal.returns
returns c =
    let put = c.put_number-self-inside.ensures in
    let new = put_after c.self.view_is (omega (arith, c.self.invariant, c.self.told)) (omega (arith, c.requires, c.self.told, put.0.next, put.1)) put.0 in
    (new, omega (arith, rw length-append at (ap length new), put.0.next, put.1))

pub invariant_of-self : goal.invariant_of-self
invariant_of-self c =
    let put = c.put_number-self-inside.ensures in
    put_filled c.self.invariant (omega (arith, c.requires, given_size c.self.invariant, ap length c.self.view_is, put.0.next, put.1)) put.0
