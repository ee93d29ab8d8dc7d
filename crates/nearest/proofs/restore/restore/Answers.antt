-- `nearest::restore::restore` meets its contract: of a codeword nothing is to be found.
use mathlib.Core.Path.{refl, sym, ◌∙◌}
use Rattle.distance.proofs.Near.{near_self}
use Rattle.correction.proofs.Tables.{silent_codeword}
use Rattle.correction.proofs.Readings.{corrected, takes}
use Rattle.nearest.proofs.Meaning.{nearest_meant}
use Rattle.nearest.proofs.restore.restore.Goals as goal

pub returns-then-is_silent : goal.returns-then-is_silent
returns-then-is_silent c =
    let law = c.args.checks.lawful in
    takes nearest_meant _ law refl _ (near_self (silent_codeword law c.requires c.fill.ensures (sym c.is_silent.ensures ∙ c.if-is_silent.true)))

pub returns : goal.returns
returns c = corrected _ _ _ (c.find.ensures.few _ c.in-Some.is _ c.requires c.fill.ensures) c.apply.ensures
