-- `majority::correct::correct` meets its contract: a codeword, or what the rows that show damage give, or what all of them give.
use mathlib.Core.Path.{refl, sym, ◌∙◌}
use Rattle.distance.proofs.Near.{near_self}
use Rattle.correction.proofs.Tables.{silent_codeword}
use Rattle.correction.proofs.Readings.{corrected, takes}
use Rattle.majority.proofs.Meaning.{vote_meant}
use Rattle.majority.proofs.correct.correct.Goals as goal

pub returns-then-is_silent : goal.returns-then-is_silent
returns-then-is_silent c = let law = c.args.checks.lawful in
    takes vote_meant _ law refl _ (near_self (silent_codeword law c.requires c.syndromes-syn.ensures (sym c.is_silent.ensures ∙ c.if-is_silent.true)))

pub returns : goal.returns
returns c = corrected _ _ _ (c.find.ensures.few _ c.in-Some.is _ c.requires c.syndromes-syn.ensures) c.apply.ensures
