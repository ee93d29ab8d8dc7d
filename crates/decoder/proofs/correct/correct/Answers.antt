-- `decoder::correct::correct` meets its contract.
use mathlib.Core.Path.{refl, sym, ◌∙◌}
use Rattle.correction.proofs.Tables.{silent_codeword}
use Rattle.correction.proofs.Readings.{uncorrected, corrected, takes}
use Rattle.decoder.proofs.Meaning.{codeword_explains, clean_meant}
use Rattle.decoder.proofs.correct.correct.Goals as goal

pub returns-then-is_silent : goal.returns-then-is_silent
returns-then-is_silent c = takes clean_meant _ c.args.checks.lawful refl _ (codeword_explains _ _ (silent_codeword c.args.checks.lawful c.requires c.fill.ensures (sym c.is_silent.ensures ∙ c.if-is_silent.true)))

pub returns-in_default : goal.returns-in_default
returns-in_default c = uncorrected _ _ _ (c.find.ensures.many refl c.in_default.is _ c.requires c.fill.ensures)

pub apply-requires : goal.apply-requires
apply-requires c = (c.requires.size, c.find.ensures.within _ c.in-Some.is)

pub returns : goal.returns
returns c = corrected _ _ _ (c.find.ensures.few _ c.in-Some.is _ c.requires c.fill.ensures) c.apply.ensures
