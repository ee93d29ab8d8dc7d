-- `verify::compare::is_restored` meets its contract.
use mathlib.Core.Path.{◌≡◌, sym, ◌∙◌}
use mathlib.Core.Bool.{true}
use Rattle.gtb.specs.Square.{at, silent_test}
use Rattle.correction.proofs.Tables.{silent_shown}
use Rattle.verify.proofs.Answers.{no_codeword, codeword_decides}
use Rattle.verify.proofs.compare.is_restored.Goals as goal

pub returns-then-not-is_silent : goal.returns-then-not-is_silent
returns-then-not-is_silent c = no_codeword _ _ _ (sym (silent_shown _ c.args.checks.lawful _ _ c.fill.ensures) ∙ sym c.is_silent.ensures ∙ c.if-not-is_silent.true)

pub is_clean-requires : goal.is_clean-requires
is_clean-requires c =
    let silent : silent_test c.args.checks.shape (at c.args.proposed.now) ≡ true = sym (silent_shown _ c.args.checks.lawful _ _ c.fill.ensures) ∙ sym c.is_silent.ensures ∙ c.if-not-is_silent.false in
    (c.requires.0, c.requires.1, c.fill.ensures, silent)

pub returns : goal.returns
returns c =
    let silent : silent_test c.args.checks.shape (at c.args.proposed.now) ≡ true = sym (silent_shown _ c.args.checks.lawful _ _ c.fill.ensures) ∙ sym c.is_silent.ensures ∙ c.if-not-is_silent.false in
    codeword_decides _ _ _ silent c.is_clean.ensures
