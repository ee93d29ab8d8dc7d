-- `double::attempt::test_pair` meets its contract.
use mathlib.Core.Path.{refl, sym, ◌∙◌}
use Rattle.double.proofs.Trials.{places, errors, pair_tried}
use Rattle.double.proofs.attempt.test_pair.Goals as goal

pub returns-then-is_silent : goal.returns-then-is_silent
returns-then-is_silent c = (
  refl,
  λ w y. pair_tried c.args.checks.shape (places c.args.pair) (errors c.args.pair) c.requires.0 c.requires.1 c.args.checks.lawful c.cancel.ensures y ∙ sym c.is_silent.ensures ∙ c.if-is_silent.true,
)

pub returns : goal.returns
returns c = λ w y. pair_tried c.args.checks.shape (places c.args.pair) (errors c.args.pair) c.requires.0 c.requires.1 c.args.checks.lawful c.cancel.ensures y ∙ sym c.is_silent.ensures ∙ c.if-is_silent.false
