-- `correction::test` meets its contract: the tests turn down in their order.
use mathlib.Core.Path.{sym, ap, ◌∙◌, subst}
use Rattle.std.specs.Prelude.{Err}
use Rattle.std.proofs.lemmas.Result.{err_from_is_err_and}
use Rattle.gtb.specs.declared.Shape.{Shape}
use Rattle.gtb.specs.Shape.{Lawful}
use Rattle.gtb.specs.Lent.{word_status}
use Rattle.correction.specs.Steps.{tests_of}
use Rattle.correction.proofs.test.Goals as goal

pub returns-in_err-code : goal.returns-in_err-code
unfolding tests_of
returns-in_err-code c = let e = err_from_is_err_and c.from_residual.result c.from_residual.ensures.1 in
    rw (e.1, e.2) (rw c.in_err-code.ensures.0 (ap Err (sym c.in_err-code.ensures.1)))

pub returns-then-not-suits : goal.returns-then-not-suits
unfolding tests_of
returns-then-not-suits c =
    let law : Lawful c.args.shape = subst Lawful c.in_ok-code.ensures c.in_ok-code.code.lawful in
    rw (law, c.if-not-suits.true)

pub returns-in_err-test_word : goal.returns-in_err-test_word
unfolding tests_of
returns-in_err-test_word c =
    let law : Lawful c.args.shape = subst Lawful c.in_ok-code.ensures c.in_ok-code.code.lawful in
    let e = err_from_is_err_and c.from_residual-in_err-test_word.result c.from_residual-in_err-test_word.ensures.1 in
    rw (e.1, e.2)
    (rw (law, c.if-not-suits.false) (ap (λ (s : Shape). word_status s c.args.word.now) (sym c.in_ok-code.ensures) ∙ sym c.test_word.ensures ∙ c.in_err-test_word.was))

pub returns : goal.returns
unfolding tests_of
returns c =
    let law : Lawful c.args.shape = subst Lawful c.in_ok-code.ensures c.in_ok-code.code.lawful in (
      c.from.ensures ∙ c.in_ok-code.ensures,
      rw (law, c.if-not-suits.false) (ap (λ (s : Shape). word_status s c.args.word.now) (sym c.in_ok-code.ensures) ∙ sym c.test_word.ensures ∙ c.in_ok-test_word.was),
    )
