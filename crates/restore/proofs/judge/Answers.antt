-- `restore::judge` meets its contract.
use mathlib.Core.Path.{sym, ◌∙◌}
use Rattle.erasure.proofs.Answers.{values_passed, answers_decided}
use Rattle.restore.proofs.Judging.{sought_judged}
use Rattle.restore.proofs.judge.Goals as goal

pub fill_in-requires : goal.fill_in-requires
fill_in-requires c =
    let p = values_passed _ _ _ c.requires.0 (sym c.test_values.ensures ∙ c.in_ok-test_values.was) in
    (p.0, p.1, c.requires.1, c.if-n-places.true)

pub find-requires : goal.find-requires
find-requires c =
    let p = values_passed _ _ _ c.requires.0 (sym c.test_values.ensures ∙ c.in_ok-test_values.was) in
    (p.0, p.1, c.requires.1, c.if-n-places.false)

pub returns : goal.returns
returns c =
    let passed = sym c.test_values.ensures ∙ c.in_ok-test_values.was in
    answers_decided passed (rw c.ok_or.ensures.value (sought_judged _ c.args.checks.lawful (values_passed _ _ _ c.requires.0 passed).1 c.if-n-places.false c.find.ensures))
