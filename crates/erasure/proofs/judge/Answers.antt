-- `erasure::judge` meets its contract.
use mathlib.Core.Path.{sym, ◌∙◌}
use Rattle.erasure.proofs.Answers.{values_passed}
use Rattle.erasure.proofs.judge.Goals as goal

pub decide-requires : goal.decide-requires
decide-requires c =
    let p = values_passed _ _ _ c.requires.0 (sym c.test_values.ensures ∙ c.in_ok-test_values.was) in
    (p.0, p.1, c.requires.1, c.syndromes-syn.ensures)
