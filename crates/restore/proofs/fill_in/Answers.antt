-- `restore::fill_in` meets its contract.
use mathlib.Core.Path.{◌≡◌, ap, ◌∙◌}
use Rattle.std.specs.Prelude.{Err}
use native.Mathlib.Omega.{arith}
use Rattle.gtb.specs.declared.Refusal.{Refusal}
use Rattle.restore.proofs.Judging.{judged_one, judged_several, judged_none}
use Rattle.restore.proofs.fill_in.Goals as goal

pub returns-in-Ok : goal.returns-in-Ok
returns-in-Ok c = judged_one c.requires.3 c.decide.ensures c.in-Ok.is

pub returns-in-Err-Ambiguous : goal.returns-in-Err-Ambiguous
returns-in-Err-Ambiguous c = judged_several c.requires.3 c.decide.ensures (c.in-Err-Ambiguous.is ∙ ap Err c.in-Err-Ambiguous.field-0-is)

pub returns-in-Err : goal.returns-in-Err
returns-in-Err c =
    let other : c.in-Err.field-0 ≡ Refusal.Ambiguous → ⊥ = λ e. grind arith in
    judged_none c.requires.3 c.decide.ensures c.in-Err.is other
