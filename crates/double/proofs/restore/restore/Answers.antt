-- `double::restore::restore` meets its contract: a codeword is near, or none is.
use mathlib.Core.Path.{◌≡◌, sym, ◌∙◌}
use borrow.Author.Rules.{rules}
use Rattle.std.specs.Prelude.{Some, None}
use Rattle.std.proofs.lemmas.Result.{err_from_is_err_and}
use Rattle.gtb.specs.declared.Refusal.{Refusal}
use Rattle.double.specs.Steps.{Proposed}
use borrow.Author.Tests.{le-leb}
use Rattle.distance.proofs.Near.{near_self}
use Rattle.correction.proofs.Tables.{silent_codeword}
use Rattle.correction.proofs.Readings.{takes, leaves}
use Rattle.double.proofs.Trials.{pair_near}
use Rattle.double.proofs.Meaning.{two_meant}
use Rattle.double.proofs.restore.restore.Goals as goal

pub returns-then-is_silent : goal.returns-then-is_silent
returns-then-is_silent c =
    takes two_meant _ c.args.checks.lawful (le-leb 3 _ c.requires.0) _ (near_self (silent_codeword c.args.checks.lawful c.requires.1 c.syndromes-syn.ensures (sym c.is_silent.ensures ∙ c.if-is_silent.true)))

pub returns-in_err-pair : goal.returns-in_err-pair
returns-in_err-pair c =
    let none : c.find.result ≡ None = search rules in
    let refusal : c.in_err-pair.field-0.0 ≡ Refusal.BeyondTwo = search rules in
    let e = err_from_is_err_and c.from_residual.result c.from_residual.ensures.1 in
    rw (e.1, e.2, refusal)
    (leaves two_meant _ c.args.checks.lawful (le-leb 3 _ c.requires.0) _ c.requires.1 (λ v k. (rw none at c.find.ensures) _ v k c.syndromes-syn.ensures))

pub returns : goal.returns
returns c =
    let some : c.find.result ≡ Some c.in_ok-pair.pair = search rules in
    let found : Proposed c.args.checks.shape c.syndromes-syn.result c.in_ok-pair.pair = rw some at c.find.ensures in
    rw (c.changed-count.ensures, c.take_off.ensures)
    (takes two_meant _ c.args.checks.lawful (le-leb 3 _ c.requires.0) _ (pair_near found c.requires.1 c.syndromes-syn.ensures))
