-- `double::decode_two` meets its contract: a test refuses, or the work answers.
use Rattle.std.proofs.lemmas.Result.{err_from_is_err_and}
use borrow.Author.Tests.{leb-true}
use Rattle.correction.proofs.Readings.{tests_passed, refuses, answers}
use Rattle.correction.proofs.Paper.{asked}
use Rattle.double.proofs.Paper.{two_named}
use Rattle.double.proofs.Meaning.{two_meant}
use Rattle.double.proofs.decode_two.Goals as goal

-- the clauses, by their names
both : {A B : Type 0} → A × B → record { read : A; paper : B }
both x = record { read = x.0; paper = x.1 }

pub restore-requires : goal.restore-requires
restore-requires c = let p = tests_passed _ _ _ c.in_ok-checks.ensures.1 in rw c.in_ok-checks.ensures.0 (leb-true 3 _ p.1, p.2)

pub returns-in_err-checks : goal.returns-in_err-checks
returns-in_err-checks c = let e = err_from_is_err_and c.from_residual.result c.from_residual.ensures.1 in rw (e.1, e.2)
    (both (asked (two_named _) (refuses two_meant _ c.in_err-checks.ensures)))

pub returns : goal.returns
returns c = both (asked (two_named _) (answers two_meant _ c.in_ok-checks.ensures.1 (rw c.in_ok-checks.ensures.0 at c.restore.ensures)))
