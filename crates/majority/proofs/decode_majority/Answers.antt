-- `majority::decode_majority` meets its contract: a test refuses, or the work answers.
use Rattle.std.proofs.lemmas.Result.{err_from_is_err_and}
use Rattle.correction.proofs.Readings.{tests_passed, refuses, answers}
use Rattle.majority.proofs.Paper.{vote_asked}
use Rattle.majority.proofs.Meaning.{vote_meant}
use Rattle.majority.proofs.decode_majority.Goals as goal

-- the clauses, by their names
both : {A B C : Type 0} → A × (B × C) → record { read : A; paper : B; voted : C }
both x = record { read = x.0; paper = x.1.0; voted = x.1.1 }

pub correct-requires : goal.correct-requires
correct-requires c = rw c.in_ok-checks.ensures.0 (tests_passed _ _ _ c.in_ok-checks.ensures.1).2

pub returns-in_err-checks : goal.returns-in_err-checks
returns-in_err-checks c = let e = err_from_is_err_and c.from_residual.result c.from_residual.ensures.1 in
    rw (e.1, e.2) (both (vote_asked (refuses vote_meant _ c.in_err-checks.ensures)))

pub returns : goal.returns
returns c = both (vote_asked (answers vote_meant _ c.in_ok-checks.ensures.1 (rw c.in_ok-checks.ensures.0 at c.correct.ensures)))
