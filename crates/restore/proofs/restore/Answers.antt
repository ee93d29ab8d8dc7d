-- `restore::restore` meets its contract. Each way out is one of erasure's Answers.antt.
use mathlib.Core.Path.{◌≡◌}
use lib.ListN.{length, replicate}
use Rattle.std.proofs.lemmas.Result.{err_from_is_err_and}
use Rattle.restore.proofs.Paper.{restoring_asked}
use Rattle.erasure.proofs.Answers.{lengths_passed, refuses, decides}
use borrow.Author.Rules.{rules}
use Rattle.restore.proofs.restore.Goals as goal

-- the clauses, by their names
both : {A B : Type 0} → A × B → record { restored : A; paper : B }
both x = record { restored = x.0; paper = x.1 }

pub returns-in_err-code : goal.returns-in_err-code
returns-in_err-code c = let e = err_from_is_err_and c.from_residual.result c.from_residual.ensures.1 in rw (e.1, e.2)
    (both (restoring_asked _ (refuses _ _ _ c.in_err-code.ensures)))

pub judge-answer-requires : goal.judge-answer-requires
judge-answer-requires c = let p = lengths_passed _ _ _ c.in_ok-code.ensures.1 in
    rw (c.from.ensures, c.in_ok-code.ensures.0) (p.1, p.2)

pub returns : goal.returns
returns c =
    let size : length c.judge-answer.new.scratch ≡ length c.args.scratch.now = search rules in
    let zeros : c.fill.new.self ≡ replicate (length c.judge-answer.new.scratch) 0 = search rules in
    both (restoring_asked _ (decides _ _ _ c.in_ok-code.ensures.1 (rw (c.from.ensures, c.in_ok-code.ensures.0) at c.judge-answer.ensures) (rw size at zeros)))
