-- `session::Session::count` meets its contract: each answer follows from the tests passed.
use mathlib.Core.Path.{sym, ◌∙◌}
use Rattle.std.proofs.lemmas.Result.{err_from_is_err_and}
use native.Mathlib.Omega.{arith}
use borrow.Author.Tests.{lt-ltb, le-ltb}
use Rattle.session.specs.Session.{counted_of}
use Rattle.session.proofs.Paper.{counting_asked}
use Rattle.session.proofs.Session.count.Goals as goal

-- the clauses, by their names
both : {A B : Type 0} → A × B → record { counted : A; paper : B }
both x = record { counted = x.0; paper = x.1 }

pub returns-in_err-status : goal.returns-in_err-status
unfolding counted_of
returns-in_err-status c = let e = err_from_is_err_and c.from_residual.result c.from_residual.ensures.1 in rw (e.1, e.2)
    (both (let a = c.args in counting_asked a.self a.function (rw (sym c.status.ensures ∙ c.in_err-status.was))))

pub returns-then-function-gt255 : goal.returns-then-function-gt255
unfolding counted_of
returns-then-function-gt255 c = both (let a = c.args in counting_asked a.self a.function (rw (sym c.status.ensures ∙ c.in_ok-status.was, le-ltb c.args.function 256 (omega arith))))

pub returns : goal.returns
unfolding counted_of
returns c = both (let a = c.args in counting_asked a.self a.function (rw (sym c.status.ensures ∙ c.in_ok-status.was, lt-ltb c.args.function 256 (omega arith))))
