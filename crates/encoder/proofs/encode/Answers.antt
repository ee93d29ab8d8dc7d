-- `encoder::encode` meets its contract.
use mathlib.Core.Path.{refl}
use Rattle.std.proofs.lemmas.Result.{err_from_is_err_and}
use Rattle.encoder.proofs.Paper.{writing}
use Rattle.encoder.proofs.Answers.{untested, passed, encoding_refused, encoding_done}
use Rattle.encoder.proofs.encode.Goals as goal

pub returns-in_err-code-clause-written : goal.returns-in_err-code-clause-written
returns-in_err-code-clause-written c = let e = err_from_is_err_and c.from_residual.result c.from_residual.ensures.1 in rw (e.1, e.2)
    (encoding_refused _ _ _ _ _ _ _ (untested _ _ _ _ _ c.in_err-code.ensures.0 c.in_err-code.ensures.1) refl)

pub returns-in_err-code-clause-paper : goal.returns-in_err-code-clause-paper
returns-in_err-code-clause-paper c = writing _ (returns-in_err-code-clause-written c)

pub write-requires : goal.write-requires
write-requires c = let p = passed _ _ _ _ _ _ _ c.test.ensures c.in_ok-test.was in
    (p.word_size, p.symbols_size, p.width)

pub returns-in_err-test-clause-written : goal.returns-in_err-test-clause-written
returns-in_err-test-clause-written c = let e = err_from_is_err_and c.from_residual-in_err-test.result c.from_residual-in_err-test.ensures.1 in rw (e.1, e.2)
    (rw c.in_ok-code.ensures at (encoding_refused _ _ _ _ _ _ _ c.test.ensures c.in_err-test.was))

pub returns-in_err-test-clause-paper : goal.returns-in_err-test-clause-paper
returns-in_err-test-clause-paper c = writing _ (returns-in_err-test-clause-written c)

pub returns-clause-written : goal.returns-clause-written
returns-clause-written c = rw c.in_ok-code.ensures at (encoding_done _ _ _ _ _ _ _ c.test.ensures c.in_ok-test.was c.write.ensures)

pub returns-clause-paper : goal.returns-clause-paper
returns-clause-paper c = writing _ (returns-clause-written c)
