-- `encoder::extract` meets its contract.
use mathlib.Core.Path.{refl}
use Rattle.std.proofs.lemmas.Result.{err_from_is_err_and}
use Rattle.encoder.proofs.Paper.{extraction}
use Rattle.encoder.proofs.Answers.{untested, passed, extraction_refused, extraction_done}
use Rattle.encoder.proofs.extract.Goals as goal

pub returns-in_err-code-clause-extracted : goal.returns-in_err-code-clause-extracted
returns-in_err-code-clause-extracted c = let e = err_from_is_err_and c.from_residual.result c.from_residual.ensures.1 in rw (e.1, e.2)
    (extraction_refused _ _ _ _ _ _ _ (untested _ _ _ _ _ c.in_err-code.ensures.0 c.in_err-code.ensures.1) refl)

pub returns-in_err-code-clause-paper : goal.returns-in_err-code-clause-paper
returns-in_err-code-clause-paper c = extraction _ (returns-in_err-code-clause-extracted c)

pub gather-requires : goal.gather-requires
gather-requires c = let p = passed _ _ _ _ _ _ _ c.test.ensures c.in_ok-test.was in
    (p.word_size, p.symbols_size)

pub returns-in_err-test-clause-extracted : goal.returns-in_err-test-clause-extracted
returns-in_err-test-clause-extracted c = let e = err_from_is_err_and c.from_residual-in_err-test.result c.from_residual-in_err-test.ensures.1 in rw (e.1, e.2)
    (rw c.in_ok-code.ensures at (extraction_refused _ _ _ _ _ _ _ c.test.ensures c.in_err-test.was))

pub returns-in_err-test-clause-paper : goal.returns-in_err-test-clause-paper
returns-in_err-test-clause-paper c = extraction _ (returns-in_err-test-clause-extracted c)

pub returns-clause-extracted : goal.returns-clause-extracted
returns-clause-extracted c = rw c.in_ok-code.ensures at (extraction_done _ _ _ _ _ _ _ c.test.ensures c.in_ok-test.was c.gather.ensures)

pub returns-clause-paper : goal.returns-clause-paper
returns-clause-paper c = extraction _ (returns-clause-extracted c)
