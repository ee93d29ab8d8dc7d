-- `host::arrival::settle_word` meets its contract: the mark where it lies tells what the session will.
use native.Mathlib.Omega.{arith}
use Rattle.session.proofs.Opens.{lent_marks}
use Rattle.host.proofs.Answers.{word_refused, word_again, word_new}
use Rattle.host.proofs.arrival.settle_word.Goals as goal

pub open_kept-requires : goal.open_kept-requires
open_kept-requires c = (c.requires.0.openable, c.requires.1, c.requires.2)

pub bounds-session-at : goal.bounds-session-at
bounds-session-at c = omega (arith, (c.open_kept.ensures.tells.readable _ _ _ c.in-Ok.is).low, c.requires.0.size)

pub returns-then-session-at-ne0 : goal.returns-then-session-at-ne0
returns-then-session-at-ne0 c = word_again _ _ c.requires.0.shape c.open_kept.ensures c.in-Ok.is c.if-session-at-ne0.true

pub slice_bounds-take_page-end : goal.slice_bounds-take_page-end
slice_bounds-take_page-end c = (c.open_kept.ensures.tells.readable _ _ _ c.in-Ok.is).room

pub take_page-outcome-requires : goal.take_page-outcome-requires
take_page-outcome-requires c = let fit = c.requires.0 in
    let page = c.open_kept.ensures.tells.readable _ _ _ c.in-Ok.is in
    (fit.size, fit.consistent, page.low, lent_marks page)

pub put_back-requires : goal.put_back-requires
put_back-requires c = omega (arith, c.open_kept.auto.word, c.open_kept.auto.came, c.requires.1)

pub returns-in-Err : goal.returns-in-Err
returns-in-Err c = word_refused _ _ c.requires.0.shape c.open_kept.ensures c.in-Err.is

pub returns-else-session-at-ne0 : goal.returns-else-session-at-ne0
returns-else-session-at-ne0 c = word_new _ _ c.requires.0.shape c.open_kept.ensures c.in-Ok.is c.take_page-outcome.ensures c.put_back.ensures
