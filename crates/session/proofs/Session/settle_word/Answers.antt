-- `session::Session::settle_word` meets its contract: a page that the first step tells is settled.
use native.Mathlib.Omega.{arith}
use Rattle.session.proofs.Opens.{lent_marks, decides_refused, decides_new}
use Rattle.session.proofs.Session.settle_word.Goals as goal

pub slice_bounds-settled-end : goal.slice_bounds-settled-end
slice_bounds-settled-end c = (c.open_kept.ensures.tells.readable _ _ _ c.in-Ok.is).room

pub settled-arrived-requires : goal.settled-arrived-requires
settled-arrived-requires c = let page = c.open_kept.ensures.tells.readable _ _ _ c.in-Ok.is in
    (c.requires.0, page.low, lent_marks page)

pub put_back-requires : goal.put_back-requires
put_back-requires c = omega (arith, c.open_kept.auto.word, c.open_kept.auto.came, c.requires.2)

pub returns-in-Err : goal.returns-in-Err
returns-in-Err c = decides_refused _ c.open_kept.ensures c.in-Err.is c.refused.ensures

pub returns-in-Ok : goal.returns-in-Ok
returns-in-Ok c = decides_new _ c.open_kept.ensures c.in-Ok.is c.settled-arrived.ensures c.put_back.ensures
