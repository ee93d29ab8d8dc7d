-- `capture::glance::look` meets its contract: the page marks tell what the session will.
use Rattle.capture.proofs.Looks.{looked_refused, looked_again, looked_new}
use Rattle.capture.proofs.glance.look.Goals as goal

pub bounds-taken-page : goal.bounds-taken-page
bounds-taken-page c = (c.open_line.ensures.0.readable _ _ _ c.in-Ok.is).low

pub returns-then-taken-page : goal.returns-then-taken-page
returns-then-taken-page c = let opened = c.open_line.ensures in
    (looked_again _ opened.0 c.in-Ok.is c.if-taken-page.true, opened.1)

pub returns-in-Err : goal.returns-in-Err
returns-in-Err c = let opened = c.open_line.ensures in
    (looked_refused _ opened.0 c.in-Err.is, opened.1)

pub returns-else-taken-page : goal.returns-else-taken-page
returns-else-taken-page c = let opened = c.open_line.ensures in
    (looked_new _ opened.0 c.in-Ok.is, opened.1)
