-- `batch::look` meets its contract: the page marks tell what the session will.
use mathlib.Core.Path.{◌∙◌}
use Rattle.batch.proofs.Turns.{looked_refused, looked_again, looked_new}
use Rattle.batch.proofs.look.Goals as goal

pub bounds-taken-at : goal.bounds-taken-at
bounds-taken-at c = (c.open_kept.ensures.tells.readable _ _ _ c.in-Ok.is).low

pub returns-then-taken-at : goal.returns-then-taken-at
returns-then-taken-at c = looked_again c.open_kept.ensures c.in-Ok.is c.if-taken-at.true (c.copy_from_slice-then-taken-at.ensures.after ∙ c.values-then-taken-at.ensures)

pub returns-in-Err : goal.returns-in-Err
returns-in-Err c = looked_refused c.open_kept.ensures c.in-Err.is (c.copy_from_slice.ensures.after ∙ c.values.ensures)

pub returns-else-taken-at : goal.returns-else-taken-at
returns-else-taken-at c = looked_new c.open_kept.ensures c.in-Ok.is
