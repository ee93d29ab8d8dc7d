-- `capture::append` meets its contract: the line is too long, or it is not.
use native.Mathlib.Omega.{arith}
use Rattle.capture.proofs.Frames.{extended_over, extended_put}
use Rattle.capture.proofs.append.Goals as goal

pub returns-then-saturating_add-gt16383 : goal.returns-then-saturating_add-gt16383
returns-then-saturating_add-gt16383 c = extended_over _ c.requires (omega (arith, c.saturating_add.ensures))

pub returns : goal.returns
returns c = extended_put _ c.requires (omega (arith, c.saturating_add.ensures)) c.put_text.ensures
