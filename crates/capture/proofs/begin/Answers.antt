-- `capture::begin` meets its contract: the first name line waits.
use mathlib.Core.Path.{refl}
use native.Mathlib.Omega.{arith}
use Rattle.capture.specs.Judge.{start}
use Rattle.capture.proofs.Texts.{put_appended}
use Rattle.capture.proofs.begin.Goals as goal

pub returns : goal.returns
unfolding start
returns c = let put = c.put_outcome_names-at.ensures in
    record {
      tally = rw c.blank.ensures;
      held = refl;
      counts = refl;
      at = put.next;
      output = put_appended (omega (arith, c.requires)) put;
    }
