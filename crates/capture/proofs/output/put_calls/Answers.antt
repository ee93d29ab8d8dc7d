-- `capture::output::put_calls` meets its contract: the names, then the counts.
use native.Mathlib.Omega.{arith}
use Rattle.capture.specs.Output.{calls_text}
use Rattle.capture.proofs.Texts.{put_appended, appended_both}
use Rattle.capture.proofs.output.put_calls.Goals as goal

pub returns : goal.returns
unfolding calls_text
returns c = let names = c.put_calls_names-next.ensures in
    let counts = c.put_counts.ensures in
    (appended_both (put_appended (omega arith) names) counts.0, omega (arith, names.next, counts.1))
