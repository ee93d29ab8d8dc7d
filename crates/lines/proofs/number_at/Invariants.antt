-- The loop of `lines::number_at`: what has been passed is the spelling of the value.
use Rattle.std.proofs.Common.{◌≡◌, ◌++◌, ◌-◌, ◌^◌, ◌<◌, ◌≤◌, length, drop}
use Rattle.lines.specs.Text.{decimal}
use Rattle.lines.proofs.number_at.Given as goal

abbrev pub invariant-loop-digit : goal.invariant-loop-digit
invariant-loop-digit l = record {
  low : l.from < l.at;
  high : l.at ≤ length l.line;
  small : l.value < 2 ^ 32;
  text : drop l.from l.line ≡ decimal l.value ++ drop l.at l.line;
}

abbrev pub decreases-loop-digit : goal.decreases-loop-digit
decreases-loop-digit l = length l.line - l.at
