-- `encoder::checks::raise` meets its contract.
use mathlib.Core.Path.{sym, ◌∙◌}
use Rattle.syndrome.proofs.Flats.{flat_two, flat_slope}
use Rattle.encoder.proofs.Upper.{raised_stacked}
use Rattle.encoder.proofs.checks.raise.Goals as goal

pub returns-then-is_flat : goal.returns-then-is_flat
returns-then-is_flat c = let flat = sym c.is_flat.ensures ∙ c.if-is_flat.true in
    raised_stacked _ c.args.code.lawful _ _ (flat_two _ flat) (flat_slope _ flat) c.stack.ensures
