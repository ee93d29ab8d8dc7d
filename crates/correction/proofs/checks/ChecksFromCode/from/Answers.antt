-- `correction::checks::Checks::of` meets its contract.
use mathlib.Core.Path.{sym, ◌∙◌}
use native.Mathlib.Omega.{arith}
use Rattle.correction.proofs.Tabulated.{tabled}
use Rattle.correction.proofs.checks.ChecksFromCode.from.Goals as goal

pub invariant_of-result-clause-tabled : goal.invariant_of-result-clause-tabled
invariant_of-result-clause-tabled c = tabled _ (sym c.is_shipped.ensures ∙ c.if-is_shipped.true) _ c.check_numbers.ensures

pub invariant_of-result-clause-untabled : goal.invariant_of-result-clause-untabled
invariant_of-result-clause-untabled c = λ none. absurd (omega (arith, none, c.check_numbers.ensures.size))
