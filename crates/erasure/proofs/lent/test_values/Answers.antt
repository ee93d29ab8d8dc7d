-- `erasure::lent::test_values` meets its contract.
use mathlib.Core.Path.{sym, ◌∙◌}
use Rattle.gtb.proofs.Bounds.{bounds}
use Rattle.gtb.proofs.Sizes.{sizes}
use Rattle.erasure.specs.Steps.{value_tests}
use Rattle.erasure.proofs.lent.test_values.Goals as goal

pub is_narrow-requires : goal.is_narrow-requires
is_narrow-requires c = (bounds _ c.requires).b32

pub is_rising-requires : goal.is_rising-requires
is_rising-requires c = rw c.word_length.ensures (sizes _ c.requires).word

pub returns-then-not-is_narrow : goal.returns-then-not-is_narrow
unfolding value_tests
returns-then-not-is_narrow c = rw (sym c.is_narrow.ensures ∙ c.if-not-is_narrow.true)

pub returns-then-not-is_rising : goal.returns-then-not-is_rising
unfolding value_tests
returns-then-not-is_rising c =
    rw (sym c.is_narrow.ensures ∙ c.if-not-is_narrow.false, rw c.word_length.ensures at (sym c.is_rising.ensures ∙ c.if-not-is_rising.true))

pub returns : goal.returns
unfolding value_tests
returns c = rw (sym c.is_narrow.ensures ∙ c.if-not-is_narrow.false, rw c.word_length.ensures at (sym c.is_rising.ensures ∙ c.if-not-is_rising.false))
