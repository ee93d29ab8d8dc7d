-- `double::restore::changed` meets its contract: at one position the values meet, at two they do not.
use mathlib.Core.Path.{sym, ap₂, ◌∙◌}
use Prim.Native.Nat.{ℕ, ◌+◌}
use Rattle.parity.specs.Xor.{◌⊕◌}
use Rattle.correction.proofs.Showing.{bit_byte}
use Rattle.double.specs.Steps.{pair_changes}
use Rattle.double.proofs.Pairs.{same_place, two_places}
use Rattle.double.proofs.restore.changed.Goals as goal

pub returns-then-pair : goal.returns-then-pair
unfolding pair_changes ◌⊕◌
returns-then-pair c = bit_byte _ ∙ sym (same_place _ _ _ _ _ c.requires.0 c.requires.1 c.if-pair.true)

pub returns : goal.returns
unfolding pair_changes
returns c = ap₂ (λ (x y : ℕ). x + y) (bit_byte _) (bit_byte _) ∙ sym (two_places _ _ _ _ _ c.requires.0 c.requires.1 c.if-pair.false)
