-- `host::texts::shaftglimmer_text` meets its contract: the text stands before zeros.
use mathlib.Core.Path.{refl, ap, ◌∙◌}
use Prim.Native.Nat.{ℕ}
use lib.ListN.{replicate}
use Rattle.host.proofs.Placed.{text_crossed, text_empty}
use Rattle.host.proofs.texts.shaftglimmer_text.Goals as goal

pub returns-then-refusal-gt20 : goal.returns-then-refusal-gt20
returns-then-refusal-gt20 c =
    text_crossed _ _ _ c.if-text-ne96.false (text_empty _ _ _ c.if-refusal-gt20.true (c.fill.ensures.after (λ y h. h) ∙ ap (λ (n : ℕ). replicate n 0) c.if-text-ne96.false) refl)
