-- The definitions on examples.
use mathlib.Core.Path.{◌≡◌, refl}
use mathlib.Core.List.{[], ◌∷◌}
use Rattle.lines.specs.declared.Kind.TheVariants.{Refused}
use Rattle.lines.specs.Text.{ascii, decimal, spell, outcome_name, outcome_text, pasted}

spelled : spell (5 ∷ 12 ∷ 0 ∷ []) ≡ ascii "5 12 0"
unfolding spell decimal
spelled = refl

refused : outcome_text Refused 10 0 ≡ ascii "refused 10 0\n"
unfolding outcome_text outcome_name decimal
refused = refl

over : pasted (ascii "abcdef") 2 (ascii "xy") ≡ ascii "abxyef"
unfolding pasted
over = refl
