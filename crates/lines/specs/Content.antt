-- What a line says, computed: the values that it spells, or nothing. proofs/Contents.antt shows that this is `Spells`.
use Rattle.std.specs.Prelude.{Bool, true, false, cond, ◌&&◌, List, [], ◌∷◌, ℕ, ◌+◌, ◌*◌, ◌-◌, ◌^◌, eqb, ltb, length, get_or}
use Rattle.parity.specs.Count.{all}
use Rattle.lines.specs.Text.{space, spell, same_bytes}

pub data Content : Type 0 where
  Spelled : List ℕ → Content
  Unreadable : Content

-- each run of bytes between spaces read as digits; n stands to the left of the first
unfoldable pub values_in : ℕ → List ℕ → List ℕ
values_in n [] = n ∷ []
values_in n (b ∷ line) = elim (eqb b space) [ true ↦ n ∷ values_in 0 line | false ↦ values_in (n * 10 + (b - 48)) line ]

-- each value is below 2^32
unfoldable pub small : List ℕ → Bool
small xs = all (length xs) (λ i. ltb (get_or xs i 0) (2 ^ 32))

-- these are the line's values if they spell it
unfoldable pub content_of : List ℕ → Content
content_of line = cond (same_bytes (spell (values_in 0 line)) line && small (values_in 0 line)) (Spelled (values_in 0 line)) Unreadable
