-- A shape as ten values: q, n, b and the slopes. A session as 10 + 2 + 1024 + 256: its shape, pages taken and lowest page not taken, the page marks and the calls counts.
use Rattle.std.specs.Prelude.{Bool, not, List, ◌∷◌, ◌++◌, map, ℕ, eqb, get_or, take, drop}
use Rattle.parity.specs.Count.{bit}
use Rattle.gtb.specs.declared.Shape.{Shape}
use Rattle.session.specs.declared.Session.{Session}

unfoldable pub shape_in : List ℕ → Shape
shape_in v = record { q = get_or v 0 0; n = get_or v 1 0; b = get_or v 2 0; slopes = drop 3 v }

unfoldable pub shape_values : Shape → List ℕ
shape_values s = s.q ∷ s.n ∷ s.b ∷ s.slopes

-- a page mark is no where its value is 0
abbrev pub is_yes : ℕ → Bool
is_yes x = not (eqb x 0)

unfoldable pub session_of : List ℕ → Session
session_of v = record { shape = shape_in (take 10 v); taken = map is_yes (take 1024 (drop 12 v)); calls = drop 1036 v; pages = get_or v 10 0; lowest = get_or v 11 0 }

unfoldable pub values_of : Session → List ℕ
values_of σ = shape_values σ.shape ++ (σ.pages ∷ σ.lowest ∷ (map bit σ.taken ++ σ.calls))
