-- Shapes that differ in slopes which are not looked at.
use Rattle.std.specs.Prelude.{◌≡◌, List, ℕ, ◌-◌, ◌<◌, get_or}
use Rattle.gtb.specs.declared.Shape.{Shape}

-- the shape with other slopes
abbrev pub reslope : Shape → List ℕ → Shape
reslope s slopes = record { q = s.q; n = s.n; b = s.b; slopes = slopes }

-- the first n - 1 slopes are the shape's own
pub record Alike (s : Shape) (slopes : List ℕ) : Type 0 where
  pub same : (t : ℕ) → t < s.n - 1 → get_or slopes t 0 ≡ get_or s.slopes t 0
