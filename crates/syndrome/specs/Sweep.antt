-- What the steps of the syndromes' computation do: symbols of a word are XORed onto a stretch of entries, or laid down twice.
use Rattle.std.specs.Prelude.{◌≡◌, Bool, ◌&&◌, List, ℕ, ◌+◌, ◌*◌, ◌≤◌, ◌<◌, eqb, length}
use Rattle.parity.specs.Xor.{◌⊕◌}
use Rattle.parity.specs.Lists.{at, Written}
use Rattle.gtb.specs.declared.Shape.{Shape}
use Rattle.gtb.specs.Shape.{slope_of}
use Rattle.gtb.specs.Square.{syndrome}

-- two directions, the second of slope 0: its lines are the columns
unfoldable pub is_flat : Shape → Bool
is_flat s = eqb s.n 2 && eqb (slope_of s 1) 0

-- f 0 .. f (count - 1) are XORed onto the entries from base on; the other entries stay
abbrev pub Added : ℕ → ℕ → (ℕ → ℕ) → List ℕ → List ℕ → Type 0
Added base count f old new = Written base count (λ i. at old (base + i) ⊕ f i) old new

-- the first m rows of w, each laid down twice, one row after the other: a rotated row is then one run
pub record Doubled (q m : ℕ) (w twice : List ℕ) : Type 0 where
  pub size : length twice ≡ q * (q + q)
  pub once : (r : ℕ) → r < m → (c : ℕ) → c < q → at twice (r * (q + q) + c) ≡ at w (r * q + c)
  pub again : (r : ℕ) → r < m → (c : ℕ) → c < q → at twice (r * (q + q) + q + c) ≡ at w (r * q + c)

-- the entries of the first t directions are the syndromes, the others still 0
pub record Directions (s : Shape) (w : List ℕ) (t : ℕ) (syn : List ℕ) : Type 0 where
  pub size : length syn ≡ 248
  pub entry : (u : ℕ) → u < t → (L : ℕ) → L < s.q → at syn (u * s.q + L) ≡ syndrome s (at w) u L
  pub rest : (e : ℕ) → t * s.q ≤ e → at syn e ≡ 0
