-- Functions on a cycle of q places, and the orders q over which they are used.
use Rattle.std.specs.Prelude.{◌≡◌, ℕ, ◌+◌, ◌*◌, ◌%◌, ◌<◌}
use Rattle.parity.specs.Xor.{xor_sum}

-- f repeats after q places, and its values over one turn XOR to zero
pub record Cyclic (q : ℕ) (f : ℕ → ℕ) : Type 0 where
  pub period : (c : ℕ) → f (c + q) ≡ f c
  pub total : xor_sum q f ≡ 0

-- q is odd, and each number that is no multiple of q has an inverse modulo q
pub record Order (q : ℕ) : Type 0 where
  pub odd : q % 2 ≡ 1
  pub inverse : (d : ℕ) → (d % q ≡ 0 → ⊥) → (e : ℕ) × (d * e % q ≡ 1)

-- the first m values of a are different modulo q
pub record Apart (q m : ℕ) (a : ℕ → ℕ) : Type 0 where
  pub apart : (t u : ℕ) → t < m → u < m → (t ≡ u → ⊥) → a t % q ≡ a u % q → ⊥

-- m rows evaluated at a shift: row r moved by x × r, all XORed
unfoldable pub eval : ℕ → (ℕ → ℕ → ℕ) → ℕ → ℕ → ℕ
eval m f x c = xor_sum m (λ r. f r (c + x * r))

-- the XOR of d over the steps of δ from 0 to u; e is an inverse of δ modulo q
unfoldable pub walk : ℕ → ℕ → ℕ → (ℕ → ℕ) → ℕ → ℕ
walk q δ e d u = xor_sum (u * e % q) (λ j. d (δ * j))
