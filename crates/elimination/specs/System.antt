-- Systems of equations over bits: a row is the XOR of the unknowns at its columns, and asks for a value.
use Rattle.std.specs.Prelude.{◌≡◌, Bool, ℕ, ◌^◌, ◌<◌, ◌≤◌}
use Rattle.parity.specs.Xor.{◌⊕◌, xor_sum, when}

-- the XOR of the x k at the columns k below p that the row has
unfoldable pub row_sum : ℕ → (ℕ → Bool) → (ℕ → ℕ) → ℕ
row_sum p row x = xor_sum p (λ k. when (row k) (x k))

-- x solves the first r rows of p columns: row i has the columns m i k, and asks for v i
pub record Solves (p r : ℕ) (m : ℕ → ℕ → Bool) (v x : ℕ → ℕ) : Type 0 where
  pub row : (i : ℕ) → i < r → row_sum p (m i) x ≡ v i

-- the first n values are below 2^b
pub record Below (b n : ℕ) (f : ℕ → ℕ) : Type 0 where
  pub below : (i : ℕ) → i < n → f i < 2 ^ b

-- no solution
pub record Impossible (p r : ℕ) (m : ℕ → ℕ → Bool) (v : ℕ → ℕ) : Type 0 where
  pub none : (x : ℕ → ℕ) → Solves p r m v x → ⊥

-- x is the solution, and as narrow as the values
pub record Unique (p r : ℕ) (m : ℕ → ℕ → Bool) (v x : ℕ → ℕ) : Type 0 where
  pub solves : Solves p r m v x
  pub only : (y : ℕ → ℕ) → Solves p r m v y → (k : ℕ) → k < p → y k ≡ x k
  pub narrow : (b : ℕ) → Below b r v → Below b p x
  pub fits : p ≤ r

-- a solution as narrow as the values, and another one, which differs from it by zeros and ones
pub record Several (p r : ℕ) (m : ℕ → ℕ → Bool) (v : ℕ → ℕ) : Type 0 where
  pub one : ℕ → ℕ
  pub solves : Solves p r m v one
  pub narrow : (b : ℕ) → Below b r v → Below b p one
  pub change : ℕ → ℕ
  pub other : Solves p r m v (λ k. one k ⊕ change k)
  pub small : Below 1 p change
  pub place : ℕ
  pub inside : place < p
  pub differs : change place ≡ 1
