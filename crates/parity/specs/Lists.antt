-- Lists by their entries.
use Rattle.std.specs.Prelude.{◌≡◌, List, [], ◌∷◌, ℕ, zero, suc, ◌+◌, ◌≤◌, ◌<◌, length, get_or}

-- the value at a place
abbrev pub at : List ℕ → ℕ → ℕ
at xs i = get_or xs i 0

-- f 0, f 1, .., f (n - 1)
unfoldable pub tabulate : ℕ → (ℕ → ℕ) → List ℕ
tabulate zero f = []
tabulate (suc n) f = f 0 ∷ tabulate n (λ k. f (suc k))

-- places a to a + p - 1 hold f 0 to f (p - 1), all others what they held
pub record Written (a p : ℕ) (f : ℕ → ℕ) (w w' : List ℕ) : Type 0 where
  pub size : length w' ≡ length w
  pub inside : (i : ℕ) → i < p → at w' (a + i) ≡ f i
  pub below : (j : ℕ) → j < a → at w' j ≡ at w j
  pub above : (j : ℕ) → a + p ≤ j → at w' j ≡ at w j

-- n values, of which the first m are f 0 to f (m - 1)
pub record Begins (n m : ℕ) (f : ℕ → ℕ) (xs : List ℕ) : Type 0 where
  pub size : length xs ≡ n
  pub entry : (i : ℕ) → i < m → at xs i ≡ f i
