-- Errors, and what explains a received word (RULES 3).
use Rattle.std.specs.Prelude.{◌≡◌, List, ℕ, ◌-◌, ◌<◌, ◌≤◌}
use Rattle.gtb.specs.declared.Shape.{Shape}
use Rattle.gtb.specs.Shape.{word_length}
use Rattle.gtb.specs.Square.{line_of, at, syndrome, Word, Codeword}
use Rattle.correction.specs.Error.{weight, damaged}

-- clean damage: every check with a nonzero error symbol on it has a nonzero syndrome of the error
pub record Unmasked (s : Shape) (e : ℕ → ℕ) : Type 0 where
  pub unmasked : (t j : ℕ) → t < s.n → j < word_length s → (e j ≡ 0 → ⊥) → syndrome s e t (line_of s t j) ≡ 0 → ⊥

-- the stored word v and clean damage to k digits, at most m = n - 1, give the received word r
pub record Explains (s : Shape) (r v : List ℕ) (k : ℕ) : Type 0 where
  pub codeword : Codeword s v
  pub error : List ℕ
  pub word : Word s error
  pub unmasked : Unmasked s (at error)
  pub changed : weight s (at error) ≡ k
  pub few : k ≤ s.n - 1
  pub received : r ≡ damaged v error
