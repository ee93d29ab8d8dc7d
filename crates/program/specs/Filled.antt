-- A text and the zeros behind it.
use Rattle.std.specs.Prelude.{◌≡◌, List, ◌++◌, ℕ, ◌-◌, ◌≤◌, length, take, drop, replicate}
use Rattle.std.proofs.Common.{sym, ap, ◌∙◌, subst, take-append-drop, length-take-le}

-- of 400 bytes the first so many are a text, and all behind them zeros
pub record Filled (size : ℕ) (bytes : List ℕ) : Type 0 where
  pub within : size ≤ 400
  pub full : length bytes ≡ 400
  pub zeros : drop size bytes ≡ replicate (400 - size) 0

-- the text gives its length and all bytes back
pub given_size : {size : ℕ} {bytes : List ℕ} → Filled size bytes → length (take size bytes) ≡ size
given_size {size} {bytes} h = length-take-le size bytes (subst (λ (n : ℕ). size ≤ n) (sym h.full) h.within)

pub given_bytes : {size : ℕ} {bytes : List ℕ} → Filled size bytes → take size bytes ++ replicate (400 - length (take size bytes)) 0 ≡ bytes
given_bytes {size} {bytes} h =
    ap (λ (n : ℕ). take size bytes ++ replicate (400 - n) 0) (given_size h) ∙ ap (λ (rest : List ℕ). take size bytes ++ rest) (sym h.zeros) ∙ take-append-drop size bytes
