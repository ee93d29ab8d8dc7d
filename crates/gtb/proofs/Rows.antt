-- Syndromes by the rows of the square.
use mathlib.Core.Path.{◌≡◌, sym, ap, ◌∙◌}
use Prim.Native.Nat.{ℕ, suc, ◌+◌, ◌*◌, ◌%◌, ◌^◌, ◌<◌}
use lib.Dec.{eqb}
use Rattle.parity.specs.Xor.{◌⊕◌, xor_sum, when}
use Rattle.parity.proofs.Xors.{zero_r, when_xor, when_lt}
use Rattle.parity.proofs.XorSums.{cong, linear, exchange, rows, bound}
use Rattle.parity.proofs.Only.{only_sum}
use Rattle.gtb.specs.declared.Shape.{Shape}
use Rattle.gtb.specs.Shape.{Lawful, word_length}
use Rattle.gtb.specs.Square.{line_of, syndrome, Silent}
use Rattle.gtb.specs.Rows.{shift_of}
use Rattle.gtb.proofs.Lines.{column_only, row_only}

-- equal symbols, equal syndromes
pub syndrome_cong : (s : Shape) (f g : ℕ → ℕ) (t L : ℕ) → ((j : ℕ) → j < word_length s → f j ≡ g j) → syndrome s f t L ≡ syndrome s g t L
unfolding syndrome
syndrome_cong s f g t L h = cong _ _ _ (λ j l. ap (when (eqb (line_of s t j) L)) (h j l))

-- the syndromes of a XOR of words
pub syndrome_linear : (s : Shape) (f g : ℕ → ℕ) (t L : ℕ) → syndrome s (λ j. f j ⊕ g j) t L ≡ syndrome s f t L ⊕ syndrome s g t L
unfolding syndrome
syndrome_linear s f g t L = cong _ _ _ (λ j l. when_xor (eqb (line_of s t j) L) (f j) (g j)) ∙ linear _ _ _

-- a silent word's symbols do not show
pub silent_hidden : (s : Shape) (f g : ℕ → ℕ) → Silent s g → (t L : ℕ) → t < s.n → L < s.q → syndrome s f t L ≡ syndrome s (λ j. f j ⊕ g j) t L
silent_hidden s f g quiet t L lt lL = sym (syndrome_linear s f g t L ∙ ap (λ (x : ℕ). syndrome s f t L ⊕ x) (quiet.silent t L lt lL) ∙ zero_r (syndrome s f t L))

-- a syndrome is no wider than the symbols
pub syndrome_width : (s : Shape) (f : ℕ → ℕ) (k t L : ℕ) → ((j : ℕ) → j < word_length s → f j < 2 ^ k) → syndrome s f t L < 2 ^ k
unfolding syndrome
syndrome_width s f k t L h = bound k _ _ (λ j l. when_lt k (eqb (line_of s t j) L) (f j) (h j l))

-- in direction 0: the XOR of a row
pub syndrome_row : (s : Shape) → Lawful s → (f : ℕ → ℕ) (L : ℕ) → L < s.q → syndrome s f 0 L ≡ xor_sum s.q (λ c. f (L * s.q + c))
unfolding syndrome
syndrome_row s h f L l =
    rows _ _ _ ∙ exchange _ _ _ ∙ cong _ _ _ (λ c lc. only_sum _ _ L (column_only s c L lc l) (λ r. f (r * s.q + c)))

-- of each row one symbol is on a line of direction t + 1
row_line : (s : Shape) → Lawful s → (f : ℕ → ℕ) (t r L : ℕ) → suc t < s.n → r < s.q → L < s.q
    → xor_sum s.q (λ c. when (eqb (line_of s (suc t) (r * s.q + c)) L) (f (r * s.q + c)))
    ≡ f (r * s.q + (L + shift_of s t * r) % s.q)
row_line s h f t r L lt lr l = only_sum _ _ _ (row_only s h t r L lt l) (λ c. f (r * s.q + c))

-- in direction t + 1: the XOR of these, one for each row
pub syndrome_rows : (s : Shape) → Lawful s → (f : ℕ → ℕ) (t L : ℕ) → suc t < s.n → L < s.q
    → syndrome s f (suc t) L ≡ xor_sum s.q (λ r. f (r * s.q + (L + shift_of s t * r) % s.q))
unfolding syndrome
syndrome_rows s h f t L lt l = rows _ _ _ ∙ cong _ _ _ (λ r lr. row_line s h f t r L lt lr l)
