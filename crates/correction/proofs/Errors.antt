-- Errors put on a word and taken off again, whatever finds them.
use mathlib.Core.Path.{◌≡◌, ap, ◌∙◌}
use mathlib.Core.List.{List}
use Prim.Native.Nat.{ℕ, ◌^◌, ◌<◌}
use lib.Dec.{eqb}
use lib.ListN.{length}
use Rattle.parity.specs.Xor.{◌⊕◌}
use Rattle.parity.proofs.Xors.{zero_r, lt_pow, when_lt, when_here, when_there}
use Rattle.parity.proofs.Lists.{length_tabulate, at_tabulate, is_tabulate}
use Rattle.gtb.specs.declared.Shape.{Shape}
use Rattle.gtb.specs.Shape.{word_length}
use Rattle.gtb.specs.Square.{at, Word}
use Rattle.gtb.proofs.Words.{tabulate_word}
use Rattle.correction.specs.Error.{damaged, mended, off}

-- ---- an error put on a word
module _ (s : Shape) (v e : List ℕ) (hv : Word s v) (he : Word s e) where
  pub damaged_size : length (damaged v e) ≡ word_length s
  unfolding damaged
  damaged_size = length_tabulate (length v) (λ j. at v j ⊕ at e j) ∙ hv.size

  pub damaged_at : (j : ℕ) → j < word_length s → at (damaged v e) j ≡ at v j ⊕ at e j
  unfolding damaged
  damaged_at j l = at_tabulate (length v) (λ j. at v j ⊕ at e j) j (rw hv.size l)

  -- it is a word of N symbols below 2^b
  pub damaged_word : Word s (damaged v e)
  damaged_word =
      rw (is_tabulate (word_length s) (λ j. at v j ⊕ at e j) (damaged v e) damaged_size damaged_at)
      (tabulate_word s (λ j. at v j ⊕ at e j) (λ j l. lt_pow s.b (at v j) (at e j) (hv.width j) (he.width j)))

-- ---- the error that a function gives, taken off a word
module _ (s : Shape) (w : List ℕ) (error : ℕ → ℕ) where
  pub mended_at : (j : ℕ) → j < word_length s → at (mended s w error) j ≡ at w j ⊕ error j
  unfolding mended
  mended_at j l = at_tabulate (word_length s) (λ j. at w j ⊕ error j) j l

  pub mended_size : length (mended s w error) ≡ word_length s
  unfolding mended
  mended_size = length_tabulate (word_length s) (λ j. at w j ⊕ error j)

  pub mended_word : Word s w → ((j : ℕ) → j < word_length s → error j < 2 ^ s.b) → Word s (mended s w error)
  unfolding mended
  mended_word hw small = tabulate_word s (λ j. at w j ⊕ error j) (λ j l. lt_pow s.b (at w j) (error j) (hw.width j) (small j l))

-- ---- a symbol with x taken off at i
pub off_here : (f : ℕ → ℕ) (i x : ℕ) → off f i x i ≡ f i ⊕ x
unfolding off
off_here f i x = ap (λ (y : ℕ). f i ⊕ y) (when_here i x)

pub off_there : (f : ℕ → ℕ) (i x j : ℕ) → (j ≡ i → ⊥) → off f i x j ≡ f j
unfolding off
off_there f i x j ne = ap (λ (y : ℕ). f j ⊕ y) (when_there i x j ne) ∙ zero_r (f j)

pub off_narrow : (k : ℕ) (f : ℕ → ℕ) (i x j : ℕ) → f j < 2 ^ k → x < 2 ^ k → off f i x j < 2 ^ k
unfolding off
off_narrow k f i x j lf lx = lt_pow k _ _ lf (when_lt k (eqb j i) x lx)
