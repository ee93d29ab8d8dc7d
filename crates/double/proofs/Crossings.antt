-- Lines that are not silent, one after the other, and where two lines meet.
use mathlib.Core.Path.{◌≡◌, refl, sym, ap, ◌∙◌}
use mathlib.Core.List.{List}
use Prim.Native.Nat.{ℕ, ◌+◌, ◌*◌, ◌<◌, ◌≤◌}
use native.Mathlib.Decide.{dec_lt}
use native.Mathlib.Omega.{arith}
use lib.Arith.{digits_lt}
use lib.ListN.{length}
use Rattle.std.specs.Prelude.{take, drop}
use Rattle.std.proofs.lemmas.List.{get_or-take, get_or-drop, length-take-le, length-drop}
use Rattle.gtb.specs.declared.Shape.{Shape}
use Rattle.gtb.specs.Shape.{Lawful, word_length}
use Rattle.gtb.specs.Square.{line_of, at}
use Rattle.gtb.proofs.Bounds.{positive}
use Rattle.gtb.proofs.Lines.{line_lt}
use Rattle.correction.specs.Guesses.{OnRow}
use Rattle.correction.proofs.Guessing.{same_position}
use Rattle.double.specs.Steps.{FirstLine, LastLine, Crosses}

-- ---- the first line that is not silent, and the last, in the checks of a direction
module _ (s : Shape) (syn : List ℕ) (t : ℕ) {lines : List ℕ} (l : t * s.q + s.q ≤ length syn) (e : lines ≡ take s.q (drop (t * s.q) syn)) where
  size : length lines ≡ s.q
  size = ap length e ∙ length-take-le s.q (drop (t * s.q) syn) (omega (arith, length-drop (t * s.q) syn, l))

  entry : (L : ℕ) → L < s.q → at lines L ≡ at syn (t * s.q + L)
  entry L lL = ap (λ (xs : List ℕ). at xs L) e ∙ get_or-take s.q (drop (t * s.q) syn) L 0 lL ∙ get_or-drop (t * s.q) syn L 0

  pub first_found : (r : ℕ) → r < length lines → (at lines r ≡ 0 → ⊥) → ((k : ℕ) → k < r → at lines k ≡ 0) → FirstLine s syn t r
  first_found r lr here before = record {
    below = omega (arith, lr, size);
    first = λ L lL nz. (
      elim (dec_lt L r) [
        | yes less ↦ absurd (nz (sym (entry L lL) ∙ before L less))
        | no more ↦ omega arith
      ],
      λ z. here (entry r (omega (arith, lr, size)) ∙ z),
    );
  }

  pub last_found : (r : ℕ) → r < length lines → (at lines r ≡ 0 → ⊥) → ((k : ℕ) → r < k → k < length lines → at lines k ≡ 0) → LastLine s syn t r
  last_found r lr here after = record {
    below = omega (arith, lr, size);
    last = λ L lL nz. (
      elim (dec_lt r L) [
        | yes more ↦ absurd (nz (sym (entry L lL) ∙ after L more (omega (arith, lL, size))))
        | no less ↦ omega arith
      ],
      λ z. here (entry r (omega (arith, lr, size)) ∙ z),
    );
  }

  -- all are silent
  module _ (pos : 0 < s.q) (silent : (k : ℕ) → k < length lines → at lines k ≡ 0) where
    pub first_none : FirstLine s syn t 0
    first_none = record { below = pos; first = λ L lL nz. absurd (nz (sym (entry L lL) ∙ silent L (omega (arith, lL, size)))) }

    pub last_none : LastLine s syn t 0
    last_none = record { below = pos; last = λ L lL nz. absurd (nz (sym (entry L lL) ∙ silent L (omega (arith, lL, size)))) }

-- ---- where two lines meet
module _ (s : Shape) (law : Lawful s) where
  pub crosses_here : (t u a b j : ℕ) → t < u → u < s.n → j < word_length s → line_of s t j ≡ a → line_of s u j ≡ b → Crosses s t u a b j
  crosses_here t u a b j tu lu lj la lb =
      record { below = lj; meets = λ i li ia ib. same_position s law t u i j tu lu li lj (ia ∙ sym la) (ib ∙ sym lb) }

  -- no position of the rows passed is on both lines
  pub row_passed : (t u a b row j : ℕ) → t < u → u < s.n → OnRow s u row b j → (line_of s t j ≡ a → ⊥)
      → (i : ℕ) → OnRow s u row b i → line_of s t i ≡ a → ⊥
  row_passed t u a b row j tu lu here ne i there e =
      ne (ap (line_of s t) (same_position s law 0 u j i (omega arith) lu here.below there.below (here.row_of ∙ sym there.row_of) (here.line_is ∙ sym there.line_is)) ∙ e)

  pub crosses_none : (t u a b : ℕ) → t < u → u < s.n → ((row : ℕ) → row < s.q → (i : ℕ) → OnRow s u row b i → line_of s t i ≡ a → ⊥) → Crosses s t u a b 0
  crosses_none t u a b tu lu none = record {
    below = omega (arith, digits_lt (positive s law) (positive s law));
    meets = λ i li ia ib. absurd (none (line_of s 0 i) (line_lt s law 0 i (omega arith) li) i (record { below = li; row_of = refl; line_is = ib }) ia);
  }
