-- A lone member of a set, and a lone symbol on a check.
use mathlib.Core.Path.{◌≡◌, ap, ◌∙◌}
use mathlib.Core.Bool.{Bool, true, false, not, ◌&&◌}
use mathlib.Core.Logic.Dec
use mathlib.Core.Logic.{⊎_elim}
use Prim.Native.Nat.{ℕ, ◌<◌, ◌≤◌}
use native.Mathlib.Decide.{ℕ_discrete}
use native.Mathlib.Omega.{arith}
use lib.Dec.{eqb}
use borrow.Author.Tests.{ne_eqb, eqb-true}
use Rattle.parity.specs.Xor.{when}
use Rattle.parity.specs.Count.{count, any}
use Rattle.parity.proofs.Xors.{when_zero, when_here}
use Rattle.parity.proofs.XorSums.{only}
use Rattle.parity.proofs.Tests.{either, clash, and_both, not_of_false, any_elim, any_intro, any_no}
use Rattle.parity.proofs.Sums.{bit_true}
use Rattle.parity.proofs.Pigeon.{any_count, count_others}
use Rattle.gtb.specs.declared.Shape.{Shape}
use Rattle.gtb.specs.Shape.{word_length}
use Rattle.gtb.specs.Square.{line_of, syndrome}
use Rattle.correction.specs.Error.{on_check}

-- one member at most: it is here, or there is none
pub lone : (n : ℕ) (p : ℕ → Bool) → 0 < n → count n p ≤ 1 → (i : ℕ) × (i < n) × ((m : ℕ) → m < n → p m ≡ true → m ≡ i)
lone n p pos few =
    ⊎_elim
    (λ (a : any n p ≡ true).
    let (i, li, h) = any_elim n p a in (
      i,
      li,
      λ m lm hm.
          (Dec.not-not (ℕ_discrete m i)).0
          (λ ne.
          let others = count_others n p i li h in
          let one = any_count n (λ j. p j && not (eqb j i)) in
          omega (arith, bit_true (any_intro n (λ j. p j && not (eqb j i)) m lm (and_both hm (not_of_false (ne_eqb m i ne)))))),
    ))
    (λ (none : any n p ≡ false). (0, pos, λ m lm hm. absurd (clash hm (any_no n p none m lm))))
    (either (any n p))

-- the check of direction t on i shows the symbol at i, if the others on it are 0
pub lone_check : (s : Shape) (f : ℕ → ℕ) (i t : ℕ) → i < word_length s
    → ((j : ℕ) → j < word_length s → (j ≡ i → ⊥) → line_of s t j ≡ line_of s t i → f j ≡ 0) → on_check s f i t ≡ f i
unfolding syndrome when
lone_check s f i t li zeros =
    only (word_length s) i (λ j. when (eqb (line_of s t j) (line_of s t i)) (f j)) li
    (λ j lj ne.
    ⊎_elim
    (λ (l : eqb (line_of s t j) (line_of s t i) ≡ true).
    ap (when (eqb (line_of s t j) (line_of s t i))) (zeros j lj ne (eqb-true _ _ l)) ∙ when_zero (eqb (line_of s t j) (line_of s t i)))
    (λ (l : eqb (line_of s t j) (line_of s t i) ≡ false). ap (λ (b : Bool). when b (f j)) l)
    (either (eqb (line_of s t j) (line_of s t i))))
    ∙ when_here (line_of s t i) (f i)
