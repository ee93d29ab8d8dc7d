-- The slopes of the directions from 1 on. Only this file opens `slope_of` and `fits_slope`.
use mathlib.Core.Path.{◌≡◌, sym}
use mathlib.Core.Bool.{Bool, true, not}
use mathlib.Core.List.{List}
use Prim.Native.Nat.{ℕ, suc, ◌-◌, ◌≤◌, ◌<◌}
use native.Mathlib.Decide.{dec_lt}
use native.Mathlib.Omega.{arith}
use lib.Dec.{eqb, ltb}
use lib.ListN.{get_or}
use borrow.Author.Tests.{ltb-true, lt-ltb, eqb-false, not-true}
use Rattle.parity.specs.Cyclic.{Apart}
use Rattle.parity.proofs.Tests.{and_left, and_right, and_both, all_elim}
use Rattle.parity.specs.Count.{all}
use Rattle.parity.proofs.Modular.{opposite}
use Rattle.gtb.specs.declared.Shape.{Shape}
use Rattle.gtb.specs.Shape.{regular, fits_slope, sloped, lawful, Lawful, slope_of}
use Rattle.gtb.specs.Rows.{shift_of}

-- ---- the test of one slope
-- place u of the list holds another slope than place t
abbrev pub differs : List ℕ → ℕ → ℕ → Bool
differs slopes t u = not (eqb (get_or slopes u 0) (get_or slopes t 0))

pub slope_fits : {q : ℕ} (slopes : List ℕ) (t : ℕ) → get_or slopes t 0 < q → all t (differs slopes t) ≡ true → true ≡ fits_slope q slopes t
unfolding fits_slope
slope_fits {q} slopes t l h = sym (and_both (lt-ltb (get_or slopes t 0) q l) h)

-- ---- the slopes of a lawful shape
-- what test 18 shows of one of them
slope_test : (s : Shape) → Lawful s → (t : ℕ) → 1 ≤ t → t < s.n → fits_slope s.q s.slopes (t - 1) ≡ true
unfolding lawful sloped
slope_test s h t one l = all_elim (s.n - 1) (fits_slope s.q s.slopes) (and_right (regular s) _ h) (t - 1) (omega arith)

-- each is below q
pub slope_lt : (s : Shape) → Lawful s → (t : ℕ) → 1 ≤ t → t < s.n → slope_of s t < s.q
unfolding slope_of fits_slope
slope_lt s h t one l = ltb-true (get_or s.slopes (t - 1) 0) s.q (and_left _ _ (slope_test s h t one l))

-- it stands at no place before
slope_new : (s : Shape) → Lawful s → (t u : ℕ) → 1 ≤ t → t < u → u < s.n → slope_of s t ≡ slope_of s u → ⊥
unfolding slope_of fits_slope
slope_new s h t u one l lu =
    eqb-false (get_or s.slopes (t - 1) 0) (get_or s.slopes (u - 1) 0)
    (not-true _
    (all_elim (u - 1) (λ i. not (eqb (get_or s.slopes i 0) (get_or s.slopes (u - 1) 0)))
    (and_right (ltb (get_or s.slopes (u - 1) 0) s.q) _ (slope_test s h u (omega arith) lu)) (t - 1) (omega arith)))

-- no two are equal
pub slope_apart : (s : Shape) → Lawful s → (t u : ℕ) → 1 ≤ t → t < s.n → 1 ≤ u → u < s.n → (t ≡ u → ⊥) → slope_of s t ≡ slope_of s u → ⊥
slope_apart s h t u one l one' l' ne e =
    elim (dec_lt t u) [
      | yes below ↦ slope_new s h t u one below l' e
      | no above ↦ slope_new s h u t one' (omega arith) l (sym e)
    ]

-- the shifts are different modulo q
pub shift_apart : (s : Shape) → Lawful s → Apart s.q (s.n - 1) (shift_of s)
unfolding shift_of
shift_apart s h = record {
  apart = λ t u lt lu ne e.
      slope_apart s h (suc t) (suc u) (omega arith) (omega arith) (omega arith) (omega arith) (λ same. ne (omega arith))
      (opposite s.q (slope_of s (suc t)) (slope_of s (suc u)) (below t lt) (below u lu) e);
}
  where
    below : (t : ℕ) → t < s.n - 1 → slope_of s (suc t) < s.q
    below t l = slope_lt s h (suc t) (omega arith) (omega arith)
