-- The positions of a row judged by their checks.
use mathlib.Core.Path.{◌≡◌, refl}
use mathlib.Core.Bool.{true, false, not}
use mathlib.Core.List.{List}
use Prim.Native.Nat.{ℕ, zero, suc, ◌+◌, ◌*◌, ◌<◌, ◌≤◌}
use native.Mathlib.Omega.{arith}
use borrow.Author.Count.{below_more}
use lib.Dec.{eqb}
use Rattle.gtb.specs.declared.Shape.{Shape}
use Rattle.gtb.specs.Square.{at}
use Rattle.decoder.specs.declared.locate.Judgement.{Judgement}
use Rattle.decoder.specs.Steps.{Judges}
use Rattle.correction.specs.Error.{check_of}
use Rattle.correction.proofs.Rows.{own_check}
use Rattle.decoder.proofs.Numbers.{loud, silent}
use Rattle.decoder.proofs.Looks.{judges_first, judges_all}

-- ---- one position
-- none of its checks in the directions 1 .. t - 1 is silent
pub record Loud (s : Shape) (syn : List ℕ) (j t : ℕ) : Type 0 where
  pub loud : (u : ℕ) → u < t → 1 ≤ u → at syn (check_of s j u) ≡ 0 → ⊥

pub loud_none : (s : Shape) (syn : List ℕ) (j : ℕ) → Loud s syn j 1
loud_none s syn j = record { loud = λ u l one. absurd (omega arith) }

pub loud_more : {s : Shape} {syn : List ℕ} {j t x : ℕ} → x ≡ check_of s j t → (at syn x ≡ 0 → ⊥) → Loud s syn j t → Loud s syn j (t + 1)
loud_more {s} {syn} {j} {t} {x} e ne h = record {
  loud = below_more (λ u. 1 ≤ u → at syn (check_of s j u) ≡ 0 → ⊥) t h.loud (λ one z. ne (rw e z));
}

module _ (s : Shape) (syn : List ℕ) (row c : ℕ) (lc : c < s.q) (ne : at syn row ≡ 0 → ⊥) where
  -- the checks in the directions below m, that of the row with them
  loud_check : {m : ℕ} → Loud s syn (row * s.q + c) m → (u : ℕ) → u < m → not (eqb (at syn (check_of s (row * s.q + c) u)) 0) ≡ true
  loud_check l zero lu = loud syn (own_check s row lc) ne
  loud_check l (suc u) lu = loud syn {x = check_of s (row * s.q + c) (suc u)} refl (l.loud (suc u) lu (omega arith))

  -- `judge`: the first silent check, or none
  pub judges_silent : (t : ℕ) {x : ℕ} {r : Judgement} → t < s.n → Loud s syn (row * s.q + c) t → x ≡ check_of s (row * s.q + c) t
      → at syn x ≡ 0 → r.located ≡ false → r.looked ≡ t + 1 → Judges s syn (row * s.q + c) r
  judges_silent t lt l e z lost is = judges_first s syn (row * s.q + c) t lt (loud_check l) (silent syn e z) lost is

  pub judges_loud : {r : Judgement} → Loud s syn (row * s.q + c) s.n → r.located ≡ true → r.looked ≡ s.n → Judges s syn (row * s.q + c) r
  judges_loud l found is = judges_all s syn (row * s.q + c) (loud_check l) found is
