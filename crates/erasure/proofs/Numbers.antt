-- The numbers of the kept checks, as the code computes them.
use mathlib.Core.Path.{◌≡◌, refl, sym, ap, ap₂, ◌∙◌, subst}
use mathlib.Core.Bool.{Bool, true, cond, ◌&&◌}
use mathlib.Core.Logic.{⊎_elim}
use Prim.Native.Nat.{ℕ, zero, suc, ◌+◌, ◌-◌, ◌*◌, ◌/◌, ◌%◌, ◌<◌, ◌≤◌}
use native.Mathlib.Nat.{mul-suc, suc-mul, mul-one, zero-mul, zero-add, mul-le-mul, mul-le-mul_left}
use native.Mathlib.Numerals.{add-one}
use native.Mathlib.Omega.{arith}
use lib.Dec.{eqb}
use Rattle.std.specs.Prelude.{Some, None}
use borrow.Author.Tests.{eqb-true, eq-eqb, ne_eqb, le-ltb}
use Rattle.parity.proofs.Tests.{either, clash, same, and_left, and_right, and_both}
use Rattle.gtb.specs.declared.Shape.{Shape}
use Rattle.gtb.specs.Shape.{Lawful, word_length, kept_checks}
use Rattle.gtb.specs.Square.{line_of}
use Rattle.gtb.specs.Kept.{is_kept, kept_direction, kept_line}
use Rattle.gtb.proofs.Bounds.{bounds, positive}
use Rattle.gtb.proofs.Lines.{line_lt}
use Rattle.gtb.proofs.Kept.{number_of, first_kept, low_kept, last_kept, kept_number, kept_back, kept_rows}
use Rattle.correction.specs.Error.{check_of}
use Rattle.correction.proofs.CheckNumbers.{check_lt}
use Rattle.erasure.specs.Steps.{on_kept, Numbered}

-- numbers among the kept checks, by those among all checks
number_first : (s : Shape) (t L : ℕ) → t ≡ 0 → number_of s t L ≡ t * s.q + L
number_first s zero L e = sym (ap (λ (x : ℕ). x + L) (zero-mul s.q) ∙ zero-add L)
number_first s (suc t) L e = absurd (omega arith)

number_later : (s : Shape) → Lawful s → (t L : ℕ) → (t ≡ 0 → ⊥) → number_of s t L ≡ t * s.q + L + 1 - t
number_later s law zero L ne = absurd (ne refl)
number_later s law (suc t) L ne =
    let parts : suc t * s.q ≡ suc t * (s.q - 1) + suc t = ap (λ (k : ℕ). suc t * k) (omega (arith, positive s law)) ∙ mul-suc (suc t) (s.q - 1) in
    omega arith

-- the last line of a direction
turn : (t q : ℕ) → (t + 1) * q ≡ t * q + q
turn t q = ap (λ (x : ℕ). x * q) (add-one t) ∙ suc-mul t q

module _ (s : Shape) (law : Lawful s) (t j : ℕ) (lt : t < s.n) (lj : j < word_length s) where
  -- a kept check of direction t on j is that of its line
  on_line : (i : ℕ) → (eqb (kept_direction s i) t && on_kept s i j) ≡ true → (kept_direction s i ≡ t) × (kept_line s i ≡ line_of s t j)
  unfolding on_kept
  on_line i y =
      let d : kept_direction s i ≡ t = eqb-true (kept_direction s i) t (and_left _ _ y) in
      (d, sym (eqb-true _ _ (and_right (eqb (kept_direction s i) t) _ y)) ∙ ap (λ (u : ℕ). line_of s u j) d)

  -- it is kept
  numbered_kept : is_kept s t (line_of s t j) ≡ true → Numbered s t j (Some (number_of s t (line_of s t j)))
  unfolding on_kept
  numbered_kept kept =
      let (few, direction, line) = kept_number s law t (line_of s t j) lt (line_lt s law t j lt lj) kept in (
        few,
        λ i l.
            same
            (λ y.
            let e : i ≡ number_of s t (line_of s t j) = eqb-true i _ y in
            let d : kept_direction s i ≡ t = ap (kept_direction s) e ∙ direction in
            and_both (eq-eqb (kept_direction s i) t d)
            (eq-eqb _ _ (ap (λ (u : ℕ). line_of s u j) d ∙ sym line ∙ ap (kept_line s) (sym e))))
            (λ y.
            let (d, c) = on_line i y in
            eq-eqb i _ (sym (kept_back s law i) ∙ ap₂ (number_of s) d c)),
      )

  pub numbered_first : t ≡ 0 → Numbered s t j (Some (check_of s j t))
  numbered_first e =
      subst (λ (r : ℕ). Numbered s t j (Some r)) (number_first s t (line_of s t j) e) (numbered_kept (ap (λ (u : ℕ). is_kept s u (line_of s t j)) e ∙ first_kept s (line_of s t j)))

  pub numbered_later : (t ≡ 0 → ⊥) → (check_of s j t + 1 ≡ (t + 1) * s.q → ⊥) → Numbered s t j (Some (check_of s j t + 1 - t))
  numbered_later ne e =
      subst (λ (r : ℕ). Numbered s t j (Some r)) (number_later s law t (line_of s t j) ne)
      (numbered_kept (low_kept s t (line_of s t j) (omega (arith, turn t s.q, line_lt s law t j lt lj, e))))

  -- it is not kept
  pub numbered_none : (t ≡ 0 → ⊥) → check_of s j t + 1 ≡ (t + 1) * s.q → Numbered s t j None
  numbered_none ne e i l =
      ⊎_elim
      (λ (y : (eqb (kept_direction s i) t && on_kept s i j) ≡ true).
      let (d, c) = on_line i y in
      let (dn, lq, kept) = (kept_rows s law).kept i l in
      absurd
      (clash (sym (ap₂ (is_kept s) d (c ∙ last)) ∙ kept) (last_kept s law t ∙ ne_eqb t 0 ne)))
      (λ n. n) (either (eqb (kept_direction s i) t && on_kept s i j))
    where
      last : line_of s t j ≡ s.q - 1
      last = omega (arith, turn t s.q, line_lt s law t j lt lj)

-- the code's sums
pub check_above : (s : Shape) → Lawful s → (t j : ℕ) → t ≤ check_of s j t
check_above s law t j = omega (arith, mul-le-mul_left {m = 1} {n = s.q} t (positive s law), mul-one t)

pub turn_small : (s : Shape) → Lawful s → (t : ℕ) → t < s.n → (t + 1) * s.q ≤ 248
turn_small s law t lt = mul-le-mul {n₂ = 8} {m₂ = 31} (omega (arith, (bounds s law).n8)) (bounds s law).q31

-- ---- back
module _ (s : Shape) (law : Lawful s) where
  pub check_first : (i : ℕ) → i < s.q → i ≡ kept_direction s i * s.q + kept_line s i
  check_first i l =
      let (few, direction, line) = kept_number s law 0 i (omega (arith, (bounds s law).n2)) l (first_kept s i) in
      sym (ap₂ (λ (a b : ℕ). a * s.q + b) direction line ∙ ap (λ (x : ℕ). x + i) (zero-mul s.q) ∙ zero-add i)

  pub check_later : (i : ℕ) → s.q ≤ i → (i - 1) / (s.q - 1) * s.q + (i - 1) % (s.q - 1) ≡ kept_direction s i * s.q + kept_line s i
  unfolding kept_direction kept_line
  check_later i l =
      ap (λ (x : ℕ). (i - 1) / (s.q - 1) * s.q + x) (sym (ap (λ (b : Bool). cond b i ((i - 1) % (s.q - 1))) (le-ltb i s.q l)))

  -- the check is in the table
  pub kept_fits : (i : ℕ) → i < kept_checks s → kept_direction s i * s.q + kept_line s i < 248
  kept_fits i l = let (lt, lL, kept) = (kept_rows s law).kept i l in check_lt s law (kept_direction s i) (kept_line s i) lt lL
