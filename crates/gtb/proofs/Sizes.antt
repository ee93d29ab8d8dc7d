-- The lengths that a lawful shape asks for are small.
use mathlib.Core.Path.{◌≡◌, ap, ◌∙◌}
use Prim.Native.Nat.{ℕ, suc, ◌+◌, ◌*◌, ◌-◌, ◌≤◌, ◌<◌}
use native.Mathlib.Nat.{le_trans, mul-le-mul, mul-le-mul_right, mul-suc, suc-mul, mul_comm}
use native.Mathlib.Omega.{arith}
use Rattle.gtb.specs.declared.Shape.{Shape}
use Rattle.gtb.specs.Shape.{Lawful, word_length, info_length, kept_checks, scratch_length}
use Rattle.gtb.proofs.Bounds.{bounds, positive}
use Rattle.gtb.proofs.Turns.{row_in}

pub record Sizes (s : Shape) : Type 0 where
  pub word : word_length s ≤ 961
  pub info : info_length s ≤ 900
  pub least : 2 ≤ info_length s
  pub checks : s.n * s.q ≤ 248
  pub directions : s.n ≤ s.n * s.q
  pub kept : kept_checks s ≤ 241
  pub scratch : scratch_length s ≤ 7471

-- q - 1 checks of each direction, and one of each
pub checks_parts : (s : Shape) → Lawful s → s.n * s.q ≡ s.n * (s.q - 1) + s.n
checks_parts s h = ap (λ (k : ℕ). s.n * k) (omega (arith, positive s h)) ∙ mul-suc s.n (s.q - 1)

pub sizes : (s : Shape) → Lawful s → Sizes s
unfolding scratch_length kept_checks
sizes s h =
    let b = bounds s h in
    let square : s.q * s.q ≤ 31 * 31 = mul-le-mul b.q31 b.q31 in
    let rows : s.n * s.q ≤ 8 * 31 = mul-le-mul b.n8 b.q31 in
    let info : (s.q - 1) * (s.q + 1 - s.n) ≤ 30 * 30 = mul-le-mul {n₂ = 30} {m₂ = 30} (omega arith) (omega arith) in
    let least : 2 * 1 ≤ (s.q - 1) * (s.q + 1 - s.n) = mul-le-mul {n₁ = 2} {m₁ = 1} (omega arith) (omega arith) in
    let own : s.n * (s.q - 1) ≤ 8 * 30 = mul-le-mul {m₂ = 30} b.n8 (omega arith) in
    let kept : kept_checks s ≤ 241 = omega (arith, checks_parts s h) in
    record {
      word = square;
      info = info;
      least = least;
      checks = rows;
      directions = omega (arith, checks_parts s h);
      kept = kept;
      scratch = le_trans (mul-le-mul {n₂ = 241} {m₂ = 31} kept (omega arith)) (omega arith);
    }

-- the entries of each direction are among the 248
pub direction_room : (s : Shape) → Lawful s → (t : ℕ) → t < s.n → t * s.q + s.q ≤ 248
direction_room s h t l = omega (arith, suc-mul t s.q, mul-le-mul_right s.q l, (sizes s h).checks)

-- lower row i of the word, and the symbols that it takes
pub record Lower (s : Shape) (i : ℕ) : Type 0 where
  pub row : (s.n - 1 + i) * s.q + s.q ≤ word_length s
  pub run : i * (s.q - 1) + (s.q - 1) ≤ info_length s

pub lower : (s : Shape) → Lawful s → (i : ℕ) → i < s.q - (s.n - 1) → Lower s i
lower s h i l =
    let b = bounds s h in
    let last : suc i * (s.q - 1) ≤ (s.q + 1 - s.n) * (s.q - 1) = mul-le-mul_right (s.q - 1) (omega arith) in
    record {
      row = row_in (s.n - 1 + i) s.q (omega arith);
      run = omega (arith, suc-mul i (s.q - 1), mul_comm (s.q + 1 - s.n) (s.q - 1));
    }
