-- Where what came is kept: the scratch of a word that is long for an array is longer still.
use mathlib.Core.Path.{◌≡◌}
use mathlib.Core.Bool.{true}
use Prim.Native.Nat.{ℕ, ◌+◌, ◌-◌, ◌*◌, ◌/◌, ◌<◌, ◌≤◌}
use native.Mathlib.Nat.{le_trans, mul-le-mul, mul-le-mul_right}
use native.Mathlib.Decide.{dec_lt}
use native.Mathlib.Omega.{arith}
use Rattle.gtb.specs.declared.Shape.{Shape}
use Rattle.gtb.specs.Shape.{is_order, Lawful, word_length, info_length, kept_checks, scratch_length}
use Rattle.gtb.proofs.Orders.{order_rule}
use Rattle.gtb.proofs.Bounds.{bounds}
use Rattle.gtb.proofs.Sizes.{checks_parts}

-- after 13 the next order is 17
next_order : (q : ℕ) → is_order q ≡ true → 13 < q → 17 ≤ q
next_order q o h =
    let rule = order_rule q o in
    let no15 = rule.prime 3 (omega arith) (omega arith) in
    omega (arith, rule.odd, no15)

-- from 17 on there are 32 kept checks or more, and so as many values as bits of a row
long_enough : (s : Shape) → Lawful s → 17 ≤ s.q → word_length s ≤ scratch_length s
unfolding scratch_length kept_checks
long_enough s h big =
    let own : 2 * 16 ≤ s.n * (s.q - 1) = mul-le-mul {n₁ = 2} {m₁ = 16} (bounds s h).n2 (omega arith) in
    let rows : 32 * ((s.q * s.q + 31) / 32) ≤ kept_checks s * ((s.q * s.q + 31) / 32) = mul-le-mul_right _ (omega (arith, checks_parts s h)) in
    le_trans (omega arith) rows

pub long_scratch : (s : Shape) → Lawful s → 169 < word_length s → word_length s ≤ scratch_length s
long_scratch s h long = long_enough s h (next_order s.q (bounds s h).listed (elim (dec_lt 13 s.q) [ yes l ↦ l | no l ↦ absurd (small (omega arith)) ]))
  where
    small : s.q ≤ 13 → ⊥
    small l = omega (arith, long, mul-le-mul {n₂ = 13} {m₂ = 13} l l)

-- and the data symbols of a short word are few
pub few_data : (s : Shape) → Lawful s → word_length s ≤ 169 → info_length s ≤ 144
few_data s h short =
    let b = bounds s h in
    elim (dec_lt 13 s.q) [
      | yes l ↦ absurd (omega (arith, short, mul-le-mul {n₁ = 14} {m₁ = 14} l l))
      | no l ↦ mul-le-mul {n₂ = 12} {m₂ = 12} (omega arith) (omega arith)
    ]
