-- The numbers of a sweep: where row r starts, and by how many columns it is turned.
use mathlib.Core.Path.{◌≡◌, ◌∙◌, sym, ap, subst, subst⁻¹}
use Prim.Native.Nat.{ℕ, zero-le, ◌+◌, ◌*◌, ◌%◌, ◌≤◌, ◌<◌}
use native.Mathlib.Nat.{mul-zero, zero-mod, suc-mul, mul-suc, mul-le-mul, mul-le-mul_right, lt_of_le_of_lt, mod-lt, mod-add-mod}
use native.Mathlib.Numerals.{add-one}

-- row r lies within the word
pub row_in : (r q : ℕ) → r < q → r * q + q ≤ q * q
row_in r q l = subst (λ (x : ℕ). x ≤ q * q) (suc-mul r q) (mul-le-mul_right q l)

-- a word has at most 961 symbols
pub square_le : (q : ℕ) → q ≤ 31 → q * q ≤ 961
square_le q h = mul-le-mul h h

-- row 0 is not turned
pub turn_none : (step q : ℕ) → 0 ≡ step * 0 % q
turn_none step q = sym (ap (λ (x : ℕ). x % q) (mul-zero step) ∙ zero-mod q)

-- each row is turned by one step more than the row before
pub turn_more : (step r q place next : ℕ) → place ≡ step * r % q → next ≡ (place + step) % q → next ≡ step * (r + 1) % q
turn_more step r q place next h e =
    e ∙ ap (λ (x : ℕ). (x + step) % q) h ∙ mod-add-mod (step * r) q step
    ∙ ap (λ (x : ℕ). x % q) (sym (mul-suc step r) ∙ ap (λ (x : ℕ). step * x) (sym (add-one r)))

-- and by less than a whole turn
pub turn_lt : (step r q place : ℕ) → place ≡ step * r % q → r < q → place < q
turn_lt step r q place h l = subst⁻¹ (λ (x : ℕ). x < q) h (mod-lt (step * r) (lt_of_le_of_lt zero-le l))
