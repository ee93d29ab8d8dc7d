-- XOR is a commutative group in which each number is its own inverse.
use mathlib.Core.Path.{◌≡◌, refl, sym, ap, ap₂, ◌∙◌}
use mathlib.Core.Bool.{Bool, true, false}
use Prim.Native.Nat.{ℕ, zero, suc, ◌+◌, ◌*◌, ◌/◌, ◌%◌, ◌^◌, ◌<◌}
use native.Mathlib.Nat.{mod-lt, zero-lt-suc}
use native.Mathlib.Omega.{arith}
use lib.Dec.{eqb}
use lib.Pow.{pow_pos}
use lib.Bits.{bit_xor, differ, xor_step, xor_zero_l, xor_zero_r, xor_comm, xor_self, xor_lt}
use lib.Arith.{bin_ind, digits_div, digits_mod}
use borrow.Author.Tests.{eq-eqb, ne_eqb}
use Rattle.parity.specs.Xor.{◌⊕◌, when}

differ_lt : (x y : ℕ) → x < 2 → y < 2 → differ x y < 2
differ_lt zero y hx hy = hy
differ_lt (suc zero) zero hx hy = omega arith
differ_lt (suc zero) (suc y) hx hy = omega arith
differ_lt (suc (suc x)) y hx hy = absurd (omega arith)

differ_assoc : (x y z : ℕ) → x < 2 → y < 2 → z < 2 → differ (differ x y) z ≡ differ x (differ y z)
differ_assoc zero y z hx hy hz = refl
differ_assoc (suc zero) zero z hx hy hz = refl
differ_assoc (suc zero) (suc zero) zero hx hy hz = refl
differ_assoc (suc zero) (suc zero) (suc zero) hx hy hz = refl
differ_assoc (suc zero) (suc zero) (suc (suc z)) hx hy hz = absurd (omega arith)
differ_assoc (suc zero) (suc (suc y)) z hx hy hz = absurd (omega arith)
differ_assoc (suc (suc x)) y z hx hy hz = absurd (omega arith)

two_pos : 0 < 2
two_pos = zero-lt-suc 1

-- the halves and the low digits of a XOR
half : (a b : ℕ) → bit_xor a b / 2 ≡ bit_xor (a / 2) (b / 2)
half a b =
    ap (λ (x : ℕ). x / 2) (xor_step a b)
    ∙ digits_div (bit_xor (a / 2) (b / 2)) (differ_lt (a % 2) (b % 2) (mod-lt a two_pos) (mod-lt b two_pos))

low : (a b : ℕ) → bit_xor a b % 2 ≡ differ (a % 2) (b % 2)
low a b =
    ap (λ (x : ℕ). x % 2) (xor_step a b)
    ∙ digits_mod (bit_xor (a / 2) (b / 2)) (differ_lt (a % 2) (b % 2) (mod-lt a two_pos) (mod-lt b two_pos))

assoc_step : (a b c : ℕ)
    → bit_xor (bit_xor (a / 2) (b / 2)) (c / 2) ≡ bit_xor (a / 2) (bit_xor (b / 2) (c / 2))
    → bit_xor (bit_xor a b) c ≡ bit_xor a (bit_xor b c)
assoc_step a b c ih =
    xor_step (bit_xor a b) c
    ∙ ap₂ (λ (x y : ℕ). x * 2 + y)
    (ap (λ (x : ℕ). bit_xor x (c / 2)) (half a b) ∙ ih ∙ ap (λ (x : ℕ). bit_xor (a / 2) x) (sym (half b c)))
    (ap (λ (x : ℕ). differ x (c % 2)) (low a b)
    ∙ differ_assoc (a % 2) (b % 2) (c % 2) (mod-lt a two_pos) (mod-lt b two_pos) (mod-lt c two_pos)
    ∙ ap (λ (x : ℕ). differ (a % 2) x) (sym (low b c)))
    ∙ sym (xor_step a (bit_xor b c))

pub assoc : (a b c : ℕ) → a ⊕ b ⊕ c ≡ a ⊕ (b ⊕ c)
unfolding ◌⊕◌
assoc a b c =
    bin_ind (λ (n : ℕ). (b c : ℕ) → bit_xor (bit_xor n b) c ≡ bit_xor n (bit_xor b c)) (λ b c. refl)
    (λ n ih b c. assoc_step n b c (ih (b / 2) (c / 2))) a b c

pub comm : (a b : ℕ) → a ⊕ b ≡ b ⊕ a
unfolding ◌⊕◌
comm a b = xor_comm a b

pub self : (a : ℕ) → a ⊕ a ≡ 0
unfolding ◌⊕◌
self a = xor_self a

pub zero_l : (a : ℕ) → 0 ⊕ a ≡ a
unfolding ◌⊕◌
zero_l a = xor_zero_l a

pub zero_r : (a : ℕ) → a ⊕ 0 ≡ a
unfolding ◌⊕◌
zero_r a = xor_zero_r a

pub left_comm : (a b c : ℕ) → a ⊕ (b ⊕ c) ≡ b ⊕ (a ⊕ c)
left_comm a b c = sym (assoc a b c) ∙ ap (λ (x : ℕ). x ⊕ c) (comm a b) ∙ assoc b a c

pub twice : (a b : ℕ) → a ⊕ (a ⊕ b) ≡ b
twice a b = sym (assoc a a b) ∙ ap (λ (x : ℕ). x ⊕ b) (self a) ∙ zero_l b

pub ruleset xors = (assoc, comm, left_comm, self, twice, zero_l, zero_r)

pub lt_pow : (k a b : ℕ) → a < 2 ^ k → b < 2 ^ k → a ⊕ b < 2 ^ k
unfolding ◌⊕◌
lt_pow k a b ha hb = xor_lt k a b ha hb

pub eq_of_zero : (a b : ℕ) → a ⊕ b ≡ 0 → a ≡ b
eq_of_zero a b h = sym (zero_r a) ∙ ap (λ (x : ℕ). a ⊕ x) (sym h) ∙ twice a b

-- (a ⊕ b) ⊕ (c ⊕ d), the middle two exchanged
pub swap : (a b c d : ℕ) → a ⊕ b ⊕ (c ⊕ d) ≡ a ⊕ c ⊕ (b ⊕ d)
swap a b c d = simp xors

pub when_xor : (t : Bool) (x y : ℕ) → when t (x ⊕ y) ≡ when t x ⊕ when t y
unfolding when
when_xor true x y = refl
when_xor false x y = sym (self 0)

pub when_lt : (k : ℕ) (t : Bool) (x : ℕ) → x < 2 ^ k → when t x < 2 ^ k
unfolding when
when_lt k true x h = h
when_lt k false x h = pow_pos k

pub when_zero : (t : Bool) → when t 0 ≡ 0
unfolding when
when_zero true = refl
when_zero false = refl

-- x at place a, and nothing elsewhere
pub when_here : (a x : ℕ) → when (eqb a a) x ≡ x
unfolding when
when_here a x = ap (λ (b : Bool). when b x) (eq-eqb a a refl)

pub when_there : (a x j : ℕ) → (j ≡ a → ⊥) → when (eqb j a) x ≡ 0
unfolding when
when_there a x j ne = ap (λ (b : Bool). when b x) (ne_eqb j a ne)
