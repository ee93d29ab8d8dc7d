-- The decimal spelling of a number: its last digit, its bytes, its value and its length.
use mathlib.Core.Path.{◌≡◌, refl, sym, ap, ◌∙◌}
use mathlib.Core.Logic.{◌⊎◌, inl, inr, ⊎_elim}
use mathlib.Core.Bool.{Bool, true, false}
use mathlib.Core.List.{List, [], ◌∷◌, ◌++◌}
use Prim.Native.Nat.{ℕ, zero, suc, ◌+◌, ◌-◌, ◌*◌, ◌/◌, ◌%◌, ◌^◌, ◌≤◌, ◌<◌}
use native.Mathlib.Nat.{not-suc-le-zero, lt-suc_self, pow-suc}
use native.Mathlib.Omega.{arith}
use borrow.Author.Tests.{lt-ltb, le-ltb, ltb-true, ltb-false}
use lib.Dec.{ltb}
use lib.ListN.{length, get_or, length-append, get_or-append}
use Rattle.parity.proofs.Tests.{either}
use Rattle.lines.specs.Text.{digit, digits, decimal}

-- a number is below ten or not
by_ten : (n : ℕ) → (n < 10) ⊎ (10 ≤ n)
by_ten n = ⊎_elim (λ h. inl (ltb-true n 10 h)) (λ h. inr (ltb-false n 10 h)) (either (ltb n 10))

-- one step of the definition, below ten and from ten on
module _ (k n : ℕ) where
  step : Bool → List ℕ
  step b = elim b as (λ _. List ℕ) [ true ↦ digit n ∷ [] | false ↦ digits k (n / 10) ++ (digit (n % 10) ∷ []) ]

  step_one : n < 10 → digits (suc k) n ≡ digit n ∷ []
  unfolding step
  step_one l = ap step (lt-ltb n 10 l)

  step_more : 10 ≤ n → digits (suc k) n ≡ digits k (n / 10) ++ (digit (n % 10) ∷ [])
  unfolding step
  step_more l = ap step (le-ltb n 10 l)

-- more steps than digits change nothing
enough : (k m n : ℕ) → n < k → n < m → digits k n ≡ digits m n
enough zero m n p q = absurd (not-suc-le-zero p)
enough (suc k) zero n p q = absurd (not-suc-le-zero q)
enough (suc k) (suc m) n p q =
    ⊎_elim (λ (l : n < 10). step_one k n l ∙ sym (step_one m n l))
    (λ (l : 10 ≤ n). step_more k n l ∙ ap (λ (t : List ℕ). t ++ (digit (n % 10) ∷ [])) (enough k m (n / 10) (omega arith) (omega arith)) ∙ sym (step_more m n l))
    (by_ten n)

pub decimal_one : (n : ℕ) → n < 10 → decimal n ≡ digit n ∷ []
unfolding decimal
decimal_one n l = step_one n n l

pub decimal_more : (n : ℕ) → 10 ≤ n → decimal n ≡ decimal (n / 10) ++ (digit (n % 10) ∷ [])
unfolding decimal
decimal_more n l =
    step_more n n l ∙ ap (λ (t : List ℕ). t ++ (digit (n % 10) ∷ [])) (enough n (suc (n / 10)) (n / 10) (omega arith) (omega arith))

-- one more digit, from the front
pub decimal_next : (n d : ℕ) → 0 < n → d < 10 → decimal (n * 10 + d) ≡ decimal n ++ (digit d ∷ [])
decimal_next n d pos l =
    let a : (n * 10 + d) / 10 ≡ n = omega arith in
    let b : (n * 10 + d) % 10 ≡ d = omega arith in
    rw (decimal_more (n * 10 + d) (omega arith), a, b)

module _ (P : ℕ → Type 0) (one : (n : ℕ) → n < 10 → P n) (more : (n : ℕ) → 10 ≤ n → P (n / 10) → P n) where
  below : (k n : ℕ) → n < k → P n
  below zero n l = absurd (not-suc-le-zero l)
  below (suc k) n l = ⊎_elim (λ (s : n < 10). one n s) (λ (b : 10 ≤ n). more n b (below k (n / 10) (omega arith))) (by_ten n)

  -- induction by dropping the last digit
  by_digits : (n : ℕ) → P n
  by_digits n = below (suc n) n (lt-suc_self n)

-- the byte is a digit's
pub record IsDigit (b : ℕ) : Type 0 where
  pub low : 48 ≤ b
  pub high : b ≤ 57

is_digit : (d : ℕ) → d < 10 → IsDigit (digit d)
is_digit d l = omega arith

abbrev pub AllDigits : List ℕ → Type 0
AllDigits [] = Unit {0}
AllDigits (b ∷ l) = IsDigit b × AllDigits l

all_append : (l t : List ℕ) → AllDigits l → AllDigits t → AllDigits (l ++ t)
all_append [] t h k = k
all_append (b ∷ l) t h k = (h.0, all_append l t h.1 k)

pub decimal_digits : (n : ℕ) → AllDigits (decimal n)
decimal_digits =
    by_digits (λ n. AllDigits (decimal n))
    (λ n l. rw (decimal_one n l) (is_digit n l, tt))
    (λ n l h. rw (decimal_more n l) (all_append (decimal (n / 10)) (digit (n % 10) ∷ []) h (is_digit (n % 10) (omega arith), tt)))

-- the number that digits spell, after a number n to their left
unfoldable pub value : ℕ → List ℕ → ℕ
value n [] = n
value n (b ∷ l) = value (n * 10 + (b - 48)) l

value_append : (n : ℕ) (l t : List ℕ) → value n (l ++ t) ≡ value (value n l) t
unfolding value
value_append n [] t = refl
value_append n (b ∷ l) t = value_append (n * 10 + (b - 48)) l t

pub value_decimal : (n : ℕ) → value 0 (decimal n) ≡ n
unfolding value
value_decimal =
    by_digits (λ n. value 0 (decimal n) ≡ n) (λ n l. rw (decimal_one n l) (omega arith))
    (λ n l h. rw (decimal_more n l, value_append, h) (omega arith))

value_grows : (n : ℕ) (l : List ℕ) → n ≤ value n l
unfolding value
value_grows n [] = omega arith
value_grows n (b ∷ l) = omega (arith, value_grows (n * 10 + (b - 48)) l)

-- different numbers are spelled differently
pub decimal_injective : (m n : ℕ) → decimal m ≡ decimal n → m ≡ n
decimal_injective m n e = sym (value_decimal m) ∙ ap (value 0) e ∙ value_decimal n

-- a number whose spelling begins another's is no larger
pub decimal_prefix : (m n : ℕ) (t : List ℕ) → decimal n ≡ decimal m ++ t → m ≤ n
decimal_prefix m n t e =
    let q : n ≡ value m t = sym (value_decimal n) ∙ ap (value 0) e ∙ value_append 0 (decimal m) t ∙ ap (λ (k : ℕ). value k t) (value_decimal m) in
    omega (arith, value_grows m t)

pub decimal_some : (n : ℕ) → 0 < length (decimal n)
decimal_some =
    by_digits (λ n. 0 < length (decimal n)) (λ n l. rw (decimal_one n l) (omega arith))
    (λ n l h. rw (decimal_more n l, length-append) (omega arith))

pub length_more : (n : ℕ) → 10 ≤ n → length (decimal n) ≡ length (decimal (n / 10)) + 1
length_more n l = rw (decimal_more n l, length-append)

-- the first digit is zero for zero alone
pub no_leading_zero : (n : ℕ) → get_or (decimal n) 0 0 ≡ 48 → n ≡ 0
no_leading_zero =
    by_digits (λ n. get_or (decimal n) 0 0 ≡ 48 → n ≡ 0)
    (λ n l e. let h : digit n ≡ 48 = rw (decimal_one n l) at e in omega arith)
    (λ n l h e.
    let f : get_or (decimal (n / 10)) 0 0 ≡ 48 =
    rw (decimal_more n l, get_or-append (decimal (n / 10)) (digit (n % 10) ∷ []) 0 0 (decimal_some (n / 10))) at e in
    omega (arith, h f))

-- a number below a power of ten has no more digits than the power
decimal_length : (k n : ℕ) → n < 10 ^ suc k → length (decimal n) ≤ suc k
decimal_length zero n l = rw (decimal_one n l) (omega arith)
decimal_length (suc k) n l =
    let b : n < 10 ^ suc k * 10 = rw pow-suc at l in
    ⊎_elim (λ (s : n < 10). rw (decimal_one n s) (omega arith))
    (λ (m : 10 ≤ n). rw (decimal_more n m, length-append) (omega (arith, decimal_length k (n / 10) (omega arith))))
    (by_ten n)

pub at_most_ten : (n : ℕ) → n < 2 ^ 32 → length (decimal n) ≤ 10
at_most_ten n l = decimal_length 9 n (omega arith)
