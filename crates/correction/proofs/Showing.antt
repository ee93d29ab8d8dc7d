-- How many of n values are x.
use mathlib.Core.Path.{◌≡◌, refl, sym, ap, ap₂, ◌∙◌}
use mathlib.Core.Bool.{Bool, true, false, not}
use Prim.Native.Nat.{ℕ, ◌+◌, ◌<◌, ◌≤◌}
use native.Mathlib.Decide.{dec_lt}
use native.Mathlib.Omega.{arith}
use lib.Dec.{eqb}
use mir.Val.{bool_byte}
use borrow.Author.Tests.{eqb-true, not-true, not-false}
use Rattle.std.specs.Int.{from_bool}
use Rattle.parity.specs.Count.{bit, lowest_not}
use Rattle.parity.proofs.Sums.{bit_true, count_zero, count_more, count_bound, count_cong, count_none}
use Rattle.parity.proofs.Lowest.{lowest_right}
use Rattle.correction.specs.Error.{shows}
use Rattle.correction.proofs.Listing.{count_grows}

-- a test as a number, as a cast gives it
pub bit_byte : (b : Bool) → bool_byte b ≡ bit b
unfolding bit
bit_byte true = refl
bit_byte false = refl

pub shows_zero : (v : ℕ → ℕ) (x : ℕ) → 0 ≡ shows 0 v x
unfolding shows
shows_zero v x = sym (count_zero (λ t. eqb (v t) x))

pub shows_more : {c h : ℕ} (t : ℕ) (v : ℕ → ℕ) (x : ℕ) → c ≡ shows t v x → h ≡ bit (eqb (v t) x) → c + h ≡ shows (t + 1) v x
unfolding shows
shows_more t v x e b = ap₂ (λ (a b : ℕ). a + b) e b ∙ sym (count_more t (λ t. eqb (v t) x))

-- the number of a test
pub number_of : (b : Bool) → from_bool b ≡ bit b
unfolding bit
number_of true = refl
number_of false = refl

pub shows_le : (t : ℕ) (v : ℕ → ℕ) (x : ℕ) → shows t v x ≤ t
unfolding shows
shows_le t v x = count_bound t (λ t. eqb (v t) x)

pub shows_grows : (t n : ℕ) (v : ℕ → ℕ) (x : ℕ) → t ≤ n → shows t v x ≤ shows n v x
unfolding shows
shows_grows t n v x l = count_grows (λ t. eqb (v t) x) l

pub shows_cong : (n : ℕ) (v v' : ℕ → ℕ) (x : ℕ) → ((t : ℕ) → t < n → v t ≡ v' t) → shows n v x ≡ shows n v' x
unfolding shows
shows_cong n v v' x h = count_cong n _ _ (λ t l. ap (λ (y : ℕ). eqb y x) (h t l))

-- among the first n values is x, or none of them is x
pub shows_some : (n : ℕ) (v : ℕ → ℕ) (x t : ℕ) → t < n → eqb (v t) x ≡ true → shows n v x ≡ 0 → ⊥
unfolding shows
shows_some n v x t l e none = omega (arith, none, count_grows (λ t. eqb (v t) x) {m = t + 1} {m' = n} (omega (arith, l)), count_more t (λ t. eqb (v t) x), bit_true e)

pub shows_none : (n : ℕ) (v : ℕ → ℕ) (x : ℕ) → ((t : ℕ) → t < n → eqb (v t) x ≡ false) → shows n v x ≡ 0
unfolding shows
shows_none n v x h = count_none n (λ t. eqb (v t) x) h

-- the first of the values that is x
pub first_shown : (n : ℕ) (v : ℕ → ℕ) (x : ℕ) → 0 < shows n v x → (t : ℕ) × (t < n) × (v t ≡ x) × (shows t v x ≡ 0)
unfolding shows
first_shown n v x pos =
    let p : ℕ → Bool = λ t. not (eqb (v t) x) in
    let t : ℕ = lowest_not n p in
    let low = lowest_right n p in
    let before : (i : ℕ) → i < t → eqb (v i) x ≡ false = λ i l. not-true (eqb (v i) x) (low.below i l) in
    elim (dec_lt t n) [
      | yes l ↦ (t, l, eqb-true (v t) x (not-false (eqb (v t) x) (low.fails l)), count_none t (λ t. eqb (v t) x) before)
      | no l ↦ absurd (omega (arith, count_none n (λ t. eqb (v t) x) (λ i li. before i (omega arith))))
    ]
