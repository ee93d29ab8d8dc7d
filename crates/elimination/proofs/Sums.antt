-- Laws of a row's sum.
use mathlib.Core.Path.{◌≡◌, refl, sym, ap, ◌∙◌}
use mathlib.Core.Bool.{Bool, true, false, xor, ◌&&◌}
use mathlib.Core.Logic.{◌⊎◌, ⊎_elim}
use Prim.Native.Nat.{ℕ, ◌^◌, ◌<◌}
use lib.Dec.{eqb}
use borrow.Author.Tests.{eq-eqb, ne_eqb}
use Rattle.parity.specs.Xor.{◌⊕◌, when}
use Rattle.parity.proofs.Xors.{self, zero_l, zero_r, when_xor, when_zero, when_lt}
use Rattle.parity.proofs.XorSums.{cong, none, linear, only, bound}
use Rattle.elimination.specs.System.{row_sum}

-- only columns below p count
pub row_cong : (p : ℕ) (a b : ℕ → Bool) (x y : ℕ → ℕ) → ((k : ℕ) → k < p → when (a k) (x k) ≡ when (b k) (y k)) → row_sum p a x ≡ row_sum p b y
unfolding row_sum
row_cong p a b x y h = cong p (λ k. when (a k) (x k)) (λ k. when (b k) (y k)) h

-- two unknowns XORed
pub row_add : (p : ℕ) (a : ℕ → Bool) (x y : ℕ → ℕ) → row_sum p a (λ k. x k ⊕ y k) ≡ row_sum p a x ⊕ row_sum p a y
unfolding row_sum
row_add p a x y =
    cong p (λ k. when (a k) (x k ⊕ y k)) (λ k. when (a k) (x k) ⊕ when (a k) (y k)) (λ k l. when_xor (a k) (x k) (y k))
    ∙ linear p (λ k. when (a k) (x k)) (λ k. when (a k) (y k))

-- a column or an unknown is missing at each place
pub row_none : (p : ℕ) (a : ℕ → Bool) (x : ℕ → ℕ) → ((k : ℕ) → k < p → (a k ≡ false) ⊎ (x k ≡ 0)) → row_sum p a x ≡ 0
unfolding row_sum when
row_none p a x h =
    none p (λ k. when (a k) (x k))
    (λ k l.
    ⊎_elim (λ (f : a k ≡ false). ap (λ (b : Bool). when b (x k)) f)
    (λ (z : x k ≡ 0). ap (λ (n : ℕ). when (a k) n) z ∙ when_zero (a k))
    (h k l))

-- one unknown alone
pub row_one : (p : ℕ) (a : ℕ → Bool) (k c : ℕ) → k < p → row_sum p a (λ j. when (eqb j k) c) ≡ when (a k) c
unfolding row_sum when
row_one p a k c l =
    only p k (λ j. when (a j) (when (eqb j k) c)) l
    (λ j lj ne. ap (λ (b : Bool). when (a j) (when b c)) (ne_eqb j k ne) ∙ when_zero (a j))
    ∙ ap (λ (b : Bool). when (a k) (when b c)) (eq-eqb k k refl)

-- one column alone
pub row_unit : (p i : ℕ) (a : ℕ → Bool) (x : ℕ → ℕ) → i < p → ((k : ℕ) → k < p → a k ≡ eqb i k) → row_sum p a x ≡ x i
unfolding row_sum when
row_unit p i a x l h =
    only p i (λ k. when (a k) (x k)) l (λ k lk ne. ap (λ (b : Bool). when b (x k)) (h k lk ∙ ne_eqb i k (λ e. ne (sym e))))
    ∙ ap (λ (b : Bool). when b (x i)) (h i l ∙ eq-eqb i i refl)

-- two rows XORed
pub when_bits : (a b : Bool) (n : ℕ) → when (xor a b) n ≡ when a n ⊕ when b n
unfolding when xor
when_bits true true n = sym (self n)
when_bits true false n = sym (zero_r n)
when_bits false true n = sym (zero_l n)
when_bits false false n = sym (self 0)

row_both : (p : ℕ) (e : Bool) (b : ℕ → Bool) (x : ℕ → ℕ) → row_sum p (λ k. e && b k) x ≡ when e (row_sum p b x)
unfolding row_sum when
row_both p true b x = refl
row_both p false b x = none p (λ k. 0) (λ k l. refl)

pub row_xor : (p : ℕ) (e : Bool) (a b c : ℕ → Bool) (x : ℕ → ℕ) → ((k : ℕ) → k < p → c k ≡ xor (a k) (e && b k))
    → row_sum p c x ≡ row_sum p a x ⊕ when e (row_sum p b x)
unfolding row_sum
row_xor p e a b c x h =
    cong p (λ k. when (c k) (x k)) (λ k. when (a k) (x k) ⊕ when (e && b k) (x k))
    (λ k l. ap (λ (t : Bool). when t (x k)) (h k l) ∙ when_bits (a k) (e && b k) (x k))
    ∙ linear p (λ k. when (a k) (x k)) (λ k. when (e && b k) (x k))
    ∙ ap (λ (n : ℕ). row_sum p a x ⊕ n) (row_both p e b x)

-- as narrow as the unknowns
pub row_bound : (b p : ℕ) (a : ℕ → Bool) (x : ℕ → ℕ) → ((k : ℕ) → x k < 2 ^ b) → row_sum p a x < 2 ^ b
unfolding row_sum
row_bound b p a x h = bound b p (λ k. when (a k) (x k)) (λ k l. when_lt b (a k) (x k) (h k))
