-- Tests over the entries of a list: as std makes them, and over a range as the definitions do.
use mathlib.Core.Path.{◌≡◌, sym, ap, subst, ◌∙◌}
use mathlib.Core.Bool.{Bool, ◌&&◌, ◌||◌, and-true, and_assoc}
use mathlib.Core.List.{List, [], ◌∷◌}
use Prim.Native.Nat.{ℕ, zero, suc, ◌+◌, ◌^◌, ◌<◌, ◌≤◌}
use native.Mathlib.Omega.{arith}
use native.Mathlib.Numerals.{add-one}
use lib.Bits.{bit_or}
use lib.Dec.{ltb}
use lib.ListN.{length, get_or, take}
use lib.Seq.{take_all}
use native.Mathlib.Nat.{le_refl}
use Rattle.std.specs.Prelude.{fold}
use Rattle.std.specs.List.{list_any, list_all, range_with_len}
use Rattle.std.proofs.lemmas.Nat.{or_lt, le_or_l, le_or_r}
use borrow.Author.Tests.{ltb-true, lt-ltb}
use Rattle.std.proofs.lemmas.List.Folds.{list_any_more, list_all_more}
use Rattle.std.proofs.lemmas.List.FromFn.{length-range_with_len, get_or-range_with_len}
use Rattle.parity.specs.Count.{any, all}
use Rattle.parity.proofs.Tests.{same, and_left, and_right, and_both, any_zero, any_more, all_zero, all_more, all_cong}

module _ (p : ℕ → Bool) (xs : List ℕ) where
  -- ---- of the first n entries
  any_step : (n : ℕ) → n < length xs → list_any p (take n xs) ≡ any n (λ i. p (get_or xs i 0)) → list_any p (take (n + 1) xs) ≡ any (n + 1) (λ i. p (get_or xs i 0))
  any_step n l h = list_any_more p xs n 0 l ∙ ap (λ (b : Bool). b || p (get_or xs n 0)) h ∙ sym (any_more n (λ i. p (get_or xs i 0)))

  pub any_first : (n : ℕ) → n ≤ length xs → list_any p (take n xs) ≡ any n (λ i. p (get_or xs i 0))
  any_first zero l = sym (any_zero (λ i. p (get_or xs i 0)))
  any_first (suc n) l = subst (λ (k : ℕ). list_any p (take k xs) ≡ any k (λ i. p (get_or xs i 0))) (add-one n) (any_step n (omega (arith, l)) (any_first n (omega (arith, l))))

  all_step : (n : ℕ) → n < length xs → list_all p (take n xs) ≡ all n (λ i. p (get_or xs i 0)) → list_all p (take (n + 1) xs) ≡ all (n + 1) (λ i. p (get_or xs i 0))
  all_step n l h = list_all_more p xs n 0 l ∙ ap (λ (b : Bool). b && p (get_or xs n 0)) h ∙ sym (all_more n (λ i. p (get_or xs i 0)))

  pub all_first : (n : ℕ) → n ≤ length xs → list_all p (take n xs) ≡ all n (λ i. p (get_or xs i 0))
  all_first zero l = sym (all_zero (λ i. p (get_or xs i 0)))
  all_first (suc n) l = subst (λ (k : ℕ). list_all p (take k xs) ≡ all k (λ i. p (get_or xs i 0))) (add-one n) (all_step n (omega (arith, l)) (all_first n (omega (arith, l))))

-- ---- of all of them
pub any_entry : (p : ℕ → Bool) (xs : List ℕ) → list_any p xs ≡ any (length xs) (λ i. p (get_or xs i 0))
any_entry p xs = rw (take_all (length xs) xs (le_refl _)) at (any_first p xs (length xs) (le_refl _))

pub all_entries : (p : ℕ → Bool) (xs : List ℕ) → list_all p xs ≡ all (length xs) (λ i. p (get_or xs i 0))
all_entries p xs = rw (take_all (length xs) xs (le_refl _)) at (all_first p xs (length xs) (le_refl _))

-- the bits of them all are below 2^k
or_below : (k a b : ℕ) → ltb (bit_or a b) (2 ^ k) ≡ (ltb a (2 ^ k) && ltb b (2 ^ k))
or_below k a b =
    same
    (λ t. let l = ltb-true (bit_or a b) (2 ^ k) t in and_both (lt-ltb a (2 ^ k) (omega (arith, l, le_or_l a b))) (lt-ltb b (2 ^ k) (omega (arith, l, le_or_r a b))))
    (λ t. lt-ltb (bit_or a b) (2 ^ k) (or_lt k a b (ltb-true a (2 ^ k) (and_left _ _ t)) (ltb-true b (2 ^ k) (and_right (ltb a (2 ^ k)) _ t))))

pub bits_below : (k a : ℕ) (xs : List ℕ) → ltb (fold (λ bits x. bit_or bits x) a xs) (2 ^ k) ≡ (ltb a (2 ^ k) && list_all (λ x. ltb x (2 ^ k)) xs)
bits_below k a [] = sym (and-true (ltb a (2 ^ k)))
bits_below k a (x ∷ xs) =
    bits_below k (bit_or a x) xs
    ∙ ap (λ (b : Bool). b && list_all (λ x. ltb x (2 ^ k)) xs) (or_below k a x)
    ∙ and_assoc (ltb a (2 ^ k)) (ltb x (2 ^ k)) _

-- of the numbers below n
pub all_below : (p : ℕ → Bool) (n : ℕ) → list_all p (range_with_len 0 n) ≡ all n p
all_below p n =
    all_entries p (range_with_len 0 n)
    ∙ ap (λ (k : ℕ). all k (λ i. p (get_or (range_with_len 0 n) i 0))) (length-range_with_len 0 n)
    ∙ all_cong n _ p (λ i l. ap p (get_or-range_with_len 0 n i 0 l ∙ omega arith))
