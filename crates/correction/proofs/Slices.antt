-- What a chain over the first n entries of a list counts and finds.
use mathlib.Core.Path.{◌≡◌, sym, ap, subst}
use mathlib.Core.Bool.{Bool, true, false}
use mathlib.Core.List.{List}
use mathlib.Core.Logic.{⊎_elim}
use Prim.Native.Nat.{ℕ, zero, suc, ◌+◌, ◌<◌, ◌≤◌}
use native.Mathlib.Omega.{arith}
use native.Mathlib.Numerals.{add-one}
use lib.ListN.{length}
use Rattle.std.specs.Prelude.{Some, None, take, count_by, position}
use Rattle.std.specs.List.{position_or_len}
use Rattle.std.proofs.lemmas.List.Sums.{count_by_more_yes, count_by_more_no, fails_before_first}
use Rattle.std.proofs.lemmas.List.Quantifiers.{position-Some}
use Rattle.std.proofs.lemmas.List.{get_or-take, length-take-le}
use Rattle.std.proofs.lemmas.Grind.{common_steps}
use Rattle.parity.specs.Count.{bit, count}
use Rattle.parity.proofs.Sums.{count_zero, count_more}
use Rattle.parity.proofs.Tests.{either}
use Rattle.gtb.specs.Square.{at}

-- how many pass
module _ (p : ℕ → Bool) (xs : List ℕ) where
  counted_more : (n : ℕ) → n < length xs → count_by p (take n xs) ≡ count n (λ i. p (at xs i)) → count_by p (take (n + 1) xs) ≡ count (n + 1) (λ i. p (at xs i))
  unfolding bit
  counted_more n l h =
      ⊎_elim
      (λ (yes : p (at xs n) ≡ true). omega (arith, h, count_by_more_yes p xs n 0 l yes, ap bit yes, count_more n (λ i. p (at xs i))))
      (λ (no : p (at xs n) ≡ false). omega (arith, h, count_by_more_no p xs n 0 l no, ap bit no, count_more n (λ i. p (at xs i))))
      (either (p (at xs n)))

  pub count_first : (n : ℕ) → n ≤ length xs → count_by p (take n xs) ≡ count n (λ i. p (at xs i))
  count_first zero l = sym (count_zero (λ i. p (at xs i)))
  count_first (suc n) l = subst (λ (k : ℕ). count_by p (take k xs) ≡ count k (λ i. p (at xs i))) (add-one n) (counted_more n (omega (arith, l)) (count_first n (omega (arith, l))))

-- the first that passes, or none
module _ (p : ℕ → Bool) (xs : List ℕ) (n : ℕ) (l : n ≤ length xs) where
  pub position_some : (i : ℕ) → position p (take n xs) ≡ Some i → (i < n) × (p (at xs i) ≡ true)
  position_some i e =
      let found = position-Some p (take n xs) i 0 e in
      let inside : i < n = omega (arith, found.0, length-take-le n xs l) in
      (inside, rw (get_or-take n xs i 0 inside) at found.1)

  pub position_none : position p (take n xs) ≡ None → (i : ℕ) → i < n → p (at xs i) ≡ false
  position_none e i li =
      let size : length (take n xs) ≡ n = length-take-le n xs l in
      let all : length (take n xs) ≤ position_or_len p (take n xs) = grind (arith, common_steps) in
      rw (get_or-take n xs i 0 li) at (fails_before_first p (take n xs) i 0 (omega (arith, all, size, li)))
