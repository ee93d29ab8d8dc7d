-- A test over the first entries of a list: as std makes it, and over their places as the definitions do.
use mathlib.Core.Path.{◌≡◌, sym, ap, subst, ◌∙◌}
use mathlib.Core.Bool.{Bool, ◌||◌}
use mathlib.Core.List.{List}
use Prim.Native.Nat.{ℕ, zero, suc, ◌+◌, ◌<◌, ◌≤◌}
use native.Mathlib.Numerals.{add-one}
use native.Mathlib.Omega.{arith}
use lib.ListN.{length, take}
use Rattle.std.specs.List.{list_any}
use Rattle.std.proofs.lemmas.List.Folds.{list_any_more}
use Rattle.parity.specs.Count.{any}
use Rattle.parity.proofs.Tests.{any_zero, any_more}
use Rattle.gtb.specs.Square.{at}

module _ (p : ℕ → Bool) (xs : List ℕ) where
  any_step : (n : ℕ) → n < length xs → list_any p (take n xs) ≡ any n (λ i. p (at xs i)) → list_any p (take (n + 1) xs) ≡ any (n + 1) (λ i. p (at xs i))
  any_step n l h = list_any_more p xs n 0 l ∙ ap (λ (b : Bool). b || p (at xs n)) h ∙ sym (any_more n (λ i. p (at xs i)))

  pub any_first : (n : ℕ) → n ≤ length xs → list_any p (take n xs) ≡ any n (λ i. p (at xs i))
  any_first zero l = sym (any_zero (λ i. p (at xs i)))
  any_first (suc n) l = subst (λ (k : ℕ). list_any p (take k xs) ≡ any k (λ i. p (at xs i))) (add-one n) (any_step n (omega (arith, l)) (any_first n (omega (arith, l))))
