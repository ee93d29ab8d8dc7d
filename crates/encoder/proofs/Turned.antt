-- A row written in two runs: the columns before the wrap, and those after it.
use mathlib.Core.Path.{◌≡◌, sym, ap, ◌∙◌, subst}
use mathlib.Core.List.{List}
use Prim.Native.Nat.{ℕ, ◌+◌, ◌-◌, ◌%◌, ◌≤◌, ◌<◌}
use native.Mathlib.Nat.{mod-eq_of_lt, add-mod_right}
use native.Mathlib.Decide.{dec_lt}
use native.Mathlib.Omega.{arith}
use Rattle.gtb.specs.Square.{at}
use Rattle.parity.specs.Lists.{Written}

-- a run, and the one after it
written_both : (a p r : ℕ) (f g h : ℕ → ℕ) (w w₁ w₂ : List ℕ) → Written a p f w w₁ → Written (a + p) r g w₁ w₂
    → ((i : ℕ) → i < p → f i ≡ h i) → ((i : ℕ) → i < r → g i ≡ h (p + i)) → Written a (p + r) h w w₂
written_both a p r f g h w w₁ w₂ first second ef eg = record {
  size = second.size ∙ first.size;
  inside = λ i l. elim (dec_lt i p) [ yes s ↦ low i s | no s ↦ high i (omega arith) l ];
  below = λ j l. second.below j (omega arith) ∙ first.below j l;
  above = λ j l. second.above j (omega arith) ∙ first.above j (omega arith);
}
  where
    low : (i : ℕ) → i < p → at w₂ (a + i) ≡ h i
    low i s = second.below (a + i) (omega arith) ∙ first.inside i s ∙ ef i s

    high : (i : ℕ) → p ≤ i → i < p + r → at w₂ (a + i) ≡ h i
    high i s l =
        let k = i - p in
        let e : a + p + k ≡ a + i = omega arith in
        let u : p + k ≡ i = omega arith in
        ap (at w₂) (sym e) ∙ second.inside k (omega arith) ∙ eg k (omega arith) ∙ ap h u

-- column c takes what stands at column (c + x) mod q
pub written_turned : (a q x : ℕ) (f₁ f₂ : ℕ → ℕ) (f : ℕ → ℕ → ℕ) (w w₁ w₂ : List ℕ) → x ≤ q
    → Written a (q - x) f₁ w w₁ → Written (a + (q - x)) x f₂ w₁ w₂
    → ((i : ℕ) → i < q - x → f₁ i ≡ f i (x + i)) → ((i : ℕ) → i < x → f₂ i ≡ f (q - x + i) i)
    → Written a q (λ c. f c ((c + x) % q)) w w₂
written_turned a q x f₁ f₂ f w w₁ w₂ le first second e₁ e₂ =
    subst (λ (n : ℕ). Written a n (λ c. f c ((c + x) % q)) w w₂) whole
    (written_both a (q - x) x f₁ f₂ (λ c. f c ((c + x) % q)) w w₁ w₂ first second
    (λ i l. e₁ i l ∙ ap (f i) (ahead i (omega arith))) (λ i l. e₂ i l ∙ ap (f (q - x + i)) (around i l)))
  where
    whole : q - x + x ≡ q
    whole = omega arith

    ahead : (i : ℕ) → i + x < q → x + i ≡ (i + x) % q
    ahead i l = omega (arith, mod-eq_of_lt l)

    around : (i : ℕ) → i < x → i ≡ (q - x + i + x) % q
    around i l =
        let s : q - x + i + x ≡ i + q = omega arith in
        let lt : i < q = omega arith in
        sym (ap (λ (k : ℕ). k % q) s ∙ add-mod_right i q ∙ mod-eq_of_lt lt)
