-- The equality test on texts.
use mathlib.Core.Path.{◌≡◌, refl, ap, ◌∙◌, sym}
use mathlib.Core.Logic.{⊎_elim}
use mathlib.Core.Bool.{Bool, true, false}
use mathlib.Core.List.{List, [], ◌∷◌}
use Prim.Native.Nat.{ℕ}
use borrow.Author.Tests.{eqb-true, eq-eqb}
use lib.Dec.{eqb}
use Rattle.parity.proofs.Tests.{either, clash, and_left, and_right, and_both}
use Rattle.lines.specs.Text.{same_bytes}

-- the test holds exactly for equal texts
pub same_equal : (xs ys : List ℕ) → same_bytes xs ys ≡ true → xs ≡ ys
unfolding same_bytes
same_equal [] [] h = refl
same_equal [] (y ∷ ys) h = absurd (clash h refl)
same_equal (x ∷ xs) [] h = absurd (clash h refl)
same_equal (x ∷ xs) (y ∷ ys) h =
    let e : x ≡ y = eqb-true x y (and_left (eqb x y) (same_bytes xs ys) h) in
    let es : xs ≡ ys = same_equal xs ys (and_right (eqb x y) (same_bytes xs ys) h) in
    (λ i. e i ∷ es i)

same_refl : (xs : List ℕ) → same_bytes xs xs ≡ true
unfolding same_bytes
same_refl [] = refl
same_refl (x ∷ xs) = and_both (eq-eqb x x refl) (same_refl xs)

pub equal_same : {xs ys : List ℕ} → xs ≡ ys → same_bytes xs ys ≡ true
equal_same {xs} {ys} e = ap (same_bytes xs) (sym e) ∙ same_refl xs

pub differ_same : (xs ys : List ℕ) → (xs ≡ ys → ⊥) → same_bytes xs ys ≡ false
differ_same xs ys h = ⊎_elim (λ t. absurd (h (same_equal xs ys t))) (λ f. f) (either (same_bytes xs ys))

-- a test that holds exactly for equal texts is this one
pub tested_same : (b : Bool) (xs ys : List ℕ) → (b ≡ true → xs ≡ ys) × (xs ≡ ys → b ≡ true) → b ≡ same_bytes xs ys
tested_same b xs ys h =
    ⊎_elim (λ (t : b ≡ true). t ∙ sym (equal_same (h.0 t))) (λ (f : b ≡ false). f ∙ sym (differ_same xs ys (λ e. clash (h.1 e) f))) (either b)
