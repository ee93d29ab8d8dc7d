-- Silent and nonzero checks, read off the table.
use mathlib.Core.Path.{◌≡◌, sym, ap, ◌∙◌}
use mathlib.Core.Bool.{true, false, not}
use mathlib.Core.List.{List}
use Prim.Native.Nat.{ℕ}
use lib.Dec.{eqb}
use borrow.Author.Tests.{eq-eqb, ne_eqb}
use Rattle.gtb.specs.Square.{at}

-- what an entry shows, read at an equal place
pub loud : (xs : List ℕ) {x y : ℕ} → x ≡ y → (at xs x ≡ 0 → ⊥) → not (eqb (at xs y) 0) ≡ true
loud xs {x} {y} e ne = ap not (ne_eqb (at xs y) 0 (λ z. ne (ap (at xs) e ∙ z)))

pub silent : (xs : List ℕ) {x y : ℕ} → x ≡ y → at xs x ≡ 0 → not (eqb (at xs y) 0) ≡ false
silent xs {x} {y} e z = ap not (eq-eqb (at xs y) 0 (sym (ap (at xs) e) ∙ z))
