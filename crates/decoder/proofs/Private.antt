-- A position's private checks: those that no other located position is on.
use mathlib.Core.Path.{◌≡◌, sym, ap, ap₂, ◌∙◌}
use mathlib.Core.Bool.{Bool, false, not, ◌&&◌}
use Prim.Native.Nat.{ℕ, ◌+◌, ◌*◌}
use native.Mathlib.Omega.{arith}
use lib.Dec.{eqb}
use borrow.Author.Tests.{eq-eqb, ne_eqb}
use Rattle.parity.proofs.Tests.{and_no_left, same_eqb}
use Rattle.gtb.specs.declared.Shape.{Shape}
use Rattle.gtb.specs.Square.{line_of}
use Rattle.decoder.specs.Steps.{shares}
use Rattle.correction.specs.Error.{check_of}

-- ---- two positions on one check
pub shares_self : (s : Shape) (t j i : ℕ) → i ≡ j → shares s t j i ≡ false
unfolding shares
shares_self s t j i e = and_no_left (eqb (line_of s t i) (line_of s t j)) (ap not (eq-eqb i j e))

-- two check numbers of one direction are equal if the lines are
pub shares_check_lem : (s : Shape) (t j i : ℕ) {x y : ℕ} → (i ≡ j → ⊥) → x ≡ check_of s i t → y ≡ check_of s j t → eqb x y ≡ shares s t j i
unfolding shares
shares_check_lem s t j i {x} {y} ne ex ey =
    ap₂ eqb ex ey
    ∙ same_eqb (check_of s i t) (check_of s j t) (line_of s t i) (line_of s t j) (λ e. omega arith) (λ e. ap (λ (l : ℕ). t * s.q + l) e)
    ∙ sym (ap (λ (b : Bool). not b && eqb (line_of s t i) (line_of s t j)) (ne_eqb i j ne))
