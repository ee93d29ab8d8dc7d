-- A polynomial of degree k whose coefficients are forms, coefficient n of degree n, has at most k roots that are linear forms: one after another is divided off.
use mathlib.Core.Path.{◌≡◌, sym, ◌∙◌}
use mathlib.Core.Bool.{Bool, true, not, ◌&&◌}
use mathlib.Core.Logic.{inr}
use Prim.Native.Nat.{ℕ, zero, suc, ◌+◌, ◌*◌, ◌%◌, ◌<◌, ◌∣◌}
use native.Mathlib.Nat.{mod-eq_of_lt}
use native.Mathlib.Omega.{arith}
use lib.Dec.{eqb}
use borrow.Author.Tests.{eqb-true, eqb-false, not-true}
use Rattle.parity.specs.Count.{count}
use Rattle.parity.specs.Cyclic.{Order}
use Rattle.parity.proofs.Tests.{and_left, and_right}
use Rattle.parity.proofs.Sums.{count_not}
use Rattle.parity.proofs.Pigeon.{some_passes, count_others, count_one}
use Rattle.parity.proofs.Residues.{level}
use Rattle.parity.proofs.Polynomials.{over, over_apart}
use Rattle.parity.proofs.Forms.{Form, form_add, form_linear, vanishes}

-- a root divided off: coefficient n stays a form of degree n
over_form : (u r : ℕ) (b : ℕ → ℕ → ℕ) (c : ℕ → ℕ) → ((n : ℕ) → Form n (λ x. b x n) (c n))
    → (n : ℕ) → Form n (λ x. over (u + x * r) (b x) n) (over r c n)
unfolding over
over_form u r b c h zero = h 0
over_form u r b c h (suc n) = form_add (suc n) _ _ _ _ (form_linear n u r _ _ (over_form u r b c h n)) (h (suc n))

-- linear forms u i + x × r i, of which no two are equal modulo q at two slopes x
module _ (q : ℕ) (o : Order q) (N : ℕ) (u r : ℕ → ℕ)
    (once : (x y i j : ℕ) → x < q → y < q → (x ≡ y → ⊥) → i < N → j < N
    → (u i + x * r i) % q ≡ (u j + x * r j) % q → (u i + y * r i) % q ≡ (u j + y * r j) % q → i ≡ j) where
  -- the quotient by one root vanishes at any other: at all slopes but the one where the two may be equal, so at that one too
  divided : (k : ℕ) → suc k < q → (b : ℕ → ℕ → ℕ) (c : ℕ → ℕ) → ((n : ℕ) → Form n (λ x. b x n) (c n)) → (i j : ℕ) → i < N → j < N → (i ≡ j → ⊥)
      → ((x : ℕ) → q ∣ over (u i + x * r i) (b x) (suc k)) → ((x : ℕ) → q ∣ over (u j + x * r j) (b x) (suc k))
      → (x : ℕ) → q ∣ over (u j + x * r j) (over (u i + x * r i) (b x)) k
  divided k lk b c h i j li lj ne zi zj =
      vanishes q o k _ _ (over_form (u j) (r j) _ _ (over_form (u i) (r i) b c h) k) q (λ x. x) (λ x. not (meet x))
      (record { apart = λ t v lt lv tv e. tv (sym (mod-eq_of_lt lt) ∙ e ∙ mod-eq_of_lt lv) })
      (λ x lx p. level q o (u i + x * r i) (u j + x * r j) _ _ _ (eqb-false _ _ (not-true _ p)) (over_apart _ _ (b x) k) (zj x) (zi x))
      (omega (arith, many)) (inr (omega (arith, many)))
    where
      meet : ℕ → Bool
      meet x = eqb ((u i + x * r i) % q) ((u j + x * r j) % q)

      many : suc k < suc (count q (λ x. not (meet x)))
      many =
          omega (
            arith,
            count_not q meet,
            count_one q meet (λ x y lx ly xy ex ey. ne (once x y i j lx ly xy li lj (eqb-true _ _ ex) (eqb-true _ _ ey))),
          )

  -- with more than k roots the leading coefficient is 0
  pub no_roots : (k : ℕ) → k < q → (b : ℕ → ℕ → ℕ) (c : ℕ → ℕ) → ((n : ℕ) → Form n (λ x. b x n) (c n)) → (B : ℕ → Bool) → k < count N B
      → ((i : ℕ) → i < N → B i ≡ true → (x : ℕ) → q ∣ over (u i + x * r i) (b x) k) → q ∣ b 0 0
  unfolding over
  no_roots zero lk b c h B many zeros = let (i, l, e) = some_passes N B many in zeros i l e 0
  no_roots (suc k) lk b c h B many zeros =
      let (i, l, e) = some_passes N B (omega arith) in
      no_roots k (omega arith) (λ x. over (u i + x * r i) (b x)) (over (r i) c) (over_form (u i) (r i) b c h) (λ j. B j && not (eqb j i))
      (omega (arith, count_others N B i l e))
      (λ j lj m.
      divided k lk b c h i j l lj (λ ij. eqb-false j i (not-true _ (and_right (B j) _ m)) (sym ij)) (zeros i l e) (zeros j lj (and_left (B j) _ m)))
