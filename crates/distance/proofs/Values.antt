-- The polynomial g whose square has the same highest coefficients as the product of X - w j over the members j, and its value at each member.
use mathlib.Core.Path.{◌≡◌, refl, sym, ap, subst}
use mathlib.Core.Bool.{Bool, true, ◌&&◌}
use mathlib.Core.List.{List, ◌∷◌}
use Prim.Native.Nat.{ℕ, zero, suc, ◌+◌, ◌*◌, ◌%◌, ◌<◌, ◌∣◌}
use native.Mathlib.Nat.{dvd-mul_right_of_dvd}
use native.Mathlib.Omega.{arith}
use lib.Dec.{eqb}
use Rattle.parity.specs.Count.{bit, sum, count}
use Rattle.parity.specs.Cyclic.{Order}
use Rattle.parity.proofs.Sums.{sum_cong, sum_mul, count_sum}
use Rattle.parity.proofs.Residues.{factor, add_mods, mul_mods, sum_mods}
use Rattle.parity.proofs.Polynomials.{over, sum_of, Newton, newton_step, past_roots}
use Rattle.distance.proofs.Halves.{halves}
use Rattle.parity.proofs.Forms.{Form, form_number, form_add, form_scale, form_linear, form_sum}

module _ (N : ℕ) (A : ℕ → Bool) (c : ℕ → ℕ) where
  -- coefficient n + 1 of g by Newton's rule, where f j is the value at member j of the coefficients up to n; c n is -1 / (2 n + 2)
  abbrev next : (ℕ → ℕ) → (ℕ → ℕ) → ℕ → ℕ
  next w f n = c n * sum N (λ j. bit (A j) * (w j * f j))

  -- the value at w i of the coefficients up to n, by Horner's rule
  unfoldable pub value : (ℕ → ℕ) → ℕ → ℕ → ℕ
  value w zero i = 1
  value w (suc n) i = w i * value w n i + next w (value w n) n

  -- coefficient n of g
  unfoldable pub root : (ℕ → ℕ) → ℕ → ℕ
  root w zero = 1
  root w (suc n) = next w (value w n) n

  pub value_over : (w : ℕ → ℕ) (n i : ℕ) → value w n i ≡ over (w i) (root w) n
  unfolding value root over
  value_over w zero i = refl
  value_over w (suc n) i = ap (λ (k : ℕ). w i * k + root w (suc n)) (value_over w n i)

  -- only the values modulo q count
  pub value_mods : (q : ℕ) (v w : ℕ → ℕ) → ((i : ℕ) → v i % q ≡ w i % q) → (n i : ℕ) → value v n i % q ≡ value w n i % q
  unfolding value
  value_mods q v w h zero i = refl
  value_mods q v w h (suc n) i =
      add_mods q _ _ _ _ (mul_mods q _ _ _ _ (h i) (value_mods q v w h n i))
      (mul_mods q (c n) _ (c n) _ refl
      (sum_mods q N _ _ (λ j. mul_mods q (bit (A j)) _ (bit (A j)) _ refl (mul_mods q _ _ _ _ (h j) (value_mods q v w h n j)))))

  -- in the direction of slope x the place in column u i and row r i has the value u i + x × r i, in the rows r i: coefficient and value are forms of degree n
  module _ (u r : ℕ → ℕ) where
    abbrev along : ℕ → ℕ → ℕ
    along x i = u i + x * r i

    next_form : (n : ℕ) → ((i : ℕ) → Form n (λ x. value (along x) n i) (value r n i))
        → Form (suc n) (λ x. next (along x) (value (along x) n) n) (next r (value r n) n)
    next_form n h =
        form_scale (suc n) (c n) _ _
        (form_sum (suc n) N _ _ (λ j. form_scale (suc n) (bit (A j)) _ _ (form_linear n (u j) (r j) _ _ (h j))))

    pub value_form : (n i : ℕ) → Form n (λ x. value (along x) n i) (value r n i)
    unfolding value
    value_form zero i = form_number 1
    value_form (suc n) i = form_add (suc n) _ _ _ _ (form_linear n (u i) (r i) _ _ (value_form n i)) (next_form n (value_form n))

    pub root_form : (n : ℕ) → Form n (λ x. root (along x) n) (root r n)
    unfolding root
    root_form zero = form_number 1
    root_form (suc n) = next_form n (value_form n)

  -- where each value occurs an even number of times, g is the product over half of them, of degree k, and it vanishes at each member
  pub even_zero : (q k : ℕ) → Order q → k < q → ((n : ℕ) → n < k → q ∣ 2 * suc n * c n + 1) → (q ∣ 2 → ⊥) → count N A ≡ 2 * k
      → (w : ℕ → ℕ) → ((i : ℕ) → i < N → w i < q) → ((L : ℕ) → L < q → count N (λ i. eqb (w i) L && A i) % 2 ≡ 0)
      → (i : ℕ) → i < N → A i ≡ true → q ∣ value w k i
  unfolding root sum_of
  even_zero q k o kq inv odd size w below even i l h =
      let (ys, e) = halves N q A w below even i l h in
      subst (λ (x : ℕ). q ∣ x) (sym (value_over w k i))
      (past_roots q k o kq ys (over (w i) (root w)) (newton_step q k (w i) ys (root w) (newton ys e)) k (omega (arith, e (λ y. 1), sum_mul N (λ j. bit (A j)) 1, count_sum N A)) (omega arith))
    where
      newton : (ys : List ℕ) → ((f : ℕ → ℕ) → sum N (λ j. bit (A j) * f (w j)) ≡ 2 * (f (w i) + sum_of ys f)) → Newton q k (w i ∷ ys) (root w)
      newton ys e = record {
        each = λ n ln.
            let s = sum N (λ j. bit (A j) * (w j * value w n j)) in
            let t = sum_cong N (λ j. bit (A j) * (w j * value w n j)) (λ j. bit (A j) * (w j * over (w j) (root w) n)) (λ j lj. ap (λ (x : ℕ). bit (A j) * (w j * x)) (value_over w n j)) in
            factor q o 2 _ odd (subst (λ (x : ℕ). q ∣ x) (omega (arith, t, e (λ y. y * over y (root w) n))) (dvd-mul_right_of_dvd q (inv n ln) s));
      }
