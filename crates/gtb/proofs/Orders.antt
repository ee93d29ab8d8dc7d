-- The table of orders: its rule, computed once over the ten entries, and that up to 31 no number is missing.
use mathlib.Core.Path.{◌≡◌, refl, sym, ap, ◌∙◌}
use mathlib.Core.Bool.{Bool, true, false, not, beq, ◌&&◌}
use Prim.Native.Nat.{ℕ, ◌+◌, ◌-◌, ◌%◌, ◌≤◌, ◌<◌, suc-le-suc}
use native.Mathlib.Omega.{arith}
use lib.Dec.{eqb, leb}
use lib.ListN.{get_or}
use borrow.Author.Tests.{eqb-true, eqb-false, ne_eqb, leb-true, not-true}
use Rattle.parity.specs.Count.{any, all}
use Rattle.parity.specs.Cyclic.{Order}
use Rattle.parity.proofs.Orders.{order_test, order_of}
use Rattle.parity.proofs.Tests.{and_left, and_right, all_elim, any_elim, agree}
use Rattle.gtb.specs.Shape.{orders, is_order, odd_prime}

-- an odd prime, at most 31, modulo which the laws can divide
unfoldable entry_test : ℕ → Bool
entry_test q = odd_prime q && (leb q 31 && order_test q)

-- what holds of each order
pub record OrderRule (q : ℕ) : Type 0 where
  pub odd : q % 2 ≡ 1
  pub low : 3 ≤ q
  pub high : q ≤ 31
  pub prime : (d : ℕ) → 2 ≤ d → d < q → q % d ≡ 0 → ⊥
  pub order : Order q

-- the one test over the whole table
table : all 10 (λ k. entry_test (get_or orders k 0)) ≡ true
unfolding orders all entry_test odd_prime order_test
table = refl

entry : (q : ℕ) → is_order q ≡ true → entry_test q ≡ true
unfolding is_order
entry q o =
    let (k, l, e) = any_elim 10 (λ k. eqb (get_or orders k 0) q) o in
    ap entry_test (sym (eqb-true (get_or orders k 0) q e)) ∙ all_elim 10 (λ k. entry_test (get_or orders k 0)) table k l

pub order_rule : (q : ℕ) → is_order q ≡ true → OrderRule q
unfolding entry_test odd_prime
order_rule q o =
    let test = entry q o in
    let odds = and_left _ _ test in
    let rest = and_right (odd_prime q) _ test in
    let first = and_left _ _ odds in
    record {
      odd = eqb-true (q % 2) 1 (and_left _ _ first);
      low = leb-true 3 q (and_right (eqb (q % 2) 1) _ first);
      high = leb-true q 31 (and_left _ _ rest);
      prime = λ d two below divides.
          eqb-false (q % d) 0
          (not-true (eqb (q % d) 0)
          (ap (λ (m : ℕ). not (eqb (q % m) 0)) (omega arith)
          ∙ all_elim (q - 2) (λ d. not (eqb (q % (d + 2)) 0)) (and_right (eqb (q % 2) 1 && leb 3 q) _ odds) (d - 2) (omega arith)))
          divides;
      order = order_of q (and_right (leb q 31) _ rest);
    }

-- up to 31 the table holds exactly the odd primes
pub orders_rule : (q : ℕ) → q ≤ 31 → is_order q ≡ odd_prime q
unfolding is_order orders odd_prime all any
orders_rule q h = agree (is_order q) (odd_prime q) (all_elim 32 (λ q. beq (is_order q) (odd_prime q)) refl q (suc-le-suc h))

-- an order that is none of the first nine is 31
pub last_order : (q : ℕ) → is_order q ≡ true → (q ≡ 3 → ⊥) → (q ≡ 5 → ⊥) → (q ≡ 7 → ⊥) → (q ≡ 11 → ⊥) → (q ≡ 13 → ⊥) → (q ≡ 17 → ⊥) → (q ≡ 19 → ⊥) → (q ≡ 23 → ⊥) → (q ≡ 29 → ⊥) → q ≡ 31
unfolding is_order any orders
last_order q o no3 no5 no7 no11 no13 no17 no19 no23 no29 =
    let other : (k : ℕ) → (q ≡ k → ⊥) → eqb k q ≡ false = λ k h. ne_eqb k q (λ e. h (sym e)) in
    sym (eqb-true 31 q (rw (other 3 no3, other 5 no5, other 7 no7, other 11 no11, other 13 no13, other 17 no17, other 19 no19, other 23 no23, other 29 no29) at o))
