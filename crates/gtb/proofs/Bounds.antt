-- What a lawful shape's numbers are.
use mathlib.Core.Path.{◌≡◌}
use mathlib.Core.Bool.{Bool, true, ◌&&◌}
use Prim.Native.Nat.{◌≤◌, ◌<◌}
use native.Mathlib.Omega.{arith}
use lib.Dec.{leb}
use borrow.Author.Tests.{leb-true}
use Rattle.parity.specs.Cyclic.{Order}
use Rattle.parity.proofs.Tests.{and_left, and_right}
use Rattle.gtb.specs.declared.Shape.{Shape}
use Rattle.gtb.specs.Shape.{is_order, regular, sloped, lawful, Lawful}
use Rattle.gtb.proofs.Orders.{order_rule}

-- order, directions and width of a lawful shape
pub record Bounds (s : Shape) : Type 0 where
  pub listed : is_order s.q ≡ true
  pub order : Order s.q
  pub q3 : 3 ≤ s.q
  pub q31 : s.q ≤ 31
  pub n2 : 2 ≤ s.n
  pub nq : s.n ≤ s.q
  pub n8 : s.n ≤ 8
  pub b1 : 1 ≤ s.b
  pub b32 : s.b ≤ 32

-- both tests of an && hold
and_parts : (a b : Bool) → (a && b) ≡ true → (a ≡ true) × (b ≡ true)
and_parts a b h = (and_left a b h, and_right a b h)

-- the directions that test 1 lets pass
pub regular_directions : (s : Shape) → regular s ≡ true → (2 ≤ s.n) × (s.n ≤ 8)
unfolding regular
regular_directions s h =
    let (upto-n8, b1) = and_parts _ _ (and_left _ _ h) in
    let (upto-nq, n8) = and_parts _ _ upto-n8 in
    (leb-true 2 s.n (and_right (is_order s.q) _ (and_left _ _ upto-nq)), leb-true s.n 8 n8)

pub regular_order : (s : Shape) → regular s ≡ true → s.n ≤ s.q
unfolding regular
regular_order s h =
    let (upto-nq, n8) = and_parts _ _ (and_left _ _ (and_left _ _ h)) in
    leb-true s.n s.q (and_right (is_order s.q && leb 2 s.n) _ upto-nq)

pub bounds : (s : Shape) → Lawful s → Bounds s
unfolding lawful regular
bounds s h =
    let (upto-b1, b32) = and_parts _ _ (and_left _ (sloped s) h) in
    let (upto-n8, b1) = and_parts _ _ upto-b1 in
    let (upto-nq, n8) = and_parts _ _ upto-n8 in
    let (upto-n2, nq) = and_parts _ _ upto-nq in
    let (o, n2) = and_parts _ _ upto-n2 in
    record {
      listed = o;
      order = (order_rule s.q o).order;
      q3 = (order_rule s.q o).low;
      q31 = (order_rule s.q o).high;
      n2 = leb-true 2 s.n n2;
      nq = leb-true s.n s.q nq;
      n8 = leb-true s.n 8 n8;
      b1 = leb-true 1 s.b b1;
      b32 = leb-true s.b 32 b32;
    }

-- q is not zero
pub positive : (s : Shape) → Lawful s → 0 < s.q
positive s h = omega (arith, (bounds s h).q3)
