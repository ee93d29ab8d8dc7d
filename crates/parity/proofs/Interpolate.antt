-- Rows of zero total that take given values at given shifts.
use mathlib.Core.Path.{◌≡◌, refl, ap, ap₂, ◌∙◌}
use Prim.Native.Nat.{ℕ, zero, suc, ◌+◌, ◌*◌, ◌-◌, ◌%◌, ◌^◌, ◌<◌, ◌≤◌}
use native.Mathlib.Nat.{add-sub_of_le, le-mul_of_pos_right, le_refl, le_of_suc-le-suc, not-suc-le-zero, suc_inj, zero-lt-suc}
use native.Mathlib.Decide.{dec_lt}
use native.Mathlib.Omega.{arith}
use lib.Pow.{pow_pos}
use Rattle.parity.specs.Xor.{◌⊕◌}
use Rattle.parity.specs.Cyclic.{Cyclic, Order, Apart, eval}
use Rattle.parity.proofs.Xors.{self, zero_r, lt_pow, xors}
use Rattle.parity.proofs.XorSums.{none}
use Rattle.parity.proofs.Cycles.{shift, both}
use Rattle.parity.proofs.Orders.{order_pos}
use Rattle.parity.proofs.Modular.{no_step}
use Rattle.parity.proofs.Walk.{quotient, Divided, divided}
use Rattle.parity.proofs.Newton.{newton}

-- one step of Newton's interpolation: f is made of ρ with the root x
module _ (m : ℕ) (ρ f : ℕ → ℕ → ℕ) (x : ℕ) (rows : (i : ℕ) → i < m → (c : ℕ) → f i c ≡ ρ i c ⊕ ρ (suc i) (c + x)) (top : (c : ℕ) → f m c ≡ ρ m c) where
  -- at the root f takes the value ρ 0
  pub newton_root : (c : ℕ) → eval (suc m) f x c ≡ ρ 0 c
  newton_root c = newton m ρ f x x c rows top ∙ simp xors

  -- at a shift y where the later rows of ρ take the value g, f takes the value H
  pub newton_step : (y : ℕ) (H g : ℕ → ℕ)
      → ((c : ℕ) → eval m (λ i. ρ (suc i)) y c ≡ g c)
      → ((c : ℕ) → g (c + y) ⊕ g (c + x) ≡ H c ⊕ ρ 0 c)
      → (c : ℕ) → eval (suc m) f y c ≡ H c
  newton_step y H g later divided c =
      newton m ρ f x y c rows top
      ∙ ap (λ (k : ℕ). ρ 0 c ⊕ k) (ap₂ (λ (i j : ℕ). i ⊕ j) (later (c + y)) (later (c + x)) ∙ divided c)
      ∙ simp xors

-- z is x negated modulo q, and y + z the step of the walk
divide : (q : ℕ) → Order q → (k x y : ℕ) → (x % q ≡ y % q → ⊥)
    → (d : ℕ → ℕ) → Cyclic q d → ((c : ℕ) → d c < 2 ^ k) → (g : ℕ → ℕ) × Divided q k x y d g
divide q o k x y ne d cyc small =
    let z : ℕ = x * q - x in
    let around : x + z ≡ x * q = add-sub_of_le (le-mul_of_pos_right x (order_pos q o)) in
    let (e, inv) = o.inverse (y + z) (λ h. ne (no_step q x x y z around h)) in
    (λ c. quotient q (y + z) e d (c + z), divided q o k x x y z (y + z) e d around refl inv cyc small)

-- a function for each t below m, gathered into one
choose : (m : ℕ) (P : ℕ → (ℕ → ℕ) → Type 0) → ((t : ℕ) → t < m → (g : ℕ → ℕ) × P t g)
    → (g : ℕ → ℕ → ℕ) × ((t : ℕ) → t < m → P t (g t))
choose m P h = (λ t. pick t (dec_lt t m), λ t l. holds t l (dec_lt t m))
  where
    pick : (t : ℕ) → Dec (t < m) → ℕ → ℕ
    pick t (yes l) = (h t l).0
    pick t (no n) = λ c. 0

    holds : (t : ℕ) → t < m → (w : Dec (t < m)) → P t (pick t w)
    holds t l (yes l') = (h t l').1
    holds t l (no n) = absurd (n l)

-- the m rows f are of zero total, and take at the shift a t the value h t
pub record Interpolant (q m k : ℕ) (a : ℕ → ℕ) (h f : ℕ → ℕ → ℕ) : Type 0 where
  pub cyclic : (r : ℕ) → r < m → Cyclic q (f r)
  pub value : (t : ℕ) → t < m → (c : ℕ) → eval m f (a t) c ≡ h t c
  pub width : (r : ℕ) → r < m → (c : ℕ) → f r c < 2 ^ k

-- the same, with rows of zeros past the m
record Padded (q m k : ℕ) (a : ℕ → ℕ) (h f : ℕ → ℕ → ℕ) : Type 0 where
  cyclic : (r : ℕ) → Cyclic q (f r)
  value : (t : ℕ) → t < m → (c : ℕ) → eval m f (a t) c ≡ h t c
  width : (r c : ℕ) → f r c < 2 ^ k
  past : (r : ℕ) → m ≤ r → (c : ℕ) → f r c ≡ 0

-- a row before the others
abbrev before : (ℕ → ℕ) → (ℕ → ℕ → ℕ) → ℕ → ℕ → ℕ
before f p zero = f
before f p (suc i) = p i

-- the rows p with the root x put in, and f their value there
next : ℕ → (ℕ → ℕ) → (ℕ → ℕ → ℕ) → ℕ → ℕ → ℕ
next x f p r c = before f p r c ⊕ p r (c + x)

-- one shift more: g are the later values divided by the root a 0, and p interpolates them
module _ (q m k : ℕ) (a : ℕ → ℕ) (h : ℕ → ℕ → ℕ) (cyc : Cyclic q (h 0)) (small : (c : ℕ) → h 0 c < 2 ^ k) (g p : ℕ → ℕ → ℕ) (div : (t : ℕ) → t < m → Divided q k (a 0) (a (suc t)) (λ c. h (suc t) c ⊕ h 0 c) (g t)) (later : Padded q m k (λ t. a (suc t)) g p) where
  next_cyclic : (r : ℕ) → Cyclic q (next (a 0) (h 0) p r)
  unfolding next
  next_cyclic r = both q (before (h 0) p r) (λ c. p r (c + a 0)) (here r) (shift q (p r) (later.cyclic r) (a 0))
    where
      here : (r : ℕ) → Cyclic q (before (h 0) p r)
      here zero = cyc
      here (suc r) = later.cyclic r

  next_width : (r c : ℕ) → next (a 0) (h 0) p r c < 2 ^ k
  unfolding next
  next_width r c = lt_pow k (before (h 0) p r c) (p r (c + a 0)) (here r) (later.width r (c + a 0))
    where
      here : (r : ℕ) → before (h 0) p r c < 2 ^ k
      here zero = small c
      here (suc r) = later.width r c

  next_top : (c : ℕ) → next (a 0) (h 0) p m c ≡ before (h 0) p m c
  unfolding next
  next_top c = ap (λ (x : ℕ). before (h 0) p m c ⊕ x) (later.past m (le_refl m) (c + a 0)) ∙ zero_r (before (h 0) p m c)

  next_value : (t : ℕ) → t < suc m → (c : ℕ) → eval (suc m) (next (a 0) (h 0) p) (a t) c ≡ h t c
  unfolding next
  next_value zero l = newton_root m (before (h 0) p) (next (a 0) (h 0) p) (a 0) (λ i l c. refl) next_top
  next_value (suc t) l =
      let l' : t < m = le_of_suc-le-suc l in
      newton_step m (before (h 0) p) (next (a 0) (h 0) p) (a 0) (λ i l c. refl) next_top (a (suc t)) (h (suc t)) (g t) (later.value t l') (div t l').step

  next_past : (r : ℕ) → suc m ≤ r → (c : ℕ) → next (a 0) (h 0) p r c ≡ 0
  unfolding next
  next_past zero l c = absurd (not-suc-le-zero l)
  next_past (suc r) l c =
      ap₂ (λ (x y : ℕ). x ⊕ y) (later.past r (le_of_suc-le-suc l) c) (later.past (suc r) (omega arith) (c + a 0)) ∙ self 0

  grown : Padded q (suc m) k a h (next (a 0) (h 0) p)
  grown = record { cyclic = next_cyclic; value = next_value; width = next_width; past = next_past }

module _ (q : ℕ) (o : Order q) (k : ℕ) where
  -- the later values divided by the root a 0
  divide_all : (m : ℕ) (a : ℕ → ℕ) → Apart q (suc m) a → (h : ℕ → ℕ → ℕ)
      → ((t : ℕ) → t < suc m → Cyclic q (h t)) → ((t : ℕ) → t < suc m → (c : ℕ) → h t c < 2 ^ k)
      → (g : ℕ → ℕ → ℕ) × ((t : ℕ) → t < m → Divided q k (a 0) (a (suc t)) (λ c. h (suc t) c ⊕ h 0 c) (g t))
  divide_all m a far h cyc small =
      choose m (λ t g. Divided q k (a 0) (a (suc t)) (λ c. h (suc t) c ⊕ h 0 c) g)
      (λ t l.
      let l' : suc t < suc m = omega arith in
      divide q o k (a 0) (a (suc t)) (far.apart 0 (suc t) (zero-lt-suc m) l' (omega arith)) (λ c. h (suc t) c ⊕ h 0 c)
      (both q (h (suc t)) (h 0) (cyc (suc t) l') (cyc 0 (zero-lt-suc m)))
      (λ c. lt_pow k (h (suc t) c) (h 0 c) (small (suc t) l' c) (small 0 (zero-lt-suc m) c)))

  -- by induction on the number of shifts: divide by the first, interpolate at the others, put the first in
  padded : (m : ℕ) (a : ℕ → ℕ) → Apart q m a → (h : ℕ → ℕ → ℕ)
      → ((t : ℕ) → t < m → Cyclic q (h t)) → ((t : ℕ) → t < m → (c : ℕ) → h t c < 2 ^ k)
      → (f : ℕ → ℕ → ℕ) × Padded q m k a h f
  padded zero a far h cyc small = (
    λ r c. 0,
    record {
      cyclic = λ r. record { period = λ c. refl; total = none q (λ c. 0) (λ c l. refl) };
      value = λ t l. absurd (not-suc-le-zero l);
      width = λ r c. pow_pos k;
      past = λ r l c. refl;
    },
  )
  padded (suc m) a far h cyc small =
      let (g, div) = divide_all m a far h cyc small in
      let others : Apart q m (λ t. a (suc t)) = record { apart = λ t u lt lu ne. far.apart (suc t) (suc u) (omega arith) (omega arith) (λ e. ne (suc_inj e)) } in
      let (p, later) = padded m (λ t. a (suc t)) others g (λ t l. (div t l).cyclic) (λ t l. (div t l).width) in
      (next (a 0) (h 0) p, grown q m k a h (cyc 0 (zero-lt-suc m)) (small 0 (zero-lt-suc m)) g p div later)

pub interpolate : (q : ℕ) → Order q → (m k : ℕ) (a : ℕ → ℕ) → Apart q m a → (h : ℕ → ℕ → ℕ)
    → ((t : ℕ) → t < m → Cyclic q (h t)) → ((t : ℕ) → t < m → (c : ℕ) → h t c < 2 ^ k)
    → (f : ℕ → ℕ → ℕ) × Interpolant q m k a h f
interpolate q o m k a far h cyc small =
    let p = padded q o k m a far h cyc small in
    (p.0, record { cyclic = λ r l. p.1.cyclic r; value = p.1.value; width = λ r l. p.1.width r })
