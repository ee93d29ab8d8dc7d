-- How many of n values are one and the same, and the value that more than half of them are.
use mathlib.Core.Path.{◌≡◌, sym, ap, ◌∙◌}
use mathlib.Core.Bool.{true, false, not, ◌&&◌}
use mathlib.Core.Logic.{◌⊎◌, inl, inr, ⊎_elim}
use Prim.Native.Nat.{ℕ, ◌+◌, ◌*◌, ◌<◌, ◌≤◌}
use native.Mathlib.Omega.{arith}
use lib.Dec.{eqb, ltb}
use borrow.Author.Tests.{ne_eqb, eqb-true, eqb-false, ltb-true, lt-ltb, le-ltb}
use Rattle.parity.specs.Count.{any}
use Rattle.parity.proofs.Tests.{either, and_right, and_both, and_no_left, and_no_right, not_of_true, not_of_false, any_elim, any_no}
use Rattle.parity.proofs.Sums.{count_le, count_not}
use Rattle.parity.proofs.First.{first_some, first_none, first_cong}
use Rattle.correction.specs.Error.{shows}
use Rattle.correction.proofs.Showing.{shows_cong, first_shown}
use Rattle.majority.specs.Majority.{majority}
use Rattle.majority.specs.Steps.{prevailing}

-- two different values share the n between them
pub shows_apart : (n : ℕ) (v : ℕ → ℕ) (x y : ℕ) → (x ≡ y → ⊥) → shows n v x + shows n v y ≤ n
unfolding shows
shows_apart n v x y ne =
    omega (
      arith,
      count_le n (λ t. eqb (v t) x) (λ t. not (eqb (v t) y))
          (λ t l h. not_of_false (ne_eqb (v t) y (λ e. ne (sym (eqb-true (v t) x h) ∙ e)))),
      count_not n (λ t. eqb (v t) y),
    )

-- a value that passes the test is shown by more than half
prevails_most : (n : ℕ) (v : ℕ → ℕ) (x : ℕ) → prevailing n v x ≡ true → n < 2 * shows n v x
unfolding prevailing
prevails_most n v x h = ltb-true n (2 * shows n v x) (and_right (not (eqb x 0)) _ h)

-- no nonzero value is shown by more than half
pub majority_none : (n : ℕ) (v : ℕ → ℕ) → ((x : ℕ) → (x ≡ 0 → ⊥) → 2 * shows n v x ≤ n) → majority n v ≡ 0
unfolding majority prevailing
majority_none n v few =
    first_none n (λ t. prevailing n v (v t)) v
    (λ t l.
    ⊎_elim (λ (z : eqb (v t) 0 ≡ true). and_no_left _ (not_of_true z))
    (λ (z : eqb (v t) 0 ≡ false). and_no_right (not (eqb (v t) 0)) (le-ltb n (2 * shows n v (v t)) (few (v t) (eqb-false (v t) 0 z))))
    (either (eqb (v t) 0)))

-- half of the values or more are 0
pub majority_quiet : (n : ℕ) (v : ℕ → ℕ) → n ≤ 2 * shows n v 0 → majority n v ≡ 0
majority_quiet n v half = majority_none n v (λ x ne. omega (arith, shows_apart n v x 0 ne))

-- a nonzero value that more than half show
pub majority_most : (n : ℕ) (v : ℕ → ℕ) (x : ℕ) → (x ≡ 0 → ⊥) → n < 2 * shows n v x → majority n v ≡ x
unfolding majority prevailing
majority_most n v x ne most =
    let (t, lt, e, first) = first_shown n v x (omega arith) in
    let pass : prevailing n v (v t) ≡ true =
    and_both (not_of_false (ne_eqb (v t) 0 (λ z. ne (sym e ∙ z))))
    (lt-ltb n (2 * shows n v (v t)) (rw e most)) in
    let (u, lu, h, value) = first_some n (λ t. prevailing n v (v t)) v t lt pass in
    value
    ∙ ⊎_elim (λ (same : eqb (v u) x ≡ true). eqb-true (v u) x same)
    (λ (other : eqb (v u) x ≡ false).
    absurd (omega (arith, prevails_most n v (v u) h, shows_apart n v (v u) x (eqb-false (v u) x other))))
    (either (eqb (v u) x))

-- all but k show x: at most half, and fewer if x is nonzero
pub majority_is : (n k : ℕ) (v : ℕ → ℕ) (x : ℕ) → n ≤ shows n v x + k → 2 * k ≤ n → ((x ≡ 0 → ⊥) → 2 * k < n) → majority n v ≡ x
majority_is n k v x most half fewer =
    ⊎_elim
    (λ (z : eqb x 0 ≡ true).
    let e = eqb-true x 0 z in
    let zeros : n ≤ shows n v 0 + k = rw e at most in
    majority_quiet n v (omega arith) ∙ sym e)
    (λ (z : eqb x 0 ≡ false).
    let ne = eqb-false x 0 z in
    majority_most n v x ne (omega (arith, fewer ne)))
    (either (eqb x 0))

-- it is one of the values, or 0
pub majority_among : (n : ℕ) (v : ℕ → ℕ) → (majority n v ≡ 0) ⊎ ((t : ℕ) × (t < n) × (majority n v ≡ v t))
unfolding majority prevailing
majority_among n v =
    ⊎_elim
    (λ (h : any n (λ t. prevailing n v (v t)) ≡ true).
    let (t, lt, pass) = any_elim n (λ t. prevailing n v (v t)) h in
    let (u, lu, p, e) = first_some n (λ t. prevailing n v (v t)) v t lt pass in
    inr (u, lu, e))
    (λ (h : any n (λ t. prevailing n v (v t)) ≡ false).
    inl (first_none n (λ t. prevailing n v (v t)) v (any_no n (λ t. prevailing n v (v t)) h)))
    (either (any n (λ t. prevailing n v (v t))))

pub majority_cong : (n : ℕ) (v v' : ℕ → ℕ) → ((t : ℕ) → t < n → v t ≡ v' t) → majority n v ≡ majority n v'
unfolding majority prevailing
majority_cong n v v' h =
    first_cong n _ _ _ _
    (λ t l. ap (λ (x : ℕ). prevailing n v x) (h t l) ∙ ap (λ (c : ℕ). not (eqb (v' t) 0) && ltb n (2 * c)) (shows_cong n v v' (v' t) h))
    h
