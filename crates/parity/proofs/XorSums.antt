-- Laws of the XOR of a function's values over a range.
use mathlib.Core.Path.{◌≡◌, refl, sym, ap, ap₂, ◌∙◌}
use mathlib.Core.Logic.{⊎_elim}
use Prim.Native.Nat.{ℕ, zero, suc, ◌+◌, ◌*◌, ◌/◌, ◌%◌, ◌^◌, ◌<◌}
use native.Mathlib.Nat.{add-suc, add-zero, eq-or-lt_of_le, le_of_suc-le-suc, not-suc-le-zero, lt-suc_self, le_step, ne_of_lt, suc-mul, zero-mul}
use native.Mathlib.Numerals.{add-one}
use native.Mathlib.Omega.{arith}
use lib.Pow.{pow_pos}
use Rattle.parity.specs.Xor.{◌⊕◌, xor_sum}
use Rattle.parity.proofs.Xors.{assoc, comm, self, swap, zero_l, zero_r, lt_pow}

pub xs_zero : (f : ℕ → ℕ) → xor_sum 0 f ≡ 0
unfolding xor_sum
xs_zero f = refl

pub xs_suc : (n : ℕ) (f : ℕ → ℕ) → xor_sum (suc n) f ≡ xor_sum n f ⊕ f n
unfolding xor_sum
xs_suc n f = refl

-- one turn of a loop
pub more : (n : ℕ) (f : ℕ → ℕ) {x : ℕ} → x ≡ xor_sum n f → x ⊕ f n ≡ xor_sum (n + 1) f
more n f h = ap (λ (y : ℕ). y ⊕ f n) h ∙ sym (ap (λ (k : ℕ). xor_sum k f) (add-one n) ∙ xs_suc n f)

-- equal below n
pub cong : (n : ℕ) (f g : ℕ → ℕ) → ((i : ℕ) → i < n → f i ≡ g i) → xor_sum n f ≡ xor_sum n g
unfolding xor_sum
cong zero f g h = refl
cong (suc n) f g h = ap₂ (λ (x y : ℕ). x ⊕ y) (cong n f g (λ i l. h i (le_step l))) (h n (lt-suc_self n))

pub none : (n : ℕ) (f : ℕ → ℕ) → ((i : ℕ) → i < n → f i ≡ 0) → xor_sum n f ≡ 0
unfolding xor_sum
none zero f h = refl
none (suc n) f h = ap₂ (λ (x y : ℕ). x ⊕ y) (none n f (λ i l. h i (le_step l))) (h n (lt-suc_self n)) ∙ self 0

pub linear : (n : ℕ) (f g : ℕ → ℕ) → xor_sum n (λ i. f i ⊕ g i) ≡ xor_sum n f ⊕ xor_sum n g
unfolding xor_sum
linear zero f g = sym (self 0)
linear (suc n) f g = ap (λ (x : ℕ). x ⊕ (f n ⊕ g n)) (linear n f g) ∙ swap (xor_sum n f) (xor_sum n g) (f n) (g n)

-- two sums change places
pub exchange : (n m : ℕ) (f : ℕ → ℕ → ℕ) → xor_sum n (λ i. xor_sum m (f i)) ≡ xor_sum m (λ j. xor_sum n (λ i. f i j))
unfolding xor_sum
exchange zero m f = sym (none m (λ j. 0) (λ j l. refl))
exchange (suc n) m f =
    ap (λ (x : ℕ). x ⊕ xor_sum m (f n)) (exchange n m f) ∙ sym (linear m (λ j. xor_sum n (λ i. f i j)) (f n))

-- all terms but one are zero
pub only : (n k : ℕ) (f : ℕ → ℕ) → k < n → ((i : ℕ) → i < n → (i ≡ k → ⊥) → f i ≡ 0) → xor_sum n f ≡ f k
unfolding xor_sum
only zero k f l h = absurd (not-suc-le-zero l)
only (suc n) k f l h =
    ⊎_elim
    (λ (e : k ≡ n).
    ap₂ (λ (x y : ℕ). x ⊕ y) (none n f (λ i li. h i (le_step li) (λ e'. ne_of_lt li (e' ∙ e)))) (ap f (sym e))
    ∙ zero_l (f k))
    (λ (lt : k < n).
    ap₂ (λ (x y : ℕ). x ⊕ y) (only n k f lt (λ i li ne. h i (le_step li) ne)) (h n (lt-suc_self n) (λ e. ne_of_lt lt (sym e)))
    ∙ zero_r (f k))
    (eq-or-lt_of_le (le_of_suc-le-suc l))

-- a range in two parts
pub split : (n m : ℕ) (f : ℕ → ℕ) → xor_sum (n + m) f ≡ xor_sum n f ⊕ xor_sum m (λ i. f (n + i))
split n zero f = ap (λ (k : ℕ). xor_sum k f) (add-zero n) ∙ sym (ap (λ (x : ℕ). xor_sum n f ⊕ x) (xs_zero (λ i. f (n + i))) ∙ zero_r (xor_sum n f))
split n (suc m) f =
    ap (λ (k : ℕ). xor_sum k f) (add-suc n m) ∙ xs_suc (n + m) f ∙ ap (λ (x : ℕ). x ⊕ f (n + m)) (split n m f)
    ∙ assoc (xor_sum n f) (xor_sum m (λ i. f (n + i))) (f (n + m))
    ∙ ap (λ (x : ℕ). xor_sum n f ⊕ x) (sym (xs_suc m (λ i. f (n + i))))

-- the first term apart
pub first : (n : ℕ) (f : ℕ → ℕ) → xor_sum (suc n) f ≡ f 0 ⊕ xor_sum n (λ i. f (suc i))
first zero f = xs_suc 0 f ∙ ap (λ (x : ℕ). x ⊕ f 0) (xs_zero f) ∙ comm 0 (f 0) ∙ ap (λ (x : ℕ). f 0 ⊕ x) (sym (xs_zero (λ i. f (suc i))))
first (suc n) f =
    xs_suc (suc n) f ∙ ap (λ (x : ℕ). x ⊕ f (suc n)) (first n f)
    ∙ assoc (f 0) (xor_sum n (λ i. f (suc i))) (f (suc n))
    ∙ ap (λ (x : ℕ). f 0 ⊕ x) (sym (xs_suc n (λ i. f (suc i))))

-- rows of q: a sum over n*q is a sum of sums
pub rows : (n q : ℕ) (f : ℕ → ℕ) → xor_sum (n * q) f ≡ xor_sum n (λ r. xor_sum q (λ c. f (r * q + c)))
rows zero q f = ap (λ (k : ℕ). xor_sum k f) (zero-mul q) ∙ xs_zero f ∙ sym (xs_zero (λ r. xor_sum q (λ c. f (r * q + c))))
rows (suc n) q f =
    ap (λ (k : ℕ). xor_sum k f) (suc-mul n q) ∙ split (n * q) q f
    ∙ ap (λ (x : ℕ). x ⊕ xor_sum q (λ c. f (n * q + c))) (rows n q f)
    ∙ sym (xs_suc n (λ r. xor_sum q (λ c. f (r * q + c))))

pub bound : (k n : ℕ) (f : ℕ → ℕ) → ((i : ℕ) → i < n → f i < 2 ^ k) → xor_sum n f < 2 ^ k
unfolding xor_sum
bound k zero f h = pow_pos k
bound k (suc n) f h = lt_pow k (xor_sum n f) (f n) (bound k n f (λ i l. h i (le_step l))) (h n (lt-suc_self n))

-- an even number of equal terms cancels, an odd number is the term
const_even : (k x : ℕ) → xor_sum (k * 2) (λ i. x) ≡ 0
const_even zero x = xs_zero (λ i. x)
const_even (suc k) x =
    ap (λ (n : ℕ). xor_sum n (λ i. x)) (suc-mul k 2) ∙ split (k * 2) 2 (λ i. x)
    ∙ ap₂ (λ (a b : ℕ). a ⊕ b) (const_even k x) (xs_suc 1 (λ i. x) ∙ ap (λ (a : ℕ). a ⊕ x) (xs_suc 0 (λ i. x) ∙ ap (λ (a : ℕ). a ⊕ x) (xs_zero (λ i. x)) ∙ zero_l x) ∙ self x)
    ∙ self 0

const_odd : (k x : ℕ) → xor_sum (k * 2 + 1) (λ i. x) ≡ x
const_odd k x = sym (more (k * 2) (λ i. x) (sym (const_even k x))) ∙ zero_l x

pub odd_total : (q x : ℕ) → q % 2 ≡ 1 → xor_sum q (λ i. x) ≡ x
odd_total q x odd = ap (λ (n : ℕ). xor_sum n (λ i. x)) (omega arith) ∙ const_odd (q / 2) x
