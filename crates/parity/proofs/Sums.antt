-- Laws of sums and counts over a range.
use mathlib.Core.Path.{◌≡◌, refl, sym, ap, ap₂, ◌∙◌, subst}
use mathlib.Core.Bool.{Bool, true, false, not, ◌&&◌, ◌||◌}
use mathlib.Core.Logic.{⊎_elim}
use Prim.Native.Nat.{ℕ, zero, suc, ◌+◌, ◌-◌, ◌*◌, ◌<◌, ◌≤◌}
use native.Mathlib.Nat.{not-suc-le-zero, le_of_suc-le-suc, eq-or-lt_of_le, le_step, lt-suc_self, add-zero, add-suc, add-le-add, zero-mul, one-mul, suc-mul, le_refl}
use native.Mathlib.Numerals.{add-one}
use native.Mathlib.Omega.{arith}
use lib.Dec.{eqb, ltb}
use borrow.Author.Tests.{lt-ltb, le-ltb, eq-eqb, ne_eqb}
use Rattle.parity.specs.Count.{bit, sum, count}

pub sum_zero : (f : ℕ → ℕ) → sum 0 f ≡ 0
unfolding sum
sum_zero f = refl

pub sum_suc : (n : ℕ) (f : ℕ → ℕ) → sum (suc n) f ≡ sum n f + f n
unfolding sum
sum_suc n f = refl

pub sum_cong : (n : ℕ) (f g : ℕ → ℕ) → ((i : ℕ) → i < n → f i ≡ g i) → sum n f ≡ sum n g
unfolding sum
sum_cong zero f g h = refl
sum_cong (suc n) f g h = ap₂ (λ (x y : ℕ). x + y) (sum_cong n f g (λ i l. h i (le_step l))) (h n (lt-suc_self n))

pub sum_none : (n : ℕ) (f : ℕ → ℕ) → ((i : ℕ) → i < n → f i ≡ 0) → sum n f ≡ 0
unfolding sum
sum_none zero f h = refl
sum_none (suc n) f h = ap₂ (λ (x y : ℕ). x + y) (sum_none n f (λ i l. h i (le_step l))) (h n (lt-suc_self n))

pub sum_add : (n : ℕ) (f g : ℕ → ℕ) → sum n (λ i. f i + g i) ≡ sum n f + sum n g
unfolding sum
sum_add zero f g = refl
sum_add (suc n) f g = let ih = sum_add n f g in omega arith

pub sum_le : (n : ℕ) (f g : ℕ → ℕ) → ((i : ℕ) → i < n → f i ≤ g i) → sum n f ≤ sum n g
unfolding sum
sum_le zero f g h = le_refl 0
sum_le (suc n) f g h = add-le-add (sum_le n f g (λ i l. h i (le_step l))) (h n (lt-suc_self n))

-- two sums change places
pub sum_exchange : (n m : ℕ) (f : ℕ → ℕ → ℕ) → sum n (λ i. sum m (f i)) ≡ sum m (λ j. sum n (λ i. f i j))
unfolding sum
sum_exchange zero m f = sym (sum_none m (λ j. 0) (λ j l. refl))
sum_exchange (suc n) m f = ap (λ (x : ℕ). x + sum m (f n)) (sum_exchange n m f) ∙ sym (sum_add m (λ j. sum n (λ i. f i j)) (f n))

-- a term is at most the sum
pub sum_term : (n : ℕ) (f : ℕ → ℕ) (i : ℕ) → i < n → f i ≤ sum n f
unfolding sum
sum_term zero f i l = absurd (not-suc-le-zero l)
sum_term (suc n) f i l =
    ⊎_elim (λ (e : i ≡ n). let h : f i ≡ f n = ap f e in omega arith) (λ (lt : i < n). let h = sum_term n f i lt in omega arith)
    (eq-or-lt_of_le (le_of_suc-le-suc l))

-- all terms but one are zero
pub sum_only : (n k : ℕ) (f : ℕ → ℕ) → k < n → ((i : ℕ) → i < n → (i ≡ k → ⊥) → f i ≡ 0) → sum n f ≡ f k
unfolding sum
sum_only zero k f l h = absurd (not-suc-le-zero l)
sum_only (suc n) k f l h =
    ⊎_elim
    (λ (e : k ≡ n).
    ap₂ (λ (x y : ℕ). x + y) (sum_none n f (λ i li. h i (le_step li) (λ e'. absurd (omega arith)))) (ap f (sym e)) ∙ omega arith)
    (λ (lt : k < n).
    ap₂ (λ (x y : ℕ). x + y) (sum_only n k f lt (λ i li ne. h i (le_step li) ne)) (h n (lt-suc_self n) (λ e. omega arith)) ∙ omega arith)
    (eq-or-lt_of_le (le_of_suc-le-suc l))

-- a range in two parts
pub sum_split : (n m : ℕ) (f : ℕ → ℕ) → sum (n + m) f ≡ sum n f + sum m (λ i. f (n + i))
sum_split n zero f = ap (λ (k : ℕ). sum k f) (add-zero n) ∙ let h = sum_zero (λ i. f (n + i)) in omega arith
sum_split n (suc m) f =
    ap (λ (k : ℕ). sum k f) (add-suc n m)
    ∙ let a = sum_suc (n + m) f in
    let b = sum_suc m (λ i. f (n + i)) in
    let ih = sum_split n m f in
    omega arith

-- rows of q
pub sum_rows : (n q : ℕ) (f : ℕ → ℕ) → sum (n * q) f ≡ sum n (λ r. sum q (λ c. f (r * q + c)))
sum_rows zero q f = ap (λ (k : ℕ). sum k f) (zero-mul q) ∙ sum_zero f ∙ sym (sum_zero (λ r. sum q (λ c. f (r * q + c))))
sum_rows (suc n) q f =
    ap (λ (k : ℕ). sum k f) (suc-mul n q) ∙ sum_split (n * q) q f ∙ ap (λ (x : ℕ). x + sum q (λ c. f (n * q + c))) (sum_rows n q f)
    ∙ sym (sum_suc n (λ r. sum q (λ c. f (r * q + c))))

-- a common factor
pub sum_mul : (n : ℕ) (f : ℕ → ℕ) (k : ℕ) → sum n (λ i. f i * k) ≡ sum n f * k
unfolding sum
sum_mul zero f k = sym (zero-mul k)
sum_mul (suc n) f k = omega (arith, sum_mul n f k)

pub sum_const : (n k : ℕ) → sum n (λ i. k) ≡ n * k
unfolding sum
sum_const zero k = sym (zero-mul k)
sum_const (suc n) k = ap (λ (x : ℕ). x + k) (sum_const n k) ∙ sym (suc-mul n k)

-- ---- counts
pub bit_le : (b : Bool) → bit b ≤ 1
unfolding bit
bit_le true = omega arith
bit_le false = omega arith

pub bit_true : {b : Bool} → b ≡ true → bit b ≡ 1
unfolding bit
bit_true h = ap bit h

pub bit_false : {b : Bool} → b ≡ false → bit b ≡ 0
unfolding bit
bit_false h = ap bit h

pub bit_and : (a b : Bool) → bit (a && b) ≡ bit a * bit b
unfolding bit
bit_and true b = sym (one-mul (bit b))
bit_and false b = sym (zero-mul (bit b))

bit_or : (a b : Bool) → bit (a || b) ≤ bit a + bit b
unfolding bit
bit_or true b = omega arith
bit_or false b = omega arith

pub count_sum : (n : ℕ) (p : ℕ → Bool) → count n p ≡ sum n (λ i. bit (p i))
unfolding count
count_sum n p = refl

pub count_zero : (p : ℕ → Bool) → count 0 p ≡ 0
unfolding count sum
count_zero p = refl

-- one turn of a loop
pub count_more : (n : ℕ) (p : ℕ → Bool) → count (n + 1) p ≡ count n p + bit (p n)
unfolding count sum
count_more n p = ap (λ (k : ℕ). count k p) (add-one n)

pub count_cong : (n : ℕ) (p r : ℕ → Bool) → ((i : ℕ) → i < n → p i ≡ r i) → count n p ≡ count n r
unfolding count
count_cong n p r h = sum_cong n (λ i. bit (p i)) (λ i. bit (r i)) (λ i l. ap bit (h i l))

-- the term at k alone
pub sum_pick : (n k : ℕ) (f : ℕ → ℕ) → k < n → sum n (λ i. bit (eqb i k) * f i) ≡ f k
sum_pick n k f l =
    sum_only n k (λ i. bit (eqb i k) * f i) l (λ i li ne. ap (λ (x : ℕ). x * f i) (bit_false (ne_eqb i k ne)) ∙ zero-mul (f i))
    ∙ ap (λ (x : ℕ). x * f k) (bit_true (eq-eqb k k refl)) ∙ one-mul (f k)

pub count_none : (n : ℕ) (p : ℕ → Bool) → ((i : ℕ) → i < n → p i ≡ false) → count n p ≡ 0
unfolding count
count_none n p h = sum_none n (λ i. bit (p i)) (λ i l. bit_false (h i l))

bit_mono : (a b : Bool) → (a ≡ true → b ≡ true) → bit a ≤ bit b
unfolding bit
bit_mono true b h = subst (λ (x : Bool). 1 ≤ bit x) (sym (h refl)) (le_refl 1)
bit_mono false b h = omega arith

-- a test that holds less often counts less
pub count_le : (n : ℕ) (p r : ℕ → Bool) → ((i : ℕ) → i < n → p i ≡ true → r i ≡ true) → count n p ≤ count n r
unfolding count
count_le n p r h = sum_le n (λ i. bit (p i)) (λ i. bit (r i)) (λ i l. bit_mono (p i) (r i) (h i l))

pub count_or : (n : ℕ) (p r : ℕ → Bool) → count n (λ i. p i || r i) ≤ count n p + count n r
unfolding count
count_or n p r = omega (arith, sum_le n (λ i. bit (p i || r i)) (λ i. bit (p i) + bit (r i)) (λ i l. bit_or (p i) (r i)), sum_add n (λ i. bit (p i)) (λ i. bit (r i)))

pub count_bound : (n : ℕ) (p : ℕ → Bool) → count n p ≤ n
unfolding count sum
count_bound zero p = le_refl 0
count_bound (suc n) p = let ih = count_bound n p in let h = bit_le (p n) in omega arith

bit_not : (b : Bool) → bit b + bit (not b) ≡ 1
unfolding bit
bit_not true = refl
bit_not false = refl

-- those that pass and those that do not
pub count_not : (n : ℕ) (p : ℕ → Bool) → count n p + count n (λ i. not (p i)) ≡ n
unfolding count sum
count_not zero p = refl
count_not (suc n) p = let ih = count_not n p in let h = bit_not (p n) in omega arith

-- all pass
pub count_all : (n : ℕ) (p : ℕ → Bool) → ((i : ℕ) → i < n → p i ≡ true) → count n p ≡ n
count_all n p h = omega (arith, count_not n p, count_none n (λ i. not (p i)) (λ i l. ap not (h i l)))

-- the numbers below k
pub count_below : (n k : ℕ) → k ≤ n → count n (λ i. ltb i k) ≡ k
unfolding count
count_below n k le =
    ap (λ (m : ℕ). count m (λ i. ltb i k)) {x = n} {y = k + (n - k)} (omega arith)
    ∙ omega (
      arith,
      sum_split k (n - k) (λ i. bit (ltb i k)),
      count_all k (λ i. ltb i k) (λ i l. lt-ltb i k l),
      sum_none (n - k) (λ i. bit (ltb (k + i) k)) (λ i l. bit_false (le-ltb (k + i) k (omega arith))),
    )
