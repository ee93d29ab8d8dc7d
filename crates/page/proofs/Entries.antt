-- Tests over the entries of a list: below 2^b, function numbers, zeros.
use mathlib.Core.Path.{◌≡◌, refl, sym, ap, ◌∙◌}
use mathlib.Core.Bool.{Bool, true, ◌&&◌, and-true, and_assoc}
use mathlib.Core.List.{List, [], ◌∷◌, ◌++◌}
use Prim.Native.Nat.{ℕ, zero, suc, ◌<◌, ◌^◌}
use native.Mathlib.Omega.{arith}
use lib.Dec.{eqb, ltb}
use lib.ListN.{length, get_or, replicate, length-replicate, get_or-replicate}
use lib.Pow.{pow_pos}
use lib.Seq.{ext_get_or}
use borrow.Author.Tests.{lt-ltb, ltb-true, eq-eqb, eqb-true}
use Rattle.parity.specs.Count.{all}
use Rattle.parity.proofs.Tests.{same, all_intro, all_elim, all_cong}
use Rattle.gtb.specs.Square.{narrow}
use Rattle.page.specs.Page.{functions, zeros}

-- both tests are tests of a width
pub narrow_functions : (marks : List ℕ) → narrow 8 marks ≡ functions marks
unfolding narrow functions
narrow_functions marks = refl

pub narrow_zeros : (xs : List ℕ) → narrow 0 xs ≡ zeros xs
unfolding narrow zeros
narrow_zeros xs = all_cong (length xs) _ _ (λ i l. below_one (get_or xs i 0))
  where
    below_one : (x : ℕ) → ltb x 1 ≡ eqb x 0
    below_one x = same (λ t. eq-eqb x 0 (omega (arith, ltb-true x 1 t))) (λ t. lt-ltb x 1 (omega (arith, eqb-true x 0 t)))

-- the first number apart
all_cons : (n : ℕ) (p : ℕ → Bool) → all (suc n) p ≡ (p 0 && all n (λ i. p (suc i)))
unfolding all
all_cons zero p = sym (and-true (p 0))
all_cons (suc n) p = ap (λ (x : Bool). x && p (suc n)) (all_cons n p) ∙ and_assoc (p 0) (all n (λ i. p (suc i))) (p (suc n))

narrow_cons : (b x : ℕ) (xs : List ℕ) → narrow b (x ∷ xs) ≡ (ltb x (2 ^ b) && narrow b xs)
unfolding narrow
narrow_cons b x xs = all_cons (length xs) (λ i. ltb (get_or (x ∷ xs) i 0) (2 ^ b))

-- page number and number of marks apart
pub narrow_two : (b x y : ℕ) (xs : List ℕ) → narrow b (x ∷ y ∷ xs) ≡ (ltb x (2 ^ b) && (ltb y (2 ^ b) && narrow b xs))
narrow_two b x y xs = narrow_cons b x (y ∷ xs) ∙ ap (λ (t : Bool). ltb x (2 ^ b) && t) (narrow_cons b y xs)

narrow_replicate : (b k : ℕ) → narrow b (replicate k 0) ≡ true
unfolding narrow
narrow_replicate b k =
    all_intro (length (replicate {A = ℕ} k 0)) (λ i. ltb (get_or (replicate {A = ℕ} k 0) i 0) (2 ^ b))
    (λ i l. lt-ltb (get_or (replicate {A = ℕ} k 0) i 0) (2 ^ b) (rw (get_or-replicate {A = ℕ} k i 0 0 (rw (length-replicate {A = ℕ} k 0) at l)) (pow_pos b)))

-- zeros behind a list change nothing
pub narrow_tail : (b : ℕ) (xs : List ℕ) (k : ℕ) → narrow b (xs ++ replicate k 0) ≡ narrow b xs
unfolding narrow all
narrow_tail b [] k = narrow_replicate b k
narrow_tail b (x ∷ xs) k =
    narrow_cons b x (xs ++ replicate k 0) ∙ ap (λ (t : Bool). ltb x (2 ^ b) && t) (narrow_tail b xs k) ∙ sym (narrow_cons b x xs)

pub zeros_replicate : (k : ℕ) → zeros (replicate k 0) ≡ true
unfolding zeros
zeros_replicate k =
    all_intro (length (replicate {A = ℕ} k 0)) (λ i. eqb (get_or (replicate {A = ℕ} k 0) i 0) 0)
    (λ i l. eq-eqb _ _ (get_or-replicate k i 0 0 (rw length-replicate at l)))

-- a list of zeros is known by its length
pub zeros_are : (xs : List ℕ) → zeros xs ≡ true → xs ≡ replicate (length xs) 0
unfolding zeros
zeros_are xs h =
    ext_get_or 0 xs (replicate (length xs) 0) (sym (length-replicate (length xs) 0))
    (λ i l. eqb-true _ _ (all_elim _ _ h i l) ∙ sym (get_or-replicate (length xs) i 0 0 l))

pub function_at : (marks : List ℕ) → functions marks ≡ true → (i : ℕ) → i < length marks → get_or marks i 0 < 256
unfolding functions
function_at marks h i l = ltb-true (get_or marks i 0) 256 (all_elim _ _ h i l)
