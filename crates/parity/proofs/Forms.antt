-- Forms in a direction, homogeneous of degree m in (u, v): f x is the value at the slope x, (x, 1), and c the value at the rows, (1, 0).
use mathlib.Core.Path.{◌≡◌, refl, sym, ap, ap₂, ◌∙◌, subst}
use mathlib.Core.Bool.{Bool, true, not, ◌&&◌}
use mathlib.Core.Logic.{◌⊎◌, inl, inr, ⊎_elim}
use Prim.Native.Nat.{ℕ, zero, suc, ◌+◌, ◌*◌, ◌<◌, ◌≤◌, ◌∣◌}
use native.Mathlib.Nat.{add-zero, add_comm, dvd-add, dvd-mul_left_of_dvd}
use native.Mathlib.Omega.{arith}
use lib.Dec.{eqb}
use borrow.Author.Tests.{eqb-false, not-true}
use Rattle.parity.specs.Count.{sum, count}
use Rattle.parity.specs.Cyclic.{Order, Apart}
use Rattle.parity.proofs.Tests.{and_left, and_right}
use Rattle.parity.proofs.Pigeon.{some_passes, count_others}
use Rattle.parity.proofs.Residues.{rest, level}

-- f is a number in degree 0; else, for every a, (f x - f a) / (x - a) is a form of one degree less with the same value at the rows
unfoldable pub Form : ℕ → (ℕ → ℕ) → ℕ → Type 0
Form zero f c = (x : ℕ) → f x ≡ c
Form (suc m) f c = (a : ℕ) → (g : ℕ → ℕ) × Form m g c × ((x : ℕ) → f x + a * g x ≡ f a + x * g x)

pub form_zero : (m : ℕ) → Form m (λ x. 0) 0
unfolding Form
form_zero zero = λ x. refl
form_zero (suc m) = λ a. (λ x. 0, form_zero m, λ x. omega arith)

-- a number, in degree 0, and in a higher degree, where it is 0 at the rows
pub form_number : (k : ℕ) → Form 0 (λ x. k) k
unfolding Form
form_number k = λ x. refl

form_const : (m k : ℕ) → Form (suc m) (λ x. k) 0
unfolding Form
form_const m k = λ a. (λ x. 0, form_zero m, λ x. omega arith)

pub form_add : (m : ℕ) (f g : ℕ → ℕ) (c d : ℕ) → Form m f c → Form m g d → Form m (λ x. f x + g x) (c + d)
unfolding Form
form_add zero f g c d hf hg = λ x. ap₂ (λ (u v : ℕ). u + v) (hf x) (hg x)
form_add (suc m) f g c d hf hg = λ a.
    let (f', pf, ef) = hf a in
    let (g', pg, eg) = hg a in
    (λ x. f' x + g' x, form_add m f' g' c d pf pg, λ x. omega (arith, ef x, eg x))

pub form_scale : (m k : ℕ) (f : ℕ → ℕ) (c : ℕ) → Form m f c → Form m (λ x. k * f x) (k * c)
unfolding Form
form_scale zero k f c h = λ x. ap (λ (u : ℕ). k * u) (h x)
form_scale (suc m) k f c h = λ a.
    let (g, p, e) = h a in
    (λ x. k * g x, form_scale m k g c p, λ x. omega (arith, ap (λ (u : ℕ). k * u) (e x)))

-- times the linear form of the place in column u and row r
pub form_linear : (m u r : ℕ) (f : ℕ → ℕ) (c : ℕ) → Form m f c → Form (suc m) (λ x. (u + x * r) * f x) (r * c)
unfolding Form
form_linear zero u r f c h = λ a.
    (λ x. r * c, λ x. refl, λ x. omega (arith, ap (λ (k : ℕ). (u + x * r) * k) (h x), ap (λ (k : ℕ). (u + a * r) * k) (h a)))
form_linear (suc m) u r f c h = λ a.
    let (g, p, e) = h a in (
      λ x. (u + x * r) * g x + r * f a,
      subst (λ (k : ℕ). Form (suc m) (λ x. (u + x * r) * g x + r * f a) k) (add-zero (r * c)) (form_add (suc m) _ _ _ _ (form_linear m u r g c p) (form_const m (r * f a))),
      λ x. omega (arith, ap (λ (k : ℕ). (u + x * r) * k) (e x)),
    )

pub form_sum : (m n : ℕ) (f : ℕ → ℕ → ℕ) (c : ℕ → ℕ) → ((i : ℕ) → Form m (f i) (c i)) → Form m (λ x. sum n (λ i. f i x)) (sum n c)
unfolding sum
form_sum m zero f c h = form_zero m
form_sum m (suc n) f c h = form_add m _ _ _ _ (form_sum m n f c h) (h n)

-- a form that vanishes at the rows and m slopes, or at m + 1 slopes, is zero; z t is a slope where it vanishes, for the t below n with p t
pub vanishes : (q : ℕ) → Order q → (m : ℕ) (f : ℕ → ℕ) (c : ℕ) → Form m f c → (n : ℕ) (z : ℕ → ℕ) (p : ℕ → Bool)
    → Apart q n z → ((t : ℕ) → t < n → p t ≡ true → q ∣ f (z t))
    → m ≤ count n p → (q ∣ c) ⊎ (m < count n p) → (x : ℕ) → q ∣ f x
unfolding Form
vanishes q o zero f c form n z p far zeros few last x =
    subst (λ (k : ℕ). q ∣ k) (sym (form x))
    (⊎_elim (λ h. h) (λ (l : 0 < count n p). let (t, lt, h) = some_passes n p l in subst (λ (k : ℕ). q ∣ k) (form (z t)) (zeros t lt h)) last)
vanishes q o (suc m) f c form n z p far zeros few last x =
    let (t, lt, h) = some_passes n p (omega arith) in
    let (g, less, e) = form (z t) in
    let fewer = count_others n p t lt h in
    let ih : (x : ℕ) → q ∣ g x =
    vanishes q o m g c less n z (λ u. p u && not (eqb u t)) far
    (λ u lu hu. level q o (z t) (z u) (f (z u)) (f (z t)) (g (z u)) (far.apart t u lt lu (λ e. eqb-false u t (not-true _ (and_right (p u) _ hu)) (sym e))) (e (z u))
    (zeros u lu (and_left (p u) _ hu)) (zeros t lt h))
    (omega arith) (⊎_elim (λ d. inl d) (λ l. inr (omega arith)) last) in
    rest q (subst (λ (k : ℕ). q ∣ k) (sym (e x) ∙ add_comm _ _) (dvd-add q (zeros t lt h) (dvd-mul_left_of_dvd q (ih x) x))) (dvd-mul_left_of_dvd q (ih x) (z t))
