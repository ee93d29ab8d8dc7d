-- Rows evaluated at a shift: cyclic again, in two parts, one row apart, and one root divided out.
use mathlib.Core.Path.{◌≡◌, sym, ap, ap₂, ◌∙◌}
use Prim.Native.Nat.{ℕ, suc, ◌+◌, ◌-◌, ◌*◌, ◌≤◌, ◌<◌}
use native.Mathlib.Nat.{mul-zero, mul-suc, add-zero}
use native.Mathlib.Omega.{arith}
use Rattle.parity.specs.Xor.{◌⊕◌, xor_sum}
use Rattle.parity.specs.Cyclic.{Cyclic, eval}
use Rattle.parity.proofs.Xors.{xors}
use Rattle.parity.proofs.XorSums.{xs_suc, cong, linear, split, first}
use Rattle.parity.proofs.Cycles.{shift, family}

pub eval_cyclic : (q m : ℕ) (f : ℕ → ℕ → ℕ) (x : ℕ) → ((r : ℕ) → r < m → Cyclic q (f r)) → Cyclic q (eval m f x)
unfolding eval
eval_cyclic q m f x h = family q m (λ r c. f r (c + x * r)) (λ r l. shift q (f r) (h r l) (x * r))

-- of q rows those from row m on, evaluated at the shift x
unfoldable pub lower_eval : ℕ → ℕ → (ℕ → ℕ → ℕ) → ℕ → ℕ → ℕ
lower_eval q m f x c = xor_sum (q - m) (λ i. f (m + i) (c + x * (m + i)))

pub eval_parts : (q m : ℕ) → m ≤ q → (f : ℕ → ℕ → ℕ) (x c : ℕ) → eval q f x c ≡ eval m f x c ⊕ lower_eval q m f x c
unfolding eval lower_eval
eval_parts q m l f x c = ap (λ (k : ℕ). xor_sum k (λ r. f r (c + x * r))) (omega arith) ∙ split m (q - m) (λ r. f r (c + x * r))

-- Horner's step: the first row apart
pub horner : (m : ℕ) (f : ℕ → ℕ → ℕ) (x c : ℕ) → eval (suc m) f x c ≡ f 0 c ⊕ eval m (λ r. f (suc r)) x (c + x)
unfolding eval
horner m f x c =
    first m (λ r. f r (c + x * r))
    ∙ ap₂ (λ (a b : ℕ). a ⊕ b) (ap (f 0) (ap (λ (k : ℕ). c + k) (mul-zero x) ∙ add-zero c))
    (cong m (λ r. f (suc r) (c + x * suc r)) (λ r. f (suc r) (c + x + x * r)) (λ r l. ap (f (suc r)) (omega (arith, mul-suc x r))))

-- f is ρ and the later ρ moved by x, the last f the last ρ alone: so are their values at y
together : (m : ℕ) (ρ f : ℕ → ℕ → ℕ) (x y c : ℕ)
    → ((i : ℕ) → i < m → (c : ℕ) → f i c ≡ ρ i c ⊕ ρ (suc i) (c + x))
    → ((c : ℕ) → f m c ≡ ρ m c)
    → eval (suc m) f y c ≡ eval (suc m) ρ y c ⊕ eval m (λ i. ρ (suc i)) y (c + x)
unfolding eval
together m ρ f x y c step last =
    xs_suc m (λ r. f r (c + y * r))
    ∙ ap₂ (λ (a b : ℕ). a ⊕ b) (cong m (λ r. f r (c + y * r)) (λ r. here r ⊕ next r) split ∙ linear m here next) (last (c + y * m))
    ∙ last_first (xor_sum m here) (xor_sum m next) (here m)
    ∙ ap (λ (a : ℕ). a ⊕ xor_sum m next) (sym (xs_suc m here))
  where
    last_first : (a b d : ℕ) → a ⊕ b ⊕ d ≡ a ⊕ d ⊕ b
    last_first a b d = simp xors

    here : ℕ → ℕ
    here r = ρ r (c + y * r)

    next : ℕ → ℕ
    next r = ρ (suc r) (c + x + y * r)

    split : (r : ℕ) → r < m → f r (c + y * r) ≡ here r ⊕ next r
    split r l = step r l (c + y * r) ∙ ap (λ (k : ℕ). here r ⊕ ρ (suc r) k) (omega arith)

-- Newton's step: f at y is ρ 0 and the later ρ at y, moved by y and by x
pub newton : (m : ℕ) (ρ f : ℕ → ℕ → ℕ) (x y c : ℕ)
    → ((i : ℕ) → i < m → (c : ℕ) → f i c ≡ ρ i c ⊕ ρ (suc i) (c + x))
    → ((c : ℕ) → f m c ≡ ρ m c)
    → eval (suc m) f y c ≡ ρ 0 c ⊕ (eval m (λ i. ρ (suc i)) y (c + y) ⊕ eval m (λ i. ρ (suc i)) y (c + x))
newton m ρ f x y c step last = together m ρ f x y c step last ∙ simp (horner, xors)
