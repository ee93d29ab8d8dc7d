-- The value at the first number that passes a test.
use mathlib.Core.Path.{◌≡◌, refl, ap, ◌∙◌}
use mathlib.Core.Bool.{Bool, true, false, cond}
use mathlib.Core.Logic.{⊎_elim}
use Prim.Native.Nat.{ℕ, zero, suc, ◌<◌, suc-le-suc}
use native.Mathlib.Nat.{not-suc-le-zero, le_of_suc-le-suc, zero-lt-suc}
use Rattle.parity.specs.Count.{first_value}
use Rattle.parity.proofs.Tests.{either}

-- the value at 0, if it passes, or else the first one after it
first_here : (n : ℕ) (p : ℕ → Bool) (v : ℕ → ℕ) → p 0 ≡ true → first_value (suc n) p v ≡ v 0
unfolding first_value
first_here n p v h = ap (λ (b : Bool). cond b (v 0) (first_value n (λ t. p (suc t)) (λ t. v (suc t)))) h

first_later : (n : ℕ) (p : ℕ → Bool) (v : ℕ → ℕ) → p 0 ≡ false → first_value (suc n) p v ≡ first_value n (λ t. p (suc t)) (λ t. v (suc t))
unfolding first_value
first_later n p v h = ap (λ (b : Bool). cond b (v 0) (first_value n (λ t. p (suc t)) (λ t. v (suc t)))) h

-- where some number passes, the first value is that of one that passes
pub first_some : (n : ℕ) (p : ℕ → Bool) (v : ℕ → ℕ) (t : ℕ) → t < n → p t ≡ true
    → (u : ℕ) × (u < n) × (p u ≡ true) × (first_value n p v ≡ v u)
first_some zero p v t l h = absurd (not-suc-le-zero l)
first_some (suc n) p v zero l h = (0, l, h, first_here n p v h)
first_some (suc n) p v (suc t) l h =
    ⊎_elim (λ (z : p 0 ≡ true). (0, zero-lt-suc n, z, first_here n p v z))
    (λ (z : p 0 ≡ false).
    let (u, lu, hu, e) = first_some n (λ t. p (suc t)) (λ t. v (suc t)) t (le_of_suc-le-suc l) h in
    (suc u, suc-le-suc lu, hu, first_later n p v z ∙ e))
    (either (p 0))

-- the value at the first, or 0
pub first_at : (n : ℕ) (p : ℕ → Bool) (v : ℕ → ℕ) (t : ℕ) → t < n → ((u : ℕ) → u < t → p u ≡ false) → p t ≡ true → first_value n p v ≡ v t
unfolding first_value
first_at zero p v t l fails pass = absurd (not-suc-le-zero l)
first_at (suc n) p v zero l fails pass = ap (λ (b : Bool). cond b (v 0) (first_value n (λ t. p (suc t)) (λ t. v (suc t)))) pass
first_at (suc n) p v (suc t) l fails pass =
    ap (λ (b : Bool). cond b (v 0) (first_value n (λ t. p (suc t)) (λ t. v (suc t)))) (fails 0 (zero-lt-suc t))
    ∙ first_at n (λ t. p (suc t)) (λ t. v (suc t)) t (le_of_suc-le-suc l) (λ u lu. fails (suc u) (suc-le-suc lu)) pass

pub first_none : (n : ℕ) (p : ℕ → Bool) (v : ℕ → ℕ) → ((u : ℕ) → u < n → p u ≡ false) → first_value n p v ≡ 0
unfolding first_value
first_none zero p v fails = refl
first_none (suc n) p v fails =
    ap (λ (b : Bool). cond b (v 0) (first_value n (λ t. p (suc t)) (λ t. v (suc t)))) (fails 0 (zero-lt-suc n))
    ∙ first_none n (λ t. p (suc t)) (λ t. v (suc t)) (λ u lu. fails (suc u) (suc-le-suc lu))

pub first_cong : (n : ℕ) (p p' : ℕ → Bool) (v v' : ℕ → ℕ) → ((t : ℕ) → t < n → p t ≡ p' t) → ((t : ℕ) → t < n → v t ≡ v' t) → first_value n p v ≡ first_value n p' v'
unfolding first_value
first_cong zero p p' v v' hp hv = refl
first_cong (suc n) p p' v v' hp hv = λ i.
    cond (hp 0 (zero-lt-suc n) i) (hv 0 (zero-lt-suc n) i)
    (first_cong n (λ t. p (suc t)) (λ t. p' (suc t)) (λ t. v (suc t)) (λ t. v' (suc t)) (λ t l. hp (suc t) (suc-le-suc l)) (λ t l. hv (suc t) (suc-le-suc l)) i)
