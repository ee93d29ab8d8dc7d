-- Functions on a cycle: shifts, sums of them, and their totals.
use mathlib.Core.Path.{◌≡◌, sym, ap, ap₂, ◌∙◌}
use Prim.Native.Nat.{ℕ, zero, suc, ◌+◌, ◌*◌, ◌/◌, ◌%◌, ◌<◌}
use native.Mathlib.Nat.{add_assoc, add-zero, zero-add, add_right_comm, suc-mul, zero-mul, mod-add-div'}
use native.Mathlib.Omega.{arith}
use Rattle.parity.specs.Xor.{◌⊕◌, xor_sum}
use Rattle.parity.specs.Cyclic.{Cyclic}
use Rattle.parity.proofs.Xors.{comm, self, twice}
use Rattle.parity.proofs.XorSums.{xs_suc, cong, none, linear, exchange, first}

-- any number of turns
pub turns : (q : ℕ) (f : ℕ → ℕ) → ((c : ℕ) → f (c + q) ≡ f c) → (k c : ℕ) → f (c + k * q) ≡ f c
turns q f p zero c = ap f (ap (λ (x : ℕ). c + x) (zero-mul q) ∙ add-zero c)
turns q f p (suc k) c =
    ap f (ap (λ (x : ℕ). c + x) (suc-mul k q) ∙ sym (add_assoc c (k * q) q)) ∙ p (c + k * q) ∙ turns q f p k c

pub wrap : (q : ℕ) (f : ℕ → ℕ) → ((c : ℕ) → f (c + q) ≡ f c) → (c : ℕ) → f (c % q) ≡ f c
wrap q f p c = sym (turns q f p (c / q) (c % q)) ∙ ap f (mod-add-div' c q)

-- equal modulo q, equal values
pub same : (q : ℕ) (f : ℕ → ℕ) → ((c : ℕ) → f (c + q) ≡ f c) → (c d : ℕ) → c % q ≡ d % q → f c ≡ f d
same q f p c d e = sym (wrap q f p c) ∙ ap f e ∙ wrap q f p d

-- the total over a turn is the same wherever the turn starts
shift_one : (q : ℕ) (f : ℕ → ℕ) → ((c : ℕ) → f (c + q) ≡ f c) → xor_sum q (λ c. f (suc c)) ≡ xor_sum q f
shift_one q f p =
    sym (twice (f 0) (xor_sum q (λ c. f (suc c))))
    ∙ ap (λ (x : ℕ). f 0 ⊕ x) (sym (first q f) ∙ xs_suc q f ∙ ap (λ (x : ℕ). xor_sum q f ⊕ x) (sym (ap f (zero-add q)) ∙ p 0) ∙ comm (xor_sum q f) (f 0))
    ∙ twice (f 0) (xor_sum q f)

shift_total : (q : ℕ) (f : ℕ → ℕ) → ((c : ℕ) → f (c + q) ≡ f c) → (a : ℕ) → xor_sum q (λ c. f (c + a)) ≡ xor_sum q f
shift_total q f p zero = cong q (λ c. f (c + 0)) f (λ c l. ap f (add-zero c))
shift_total q f p (suc a) =
    cong q (λ c. f (c + suc a)) (λ c. f (suc c + a)) (λ c l. ap f (omega arith))
    ∙ shift_one q (λ c. f (c + a)) (λ c. ap f (add_right_comm c q a) ∙ p (c + a))
    ∙ shift_total q f p a

-- shifts and XOR sums of cyclic functions are cyclic
pub shift : (q : ℕ) (f : ℕ → ℕ) → Cyclic q f → (a : ℕ) → Cyclic q (λ c. f (c + a))
shift q f h a = record {
  period = λ c. ap f (add_right_comm c q a) ∙ h.period (c + a);
  total = shift_total q f h.period a ∙ h.total;
}

pub both : (q : ℕ) (f g : ℕ → ℕ) → Cyclic q f → Cyclic q g → Cyclic q (λ c. f c ⊕ g c)
both q f g hf hg = record {
  period = λ c. ap₂ (λ (x y : ℕ). x ⊕ y) (hf.period c) (hg.period c);
  total = linear q f g ∙ ap₂ (λ (x y : ℕ). x ⊕ y) hf.total hg.total ∙ self 0;
}

pub family : (q n : ℕ) (f : ℕ → ℕ → ℕ) → ((r : ℕ) → r < n → Cyclic q (f r)) → Cyclic q (λ c. xor_sum n (λ r. f r c))
family q n f h = record {
  period = λ c. cong n (λ r. f r (c + q)) (λ r. f r c) (λ r l. (h r l).period c);
  total = exchange q n (λ c r. f r c) ∙ none n (λ r. xor_sum q (f r)) (λ r l. (h r l).total);
}
