-- Multiples of q, and numbers that are equal modulo q.
use mathlib.Core.Path.{◌≡◌, refl, sym, ap, ap₂, ◌∙◌, subst}
use Prim.Native.Nat.{ℕ, zero, suc, ◌+◌, ◌-◌, ◌*◌, ◌/◌, ◌%◌, ◌∣◌}
use native.Mathlib.Nat.{mul-zero, mul-suc, mul_comm, zero-mod, add-mod, mod-add-div', dvd-add, dvd-add_iff_right, dvd-mul_left, dvd_of_mod-eq-zero, mod-eq-zero_of_dvd}
use native.Mathlib.Decide.{dec_dvd}
use native.Mathlib.Omega.{arith}
use Rattle.parity.specs.Count.{sum}
use Rattle.parity.specs.Cyclic.{Order}
use Rattle.parity.proofs.Orders.{mod_mul_mod, order_pos}
use Rattle.parity.proofs.Modular.{cancel_mul, no_step}

-- what is left of a multiple when a multiple is taken off
pub rest : (q : ℕ) {x y : ℕ} → q ∣ x + y → q ∣ x → q ∣ y
rest q h hx = (dvd-add_iff_right q hx).1 h

-- a factor that is no multiple is dropped
pub factor : (q : ℕ) → Order q → (d x : ℕ) → (q ∣ d → ⊥) → q ∣ d * x → q ∣ x
factor q o d x ne h =
    dvd_of_mod-eq-zero q
    (cancel_mul q o d x 0 (λ z. ne (dvd_of_mod-eq-zero q z)) (mod-eq-zero_of_dvd q h ∙ sym (ap (λ (k : ℕ). k % q) (mul-zero d) ∙ zero-mod q)) ∙ zero-mod q)

-- minus the inverse of d
pub negated : (q : ℕ) → Order q → (d : ℕ) → (e : ℕ) × ((q ∣ d → ⊥) → q ∣ d * e + 1)
negated q o d = go (dec_dvd q d)
  where
    go : Dec (q ∣ d) → (e : ℕ) × ((q ∣ d → ⊥) → q ∣ d * e + 1)
    go (yes h) = (0, λ ne. absurd (ne h))
    go (no ne) =
        let (e, one) = o.inverse d (λ z. ne (dvd_of_mod-eq-zero q z)) in
        let whole : d * e ≡ 1 + d * e / q * q = sym (mod-add-div' (d * e) q) ∙ ap (λ (k : ℕ). k + d * e / q * q) one in (
          e * (q - 1),
          λ _. subst (λ (k : ℕ). q ∣ k) (omega (arith, order_pos q o, ap (λ (k : ℕ). k * (q - 1)) whole)) (dvd-mul_left q (1 + d * e / q * (q - 1))),
        )

-- the same w times different a and b: if only multiples are added, w is a multiple
pub level : (q : ℕ) → Order q → (a b u v w : ℕ) → (a % q ≡ b % q → ⊥) → u + a * w ≡ v + b * w → q ∣ u → q ∣ v → q ∣ w
level q o a b u v w ne e hu hv =
    factor q o (b + a * (q - 1)) w (λ h. ne (no_step q a a b (a * (q - 1)) (omega (arith, around)) (mod-eq-zero_of_dvd q h)))
    (rest q (subst (λ (k : ℕ). q ∣ k) all (dvd-add q hu (dvd-mul_left q (a * w)))) hv)
  where
    around : a * q ≡ a * (q - 1) + a
    around = ap (λ (k : ℕ). a * k) (omega arith) ∙ mul-suc a (q - 1)

    all : u + a * w * q ≡ v + (b + a * (q - 1)) * w
    all = omega (arith, e, ap (λ (k : ℕ). k * w) around)

-- equations modulo q are added and multiplied
pub add_mods : (q a b x y : ℕ) → a % q ≡ x % q → b % q ≡ y % q → (a + b) % q ≡ (x + y) % q
add_mods q a b x y e f = add-mod a b q ∙ ap₂ (λ (k l : ℕ). (k + l) % q) e f ∙ sym (add-mod x y q)

pub mul_mods : (q a b x y : ℕ) → a % q ≡ x % q → b % q ≡ y % q → a * b % q ≡ x * y % q
mul_mods q a b x y e f = left a x b e ∙ ap (λ (k : ℕ). k % q) (mul_comm x b) ∙ left b y x f ∙ ap (λ (k : ℕ). k % q) (mul_comm y x)
  where
    left : (a x b : ℕ) → a % q ≡ x % q → a * b % q ≡ x * b % q
    left a x b e = sym (mod_mul_mod a b q) ∙ ap (λ (k : ℕ). k * b % q) e ∙ mod_mul_mod x b q

pub sum_mods : (q n : ℕ) (f g : ℕ → ℕ) → ((i : ℕ) → f i % q ≡ g i % q) → sum n f % q ≡ sum n g % q
unfolding sum
sum_mods q zero f g h = refl
sum_mods q (suc n) f g h = add_mods q _ _ _ _ (sum_mods q n f g h) (h n)
