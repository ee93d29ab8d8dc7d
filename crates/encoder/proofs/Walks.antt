-- A walk round the cycle, one step of the loop at a time.
use mathlib.Core.Path.{◌≡◌, refl, sym, ap, ap₂, ◌∙◌}
use mathlib.Core.List.{List}
use Prim.Native.Nat.{ℕ, ◌+◌, ◌-◌, ◌*◌, ◌%◌, ◌≤◌, ◌<◌}
use native.Mathlib.Nat.{mul-zero, mul-suc, mod-lt, mod-eq_of_lt}
use native.Mathlib.Numerals.{add-one}
use native.Mathlib.Decide.{ℕ_discrete}
use native.Mathlib.Omega.{arith}
use lib.ListN.{length, set, replicate, length-set}
use lib.Seq.{get_or-set_same, get_or-set_other}
use Rattle.parity.specs.Xor.{◌⊕◌}
use Rattle.parity.specs.Cyclic.{Cyclic, walk}
use Rattle.parity.proofs.Cycles.{wrap, same}
use Rattle.parity.proofs.Walk.{walk_start, walk_period, forth, walk_step}
use Rattle.gtb.specs.Square.{at}
use Rattle.gtb.proofs.Turns.{turn_more}
use Rattle.gtb.specs.Rows.{row_of}
use Rattle.encoder.specs.Steps.{Walked, difference}

-- i steps are done
pub record Walking (q δ : ℕ) (d : ℕ → ℕ) (i : ℕ) (v : List ℕ) : Type 0 where
  pub size : length v ≡ 32
  pub entry : (e : ℕ) → δ * e % q ≡ 1 → (j : ℕ) → j ≤ i → at v (δ * j % q) ≡ walk q δ e d (δ * j)

module _ (q δ : ℕ) (d : ℕ → ℕ) (pos : 0 < q) where
  pub walking_none : Walking q δ d 0 (replicate 32 0)
  walking_none = record {
    size = refl;
    entry = λ e inv j l.
        let start : δ * j ≡ 0 = ap (λ (k : ℕ). δ * k) (omega arith) ∙ mul-zero δ in
        rw start (ap (at (replicate 32 0)) (mod-eq_of_lt pos) ∙ sym (walk_start q δ e d));
  }

  -- equal modulo q, equal places of the walk
  alike : (e x y : ℕ) → x % q ≡ y % q → walk q δ e d x ≡ walk q δ e d y
  alike e x y h = same q (walk q δ e d) (walk_period q δ e d pos) x y h

  pub walking_more : (i u p : ℕ) (v : List ℕ) (x : ℕ) → q ≤ 31 → Cyclic q d → u ≡ δ * i % q → p ≡ (u + δ) % q → x ≡ at v u ⊕ d u
      → Walking q δ d i v → Walking q δ d (i + 1) (set v p x)
  walking_more i u p v x le cyc hu hp is h = record {
    size = length-set v p x ∙ h.size;
    entry = λ e inv j l. reached e inv j l (ℕ_discrete (δ * j % q) p);
  }
    where
      hp' : p ≡ δ * (i + 1) % q
      hp' = turn_more δ i q u p hu hp

      -- the value that is stored is that of the walk one step on
      stored : (e : ℕ) → δ * e % q ≡ 1 → x ≡ walk q δ e d (δ * (i + 1))
      stored e inv =
          is ∙ ap₂ (λ (a b : ℕ). a ⊕ b) (ap (at v) hu ∙ h.entry e inv i (omega arith)) (ap d hu ∙ wrap q d cyc.period (δ * i))
          ∙ sym (walk_step q δ e d pos inv cyc (δ * i)) ∙ ap (walk q δ e d) (sym (ap (λ (k : ℕ). δ * k) (add-one i) ∙ mul-suc δ i))

      reached : (e : ℕ) → δ * e % q ≡ 1 → (j : ℕ) → j ≤ i + 1 → Dec (δ * j % q ≡ p) → at (set v p x) (δ * j % q) ≡ walk q δ e d (δ * j)
      reached e inv j l (yes here) =
          ap (at (set v p x)) here ∙ get_or-set_same v p x 0 (omega (arith, mod-lt (u + δ) pos, h.size)) ∙ stored e inv
          ∙ alike e (δ * (i + 1)) (δ * j) (sym hp' ∙ sym here)
      reached e inv j l (no there) =
          let other : j ≡ i + 1 → ⊥ = λ e'. there (ap (λ (k : ℕ). δ * k % q) e' ∙ sym hp') in
          get_or-set_other v p (δ * j % q) x 0 there ∙ h.entry e inv j (omega arith)

  -- q - 1 steps meet each place
  pub walking_all : (v : List ℕ) → Walking q δ d (q - 1) v → Walked q δ d v
  walking_all v h = record {
    size = h.size;
    entry = λ e inv u l.
        let met : δ * (u * e % q) % q ≡ u = forth q δ e d pos inv u l in
        ap (at v) (sym met) ∙ h.entry e inv (u * e % q) (omega (arith, mod-lt (u * e) pos))
        ∙ alike e (δ * (u * e % q)) u (met ∙ sym (mod-eq_of_lt l));
  }

-- what a step takes up
pub taken_up : (q : ℕ) (w : List ℕ) (k t u : ℕ) → u < q → at w (t * q + u) ⊕ at w (k * q + u) ≡ difference q w k t u
unfolding row_of
taken_up q w k t u l = ap (λ (c : ℕ). at w (t * q + c) ⊕ at w (k * q + c)) (sym (mod-eq_of_lt l))
