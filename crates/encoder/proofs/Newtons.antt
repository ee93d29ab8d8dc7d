-- One stage of the interpolation: divide, interpolate what is left, join.
use mathlib.Core.Path.{◌≡◌, refl, sym, ap, ap₂, ◌∙◌, fun_ext}
use mathlib.Core.List.{List}
use mathlib.Core.Logic.{⊎_elim}
use Prim.Native.Nat.{ℕ, suc, ◌+◌, ◌-◌, ◌≤◌, ◌<◌}
use native.Mathlib.Nat.{add-zero, add-suc, eq-or-lt_of_le, le_refl, not-suc-le-zero}
use native.Mathlib.Omega.{arith}
use Rattle.parity.specs.Xor.{◌⊕◌}
use Rattle.parity.specs.Cyclic.{eval}
use Rattle.parity.proofs.Xors.{lt_pow}
use Rattle.parity.proofs.Cycles.{shift, both}
use Rattle.parity.proofs.Interpolate.{newton_root, newton_step}
use Rattle.gtb.specs.declared.Shape.{Shape}
use Rattle.gtb.specs.Rows.{shift_of}
use Rattle.encoder.specs.Steps.{row, Sound, Ready, Divided, Joined, Interpolated}
use Rattle.encoder.proofs.Divides.{sound_same}

-- a sound row that takes another in
sound_join : (s : Shape) (f g : ℕ → ℕ) (x : ℕ) → Sound s f → Sound s g → Sound s (λ c. f c ⊕ g (c + x))
sound_join s f g x hf hg = record {
  cyclic = both s.q f (λ c. g (c + x)) hf.cyclic (shift s.q g hg.cyclic x);
  width = λ c. lt_pow s.b (f c) (g (c + x)) (hf.width c) (hg.width (c + x));
}

-- one row is its own value at every shift
pub interpolated_last : (s : Shape) (k : ℕ) (w : List ℕ) → Ready s k w → s.n ≤ k + 2 → Interpolated s k w w
interpolated_last s k w h last = record {
  size = refl;
  upto = λ r l c. refl;
  past = λ r l c. refl;
  sound = h.sound;
  value = λ t l lt c.
      let one : s.n - 1 - k ≡ 1 = omega (arith, h.first) in
      let same : t ≡ k = omega arith in
      rw (one, same) (newton_root 0 rows rows (shift_of s k) (λ i l. absurd (not-suc-le-zero l)) (λ c. refl) c ∙ ap (λ (r : ℕ). row s.q w r c) (add-zero k));
}
  where
    rows : ℕ → ℕ → ℕ
    rows i = row s.q w (k + i)

module _ (s : Shape) (k : ℕ) (w w₁ : List ℕ) (h : Ready s k w) (more : k + 2 < s.n) (divided : Divided s k (s.n - 1) w w₁)
    (w₂ w₃ : List ℕ) (inner : Interpolated s (k + 1) w₁ w₂) (joined : Joined s.q (shift_of s k) k (s.n - 2) w₂ w₃) where
  -- row k is as it was until the rows are joined
  root_same : (c : ℕ) → row s.q w₂ k c ≡ row s.q w k c
  root_same c = inner.upto k (omega arith) c ∙ divided.upto k (le_refl k) c

  inner_sound : (r : ℕ) → k ≤ r → suc r < s.n → Sound s (row s.q w₂ r)
  inner_sound r l lt =
      ⊎_elim (λ (e : k ≡ r). rw (← e) (sound_same s (row s.q w k) (row s.q w₂ k) root_same (h.sound k (le_refl k) h.first)))
      (λ (l' : k < r). inner.sound r (omega arith) lt) (eq-or-lt_of_le l)

  joined_sound : (r : ℕ) → k ≤ r → suc r < s.n → Sound s (row s.q w₃ r)
  joined_sound r l lt =
      ⊎_elim (λ (e : suc (suc r) ≡ s.n). sound_same s (row s.q w₂ r) (row s.q w₃ r) (joined.past r (omega arith)) (inner_sound r l lt))
      (λ (l' : suc (suc r) < s.n).
      sound_same s (λ c. row s.q w₂ r c ⊕ row s.q w₂ (suc r) (c + shift_of s k)) (row s.q w₃ r) (joined.step r l (omega arith))
      (sound_join s (row s.q w₂ r) (row s.q w₂ (suc r)) (shift_of s k) (inner_sound r l lt) (inner_sound (suc r) (omega arith) l')))
      (eq-or-lt_of_le lt)

  -- m rows after row k, before they are joined and afterwards
  module _ (m : ℕ) (hm : k + 2 + m ≡ s.n) where
    rows₂ : ℕ → ℕ → ℕ
    rows₂ i = row s.q w₂ (k + i)

    rows₃ : ℕ → ℕ → ℕ
    rows₃ i = row s.q w₃ (k + i)

    join_step : (i : ℕ) → i < m → (c : ℕ) → rows₃ i c ≡ rows₂ i c ⊕ rows₂ (suc i) (c + shift_of s k)
    unfolding rows₂ rows₃
    join_step i l c =
        joined.step (k + i) (omega arith) (omega arith) c
        ∙ ap (λ (r : ℕ). row s.q w₂ (k + i) c ⊕ row s.q w₂ r (c + shift_of s k)) (sym (add-suc k i))

    join_last : (c : ℕ) → rows₃ m c ≡ rows₂ m c
    unfolding rows₂ rows₃
    join_last c = joined.past (k + m) (omega arith) c

    first_row : (c : ℕ) → rows₂ 0 c ≡ row s.q w k c
    unfolding rows₂
    first_row c = ap (λ (r : ℕ). row s.q w₂ r c) (add-zero k) ∙ root_same c

    -- what is left takes the divided values
    later : (t : ℕ) → k < t → suc t < s.n → (c : ℕ) → eval m (λ i. rows₂ (suc i)) (shift_of s t) c ≡ row s.q w₁ t c
    unfolding rows₂
    later t l lt c =
        ap₂ (λ (n : ℕ) (f : ℕ → ℕ → ℕ). eval n f (shift_of s t) c) (omega arith) (fun_ext (λ i. ap (row s.q w₂) (omega arith)))
        ∙ inner.value t (omega arith) lt c

    value_at : (t : ℕ) → k ≤ t → suc t < s.n → (c : ℕ) → eval (suc m) rows₃ (shift_of s t) c ≡ row s.q w t c
    value_at t l lt c =
        ⊎_elim
        (λ (e : k ≡ t). rw (← e) (newton_root m rows₂ rows₃ (shift_of s k) join_step join_last c ∙ first_row c))
        (λ (l' : k < t).
        newton_step m rows₂ rows₃ (shift_of s k) join_step join_last (shift_of s t) (row s.q w t) (row s.q w₁ t) (later t l' lt)
        (λ c. divided.step t l' (omega arith) c ∙ ap (λ (x : ℕ). row s.q w t c ⊕ x) (sym (first_row c))) c)
        (eq-or-lt_of_le l)

  pub interpolated_more : Interpolated s k w w₃
  unfolding rows₃
  interpolated_more = record {
    size = joined.size ∙ inner.size ∙ divided.size;
    upto = λ r l c. joined.upto r l c ∙ inner.upto r (omega arith) c ∙ divided.upto r (omega arith) c;
    past = λ r l c. joined.past r (omega arith) c ∙ inner.past r l c ∙ divided.past r (omega arith) c;
    sound = joined_sound;
    value = λ t l lt c. rw count (value_at (s.n - (k + 2)) (omega arith) t l lt c);
  }
    where
      count : s.n - 1 - k ≡ suc (s.n - (k + 2))
      count = omega arith
