-- Rows divided by a root.
use mathlib.Core.Path.{◌≡◌, sym, ap, ap₂, ◌∙◌, subst, fun_ext}
use mathlib.Core.List.{List}
use Prim.Native.Nat.{ℕ, suc, ◌+◌, ◌*◌, ◌-◌, ◌%◌, ◌≤◌, ◌<◌}
use native.Mathlib.Nat.{one-mul, add_comm, mod-mod, le_refl, le_of_lt, zero-add, mod-add-mod, mod-lt}
use native.Mathlib.Omega.{arith}
use lib.ListN.{length}
use Rattle.parity.specs.Xor.{◌⊕◌, xor_sum}
use Rattle.parity.specs.Cyclic.{Order, walk}
use Rattle.parity.proofs.Xors.{lt_pow}
use Rattle.parity.proofs.XorSums.{cong}
use Rattle.parity.proofs.Cycles.{wrap, both}
use Rattle.parity.proofs.Modular.{no_step}
use Rattle.parity.proofs.Walk.{walk_period, quotient, divided}
use Rattle.parity.proofs.Walk as parity
use Rattle.gtb.specs.declared.Shape.{Shape}
use Rattle.gtb.specs.Shape.{Lawful}
use Rattle.gtb.specs.Square.{at}
use Rattle.gtb.proofs.Bounds.{bounds, positive}
use Rattle.gtb.proofs.Sizes.{sizes}
use Rattle.gtb.proofs.Turns.{row_in}
use Rattle.gtb.proofs.Slopes.{shift_apart}
use Rattle.gtb.specs.Rows.{shift_of}
use Rattle.encoder.specs.Steps.{row, difference, Walked, Sound, Ready, Divisible, RowDivided, Divided}
use Rattle.parity.specs.Lists.{Written}
use Rattle.encoder.proofs.Rows.{written_row, written_other}
use Rattle.encoder.proofs.Bounds.{shift_bounds}

-- the numbers of a division, as the code needs them
pub record Numbers (s : Shape) (k t : ℕ) (w : List ℕ) : Type 0 where
  pub low : 1 ≤ s.q
  pub high : s.q ≤ 31
  pub root_low : 1 ≤ shift_of s k
  pub root_high : shift_of s k ≤ s.q
  pub shift_high : shift_of s t ≤ s.q
  pub root_fits : k * s.q + s.q ≤ length w
  pub row_fits' : t * s.q + s.q ≤ length w
  pub wide : length w ≤ 961

pub numbers : (s : Shape) → Lawful s → (k t : ℕ) (w : List ℕ) → Divisible s k t w → Numbers s k t w
numbers s law k t w h =
    let bd = bounds s law in
    let root = shift_bounds s law k (omega arith) in
    let shift = shift_bounds s law t h.last in
    let z = sizes s law in
    record {
      low = omega arith;
      high = bd.q31;
      root_low = root.0;
      root_high = root.1;
      shift_high = shift.1;
      root_fits = rw h.size (row_in k s.q (omega arith));
      row_fits' = rw h.size (row_in t s.q (omega arith));
      wide = omega arith;
    }

-- equal rows are sound together
pub sound_same : (s : Shape) (f g : ℕ → ℕ) → ((c : ℕ) → g c ≡ f c) → Sound s f → Sound s g
sound_same s f g e h = subst (Sound s) (fun_ext (λ c. sym (e c))) h

-- what is stored in row t is the quotient, moved by z
module _ (q : ℕ) (pos : 0 < q) (t z δ e sum : ℕ) (inv : δ * e % q ≡ 1) (d : ℕ → ℕ) (w w' v : List ℕ)
    (walked : Walked q δ d v) (total : sum ≡ xor_sum q (λ i. at v (0 + i))) (written : Written (t * q) q (λ c. at v ((c + z) % q) ⊕ sum) w w') where
  stored_total : sum ≡ xor_sum q (walk q δ e d)
  stored_total = total ∙ cong q (λ i. at v (0 + i)) (walk q δ e d) (λ i l. ap (at v) (zero-add i) ∙ walked.entry e inv i l)

  stored_quotient : (c : ℕ) → row q w' t c ≡ quotient q δ e d (c + z)
  unfolding quotient
  stored_quotient c =
      written_row q pos t (λ c. at v ((c + z) % q) ⊕ sum) w w' written c
      ∙ ap₂ (λ (a b : ℕ). a ⊕ b)
      (ap (at v) (mod-add-mod c q z) ∙ walked.entry e inv ((c + z) % q) (mod-lt (c + z) pos) ∙ wrap q (walk q δ e d) (walk_period q δ e d pos) (c + z))
      stored_total

pub row_divided : (s : Shape) → Lawful s → (k t : ℕ) (w w' v : List ℕ) (z δ sum : ℕ) → Divisible s k t w
    → z ≡ s.q - shift_of s k → δ ≡ (z + shift_of s t) % s.q → Walked s.q δ (difference s.q w k t) v
    → sum ≡ xor_sum s.q (λ i. at v (0 + i)) → Written (t * s.q) s.q (λ c. at v ((c + z) % s.q) ⊕ sum) w w'
    → RowDivided s k t w w'
row_divided s law k t w w' v z δ sum h hz hδ walked total written = record {
  size = written.size;
  others = written_other q pos t (λ c. at v ((c + z) % q) ⊕ sum) w w' written;
  sound = sound_same s g (row q w' t) is (record { cyclic = division.cyclic; width = division.width });
  step = λ c. ap₂ (λ (a b : ℕ). a ⊕ b) (is (c + shift_of s t)) (is (c + shift_of s k)) ∙ division.step c;
}
  where
    q : ℕ
    q = s.q

    d : ℕ → ℕ
    d = difference q w k t

    o : Order q
    o = (bounds s law).order

    pos : 0 < q
    pos = positive s law

    around : shift_of s k + z ≡ 1 * q
    around = let (low, high) = shift_bounds s law k (omega (arith, h.after, h.last)) in omega (arith, one-mul q)

    -- δ is the step between the shifts
    is_step : (shift_of s t + z) % q ≡ δ % q
    is_step = ap (λ (x : ℕ). x % q) (add_comm (shift_of s t) z) ∙ sym (mod-mod (z + shift_of s t) q) ∙ ap (λ (x : ℕ). x % q) (sym hδ)

    inverse : (e : ℕ) × (δ * e % q ≡ 1)
    inverse =
        o.inverse δ
        (λ zero.
        (shift_apart s law).apart k t (omega (arith, h.after, h.last)) (omega (arith, h.last)) (λ same. omega (arith, h.after))
        (no_step q 1 (shift_of s k) (shift_of s t) z around (is_step ∙ zero)))

    g : ℕ → ℕ
    g c = quotient q δ inverse.0 d (c + z)

    division : parity.Divided q s.b (shift_of s k) (shift_of s t) d g
    division =
        divided q o s.b 1 (shift_of s k) (shift_of s t) z δ inverse.0 d around is_step inverse.1
        (both q (row q w t) (row q w k) h.value.cyclic h.root.cyclic)
        (λ c. lt_pow s.b (row q w t c) (row q w k c) (h.value.width c) (h.root.width c))

    is : (c : ℕ) → row q w' t c ≡ g c
    is = stored_quotient q pos t z δ inverse.0 sum inverse.1 d w w' v walked total written

module _ (s : Shape) (k : ℕ) (w : List ℕ) (h : Ready s k w) (t : ℕ) (after : k < t) (last : suc t < s.n) (w' : List ℕ) (so_far : Divided s k t w w') where
  -- row t has not been touched yet, nor row k
  pub divisible : Divisible s k t w'
  divisible = record {
    size = so_far.size ∙ h.size;
    after = after;
    last = last;
    root = sound_same s (row s.q w k) (row s.q w' k) (so_far.upto k (le_refl k)) (h.sound k (le_refl k) h.first);
    value = sound_same s (row s.q w t) (row s.q w' t) (so_far.past t (le_refl t)) (h.sound t (le_of_lt after) last);
  }
