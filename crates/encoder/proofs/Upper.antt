-- The upper rows before they are interpolated: what the directions show of the symbols that were put down, which are sound rows.
use mathlib.Core.Path.{◌≡◌, refl, sym, ap, ◌∙◌}
use mathlib.Core.Bool.{true}
use mathlib.Core.List.{List}
use Prim.Native.Nat.{ℕ, suc, ◌+◌, ◌-◌, ◌*◌, ◌%◌, ◌^◌, ◌≤◌, ◌<◌}
use native.Mathlib.Nat.{zero-add, zero-mul, one-mul, suc-mul, mul-le-mul_right, mod-lt, add-mul-mod_self_left}
use native.Mathlib.Decide.{dec_lt}
use native.Mathlib.Omega.{arith}
use lib.Arith.{digits_lt}
use lib.ListN.{length}
use lib.Pow.{pow_pos}
use Rattle.parity.specs.Xor.{xor_sum}
use Rattle.parity.specs.Cyclic.{eval}
use Rattle.parity.proofs.XorSums.{none, cong, bound}
use Rattle.parity.proofs.Newton.{eval_cyclic}
use Rattle.gtb.specs.declared.Shape.{Shape}
use Rattle.gtb.specs.Shape.{Lawful, word_length, slope_of}
use Rattle.gtb.specs.Square.{at, narrow, Syndromes}
use Rattle.gtb.proofs.Bounds.{bounds, positive}
use Rattle.gtb.proofs.Words.{narrow_at}
use Rattle.gtb.specs.Rows.{shift_of, row_of, lower_row}
use Rattle.gtb.proofs.Rounds.{syndrome_eval, lower_cyclic, lower_width}
use Rattle.encoder.specs.Steps.{row, Placed, Raised, Sound, Ready}
use Rattle.parity.specs.Lists.{Written}
use Rattle.encoder.proofs.Divides.{sound_same}

module _ (s : Shape) (h : Lawful s) where
  -- ---- the rows that were put down
  zero_sound : Sound s (λ c. 0)
  zero_sound = record { cyclic = record { period = λ c. refl; total = none s.q (λ c. 0) (λ c l. refl) }; width = λ c. pow_pos s.b }

  lower_sound : (g : ℕ → ℕ) → ((j : ℕ) → g j < 2 ^ s.b) → Sound s (λ c. lower_row (s.q - 1) g (c % s.q))
  lower_sound g small = record { cyclic = lower_cyclic s.q g (positive s h); width = λ c. lower_width (s.q - 1) s.b g small (c % s.q) }

  module _ (symbols w : List ℕ) (small : narrow s.b symbols ≡ true) (placed : Placed s symbols w) where
    pub placed_sound : (r : ℕ) → r < s.q → Sound s (row s.q w r)
    placed_sound r l =
        elim (dec_lt (suc r) s.n) [
          | yes up ↦ sound_same s (λ c. 0) (row s.q w r) (placed.upper r up) zero_sound
          | no down ↦
              let i : s.n - 1 + (r - (s.n - 1)) ≡ r = omega arith in
              rw i at (sound_same s _ (row s.q w (s.n - 1 + (r - (s.n - 1)))) (placed.lower (r - (s.n - 1)) (omega arith)) (lower_sound _ (λ j. narrow_at s.b symbols small _)))
        ]

  -- ---- the syndromes as values of these rows
  eval_sound : (w : List ℕ) → ((r : ℕ) → r < s.q → Sound s (row s.q w r)) → (x : ℕ) → Sound s (eval s.q (row s.q w) x)
  unfolding eval
  eval_sound w sound x = record {
    cyclic = eval_cyclic s.q s.q (row s.q w) x (λ r l. (sound r l).cyclic);
    width = λ c. bound s.b s.q (λ r. row s.q w r (c + x * r)) (λ r l. (sound r l).width (c + x * r));
  }

  -- ---- the syndromes copied to the upper rows
  module _ (w w₁ v : List ℕ) (syn : Syndromes s w v) (copied : Written 0 ((s.n - 1) * s.q) (λ i. at v (s.q + i)) w w₁) where
    copied_upper : (t : ℕ) → suc t < s.n → (c : ℕ) → row s.q w₁ t c ≡ eval s.q (row s.q w) (shift_of s t) c
    unfolding row_of
    copied_upper t l c =
        ap (at w₁) (sym (zero-add (t * s.q + c % s.q)))
        ∙ copied.inside (t * s.q + c % s.q) (digits_lt (omega arith) (mod-lt c (positive s h)))
        ∙ ap (at v) (omega (arith, suc-mul t s.q))
        ∙ syn.entry (suc t) (c % s.q) l (mod-lt c (positive s h)) ∙ syndrome_eval s h (at w) t l c

    copied_lower : (r : ℕ) → s.n ≤ suc r → (c : ℕ) → row s.q w₁ r c ≡ row s.q w r c
    unfolding row_of
    copied_lower r l c =
        let after : (s.n - 1) * s.q ≤ r * s.q = mul-le-mul_right s.q (omega arith) in
        copied.above (r * s.q + c % s.q) (omega arith)

    pub raised_copied : Raised s w w₁
    raised_copied = record { size = copied.size; upper = copied_upper; lower = copied_lower }

  -- ---- the rows stacked on the first: a shift of q moves nothing
  module _ (w w₁ : List ℕ) (two : s.n ≡ 2) (flat : slope_of s 1 ≡ 0) (stacked : Written 0 s.q (λ c. xor_sum s.q (λ r. at w (r * s.q + c))) w w₁) where
    moved : (c r : ℕ) → (c + shift_of s 0 * r) % s.q ≡ c % s.q
    unfolding shift_of
    moved c r =
        let whole : s.q - slope_of s 1 ≡ s.q = omega (arith, flat) in
        ap (λ (x : ℕ). (c + x * r) % s.q) whole ∙ add-mul-mod_self_left c s.q r

    stacked_first : (c : ℕ) → row s.q w₁ 0 c ≡ eval s.q (row s.q w) (shift_of s 0) c
    unfolding row_of eval
    stacked_first c =
        ap (at w₁) (omega (arith, zero-mul s.q)) ∙ stacked.inside (c % s.q) (mod-lt c (positive s h))
        ∙ cong s.q _ _ (λ r l. ap (λ (k : ℕ). at w (r * s.q + k)) (sym (moved c r)))

    stacked_lower : (r : ℕ) → s.n ≤ suc r → (c : ℕ) → row s.q w₁ r c ≡ row s.q w r c
    unfolding row_of
    stacked_lower r l c =
        let after : 1 * s.q ≤ r * s.q = mul-le-mul_right s.q (omega (arith, two)) in
        stacked.above (r * s.q + c % s.q) (omega (arith, one-mul s.q))

    pub raised_stacked : Raised s w w₁
    raised_stacked = record {
      size = stacked.size;
      upper = λ t l c. let e : t ≡ 0 = omega (arith, two) in rw e (stacked_first c);
      lower = stacked_lower;
    }

  -- ---- either way
  pub raised_ready : (w w₁ : List ℕ) → Raised s w w₁ → length w ≡ word_length s → ((r : ℕ) → r < s.q → Sound s (row s.q w r)) → Ready s 0 w₁
  raised_ready w w₁ raised size sound = record {
    size = raised.size ∙ size;
    first = let b = bounds s h in omega arith;
    sound = λ t from l. sound_same s (eval s.q (row s.q w) (shift_of s t)) (row s.q w₁ t) (raised.upper t l) (eval_sound w sound (shift_of s t));
  }
