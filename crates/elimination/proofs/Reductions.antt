-- One column more of an elimination.
use mathlib.Core.Path.{◌≡◌, refl, sym, ap, ap₂, ◌∙◌}
use mathlib.Core.Bool.{Bool, true, false, not, xor, ◌&&◌}
use mathlib.Core.Logic.{inl, inr, ⊎_elim}
use Prim.Native.Nat.{ℕ, ◌+◌, ◌^◌, ◌<◌, ◌≤◌}
use native.Mathlib.Nat.{not-suc-le-zero}
use native.Mathlib.Decide.{dec_lt}
use native.Mathlib.Omega.{arith}
use lib.Dec.{eqb}
use borrow.Author.Count.{below_more}
use borrow.Author.Tests.{eq-eqb, ne_eqb, eqb-true, eqb-false}
use Rattle.parity.specs.Xor.{◌⊕◌, when}
use Rattle.parity.proofs.Xors.{zero_r, lt_pow, when_lt, twice}
use Rattle.parity.proofs.Tests.{either, and_no_left, and_no_right, and_both, not_of_true, not_of_false}
use Rattle.elimination.specs.System.{row_sum}
use Rattle.elimination.specs.Steps.{lifted, Combined, Extension, Kernel, Reduced}
use Rattle.elimination.proofs.Sums.{row_cong, row_add, row_none, row_one, row_bound}
use Rattle.elimination.proofs.Systems.{xor_none, when_off, combined_row, combined_same}

-- before the first column
pub reduced_none : (p r : ℕ) (m : ℕ → ℕ → Bool) → Reduced p r 0 0 m
reduced_none p r m = record {
  few = omega arith;
  fits = omega arith;
  zeros = λ i j lu lr lj. absurd (not-suc-le-zero lj);
  extends = λ w y. record { x = y; same = λ j l. refl; solves = record { row = λ i l. absurd (not-suc-le-zero l) }; narrow = λ b hw hy. hy };
  unit = λ e i j li lj. absurd (not-suc-le-zero li);
  free = λ l. absurd (not-suc-le-zero l);
}

-- a column that no row from u on has: its unknown is free
module _ {p r k u : ℕ} {m : ℕ → ℕ → Bool} (h : Reduced p r k u m) (none : (i : ℕ) → u ≤ i → i < r → m i k ≡ false) where
  -- the unknown at k is 1, those after it 0
  free_kernel : Kernel p (k + 1) u m
  unfolding when
  free_kernel =
      let y : ℕ → ℕ = λ j. when (eqb j k) 1 in
      let x = h.extends (λ i. 0) y in
      record {
        h = x.x;
        small = x.narrow 1 (record { below = λ i l. omega arith }) (λ j. when_lt 1 (eqb j k) 1 (omega arith));
        ends = λ j l. x.same j (omega arith) ∙ ap (λ (b : Bool). when b 1) (ne_eqb j k (λ e. omega arith));
        solves = x.solves;
        place = k;
        inside = omega arith;
        set = x.same k (omega arith) ∙ ap (λ (b : Bool). when b 1) (eq-eqb k k refl);
      }

  pub reduced_free : Reduced p r (k + 1) u m
  reduced_free = record {
    few = omega (arith, h.few);
    fits = h.fits;
    zeros = λ i j lu lr. below_more (λ n. m i n ≡ false) k (λ n ln. h.zeros i n lu lr ln) (none i lu lr) j;
    extends = λ w y.
        let x = h.extends w y in
        record { x = x.x; same = λ j l. x.same j (omega arith); solves = x.solves; narrow = x.narrow };
    unit = λ e. absurd (omega (arith, h.few));
    free = λ l. free_kernel;
  }

-- y with an unknown at k that row u asks for
abbrev asked : ℕ → (ℕ → Bool) → ℕ → ℕ → (ℕ → ℕ) → ℕ → ℕ
asked p row k value y j = y j ⊕ when (eqb j k) (row_sum p row y ⊕ value)

-- a row that has the column loses it
xor_clear : (a : Bool) {e b : Bool} → e ≡ a → b ≡ true → xor a (e && b) ≡ false
unfolding xor
xor_clear true he hb = ap₂ (λ (e b : Bool). xor true (e && b)) he hb
xor_clear false he hb = ap₂ (λ (e b : Bool). xor false (e && b)) he hb

-- row u has column k, and is XORed onto each row after it that has it
module _ {p r k u : ℕ} {m : ℕ → ℕ → Bool} {v : ℕ → ℕ} {m' : ℕ → ℕ → Bool} {v' : ℕ → ℕ} (h : Reduced p r k u m) (lk : k < p) (lu : u < r)
    (pivot : m u k ≡ true) (e : ℕ → Bool) (above : (i : ℕ) → i ≤ u → e i ≡ false) (others : (i : ℕ) → i < r → u < i → e i ≡ m i k)
    (c : Combined p u e m v m' v') where
  asked_row : (n : ℕ) (y : ℕ → ℕ) → row_sum p (m u) (asked p (m u) k n y) ≡ n
  unfolding when
  asked_row n y =
      let s = row_sum p (m u) y in
      row_add p (m u) y (λ j. when (eqb j k) (s ⊕ n))
      ∙ ap (λ (a : ℕ). s ⊕ a) (row_one p (m u) k (s ⊕ n) lk ∙ ap (λ (b : Bool). when b (s ⊕ n)) pivot)
      ∙ twice s n

  asked_narrow : (b n : ℕ) (y : ℕ → ℕ) → n < 2 ^ b → ((j : ℕ) → y j < 2 ^ b) → (j : ℕ) → asked p (m u) k n y j < 2 ^ b
  asked_narrow b n y hn hy j =
      lt_pow b (y j) (when (eqb j k) (row_sum p (m u) y ⊕ n)) (hy j)
      (when_lt b (eqb j k) (row_sum p (m u) y ⊕ n) (lt_pow b (row_sum p (m u) y) n (row_bound b p (m u) y hy) hn))

  before : (j : ℕ) → j < k → m u j ≡ false
  before j l = h.zeros u j (omega arith) lu l

  -- row u sees nothing before k
  pivot_sum : (x y : ℕ → ℕ) → ((j : ℕ) → k ≤ j → x j ≡ y j) → row_sum p (m u) x ≡ row_sum p (m u) y
  unfolding when
  pivot_sum x y same =
      row_cong p (m u) (m u) x y
      (λ j l. elim (dec_lt j k) [
        | yes s ↦ ap (λ (b : Bool). when b (x j)) (before j s) ∙ sym (ap (λ (b : Bool). when b (y j)) (before j s))
        | no s ↦ ap (λ (a : ℕ). when (m u j) a) (same j (omega arith))
      ])

  -- the rows up to u stay, and so do the columns before k; the rows after u lose column k
  upper_row : (i : ℕ) (x : ℕ → ℕ) → i ≤ u → row_sum p (m' i) x ≡ row_sum p (m i) x
  upper_row i x l = combined_row c i x ∙ when_off (row_sum p (m i) x) (row_sum p (m u) x) (above i l)

  stays : (i j : ℕ) → j < k → m' i j ≡ m i j
  stays i j l = c.cell i j (omega arith) ∙ xor_none (m i j) (and_no_right (e i) (before j l))

  gone : (i : ℕ) → i < r → u < i → m' i k ≡ false
  gone i l lt = c.cell i k lk ∙ xor_clear (m i k) (others i l lt) pivot

  pivot_extends : (w y : ℕ → ℕ) → Extension p (k + 1) (u + 1) m' w y
  unfolding when
  pivot_extends w y =
      let y' = asked p (m u) k (w u) y in
      let x = h.extends w y' in
      record {
        x = x.x;
        same = λ j l.
            x.same j (omega arith) ∙ ap (λ (b : Bool). y j ⊕ when b (row_sum p (m u) y ⊕ w u)) (ne_eqb j k (λ q. omega arith))
            ∙ zero_r (y j);
        solves = record {
          row =
              below_more (λ i. row_sum p (m' i) x.x ≡ w i) u
              (λ i l. upper_row i x.x (omega arith) ∙ x.solves.row i l)
              (upper_row u x.x (omega arith) ∙ pivot_sum x.x y' x.same ∙ asked_row (w u) y);
        };
        narrow = λ b hw hy.
            x.narrow b (record { below = λ i l. hw.below i (omega arith) }) (asked_narrow b (w u) y (hw.below u (omega arith)) hy);
      }

  pivot_kernel : u + 1 < k + 1 → Kernel p (k + 1) (u + 1) m'
  pivot_kernel l =
      let q = h.free (omega arith) in
      record {
        h = q.h;
        small = q.small;
        ends = λ j lj. q.ends j (omega arith);
        solves = record {
          row =
              below_more (λ i. row_sum p (m' i) q.h ≡ 0) u
              (λ i li. upper_row i q.h (omega arith) ∙ q.solves.row i li)
              (upper_row u q.h (omega arith)
              ∙ row_none p (m u) q.h (λ j lj. elim (dec_lt j k) [ yes s ↦ inl (before j s) | no s ↦ inr (q.ends j (omega arith)) ]));
        };
        place = q.place;
        inside = omega (arith, q.inside);
        set = q.set;
      }

  -- where no column was free, row i has column i and none before it
  pivot_unit : u ≡ k → (i j : ℕ) → i < u + 1 → j ≤ i → m' i j ≡ eqb i j
  pivot_unit q i j li lj =
      combined_same c i j (above i (omega arith)) (omega arith)
      ∙ below_more (λ t. (n : ℕ) → n ≤ t → m t n ≡ eqb t n) u (λ t lt n ln. h.unit q t n lt ln)
      (λ n ln. elim (dec_lt n k) [
        | yes s ↦ before n s ∙ sym (ne_eqb u n (λ z. omega arith))
        | no s ↦ let z : n ≡ k = omega arith in ap (m u) z ∙ pivot ∙ sym (eq-eqb u n (omega arith))
      ])
      i li j lj

  pub reduced_pivot : Reduced p r (k + 1) (u + 1) m'
  reduced_pivot = record {
    few = omega (arith, h.few);
    fits = omega arith;
    zeros = λ i j li lr.
        below_more (λ n. m' i n ≡ false) k (λ n ln. stays i n ln ∙ h.zeros i n (omega arith) lr ln) (gone i lr (omega arith)) j;
    extends = pivot_extends;
    unit = λ q. pivot_unit (omega arith);
    free = pivot_kernel;
  }

-- row i is XORed onto row u, or nothing if it is the same row: both have no column before k
module _ {p r k u i : ℕ} {m : ℕ → ℕ → Bool} {v : ℕ → ℕ} {m' : ℕ → ℕ → Bool} {v' : ℕ → ℕ} (h : Reduced p r k u m) (lk : k < p) (lu : u ≤ i) (li : i < r)
    (c : Combined p i (lifted u i) m v m' v') where
  upper : (t j : ℕ) → t < u → j < p → m' t j ≡ m t j
  upper t j lt lj = combined_same c t j (and_no_left (not (eqb i u)) (ne_eqb t u (λ z. omega arith))) lj

  upper_sum : (t : ℕ) (x : ℕ → ℕ) → t < u → row_sum p (m' t) x ≡ row_sum p (m t) x
  upper_sum t x lt = row_cong p (m' t) (m t) x x (λ j lj. ap (λ (b : Bool). when b (x j)) (upper t j lt lj))

  pub reduced_lift : Reduced p r k u m'
  reduced_lift = record {
    few = h.few;
    fits = h.fits;
    zeros = λ t j lt lr lj.
        c.cell t j (omega arith) ∙ xor_none (m t j) (and_no_right (lifted u i t) (h.zeros i j lu li lj)) ∙ h.zeros t j lt lr lj;
    extends = λ w y.
        let x = h.extends w y in
        record { x = x.x; same = x.same; solves = record { row = λ t lt. upper_sum t x.x lt ∙ x.solves.row t lt }; narrow = x.narrow };
    unit = λ q t j lt lj. upper t j lt (omega arith) ∙ h.unit q t j lt lj;
    free = λ l.
        let q = h.free l in
        record {
          h = q.h;
          small = q.small;
          ends = q.ends;
          solves = record { row = λ t lt. upper_sum t q.h lt ∙ q.solves.row t lt };
          place = q.place;
          inside = q.inside;
          set = q.set;
        };
  }

  -- if i is the first from u on that has column k, row u has it then
  pub lift_pivot : ((j : ℕ) → j < i → u ≤ j → m j k ≡ false) → m i k ≡ true → m' u k ≡ true
  unfolding xor
  lift_pivot fails passes =
      ⊎_elim
      (λ (t : eqb i u ≡ true).
      combined_same c u k (and_no_right (eqb u u) (not_of_true t)) lk ∙ ap (λ (n : ℕ). m n k) (sym (eqb-true i u t)) ∙ passes)
      (λ (f : eqb i u ≡ false).
      let ne = eqb-false i u f in
      c.cell u k lk
      ∙ ap₂ (λ (a b : Bool). xor a b) (fails u (omega (arith, ne)) (omega arith))
      (and_both (and_both (eq-eqb u u refl) (not_of_false f)) passes))
      (either (eqb i u))
