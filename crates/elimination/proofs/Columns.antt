-- The steps of an elimination on the rows in the scratch.
use mathlib.Core.Path.{◌≡◌, refl, sym, ap, ap₂, ◌∙◌}
use mathlib.Core.Bool.{Bool, true, false, not, xor, ◌&&◌}
use mathlib.Core.List.{List}
use mathlib.Core.Logic.{⊎_elim}
use Prim.Native.Nat.{ℕ, ◌+◌, ◌*◌, ◌/◌, ◌<◌, ◌≤◌}
use native.Mathlib.Decide.{dec_lt}
use native.Mathlib.Omega.{arith}
use lib.Dec.{eqb, ltb}
use lib.ListN.{length, set, length-set}
use borrow.Author.Tests.{ne_eqb, eqb-true, eqb-false, lt-ltb, le-ltb}
use Rattle.parity.specs.Xor.{◌⊕◌, when}
use Rattle.parity.specs.Lists.{at}
use Rattle.parity.proofs.Tests.{either, and_no_left, and_no_right, not_of_true}
use Rattle.elimination.specs.Packed.{cell_of}
use Rattle.elimination.specs.Steps.{lifted, cleared, Reduced, NoneFrom, FirstAt, RunAdded, RowsCombined, Progress}
use Rattle.elimination.proofs.Systems.{xor_none, when_off, combined_same, combined_more, combined_kept, kept_none, kept_trans}
use Rattle.elimination.proofs.Reductions.{reduced_none, reduced_free, reduced_lift, lift_pivot, reduced_pivot}
use Rattle.elimination.proofs.Cells.{added_cell, added_value}

-- one row
pub joined_one : {S p s i k : ℕ} {old new values : List ℕ} → p ≤ 32 * S → length values ≡ 248 → i < 248 → k < p
    → ((j : ℕ) → j < k → cell_of S old s j ≡ false) → RunAdded (i * S) (s * S) (k / 32) ((p + 31) / 32) old new
    → RowsCombined S p s (λ t. eqb t i) old values new (set values i (at values i ⊕ at values s))
joined_one {S} {s = s} {i} {values = values} fits size li lk zeros h = record {
  size = h.size;
  sizes = length-set values i (at values i ⊕ at values s) ∙ size;
  rows = record {
    cell = added_cell S s i fits lk zeros h;
    value = λ t. added_value values i (at values s) t (omega arith);
  };
}

-- no row
pub joined_none : {S p s : ℕ} (e : ℕ → Bool) {xs values : List ℕ} → length values ≡ 248 → ((t : ℕ) → e t ≡ false) → RowsCombined S p s e xs values xs values
joined_none {S} {s = s} e {xs} {values} size none = record {
  size = refl;
  sizes = size;
  rows = record {
    cell = λ i k l. sym (xor_none (cell_of S xs i k) (and_no_left (cell_of S xs s k) (none i)));
    value = λ i. sym (when_off (at values i) (at values s) (none i));
  };
}

-- the same rows, told otherwise
pub joined_as : {S p s : ℕ} {e : ℕ → Bool} (e' : ℕ → Bool) {old values new left : List ℕ} → RowsCombined S p s e old values new left
    → ((t : ℕ) → e' t ≡ e t) → RowsCombined S p s e' old values new left
joined_as {S} {s = s} e' {old} {values} h same = record {
  size = h.size;
  sizes = h.sizes;
  rows = record {
    cell = λ i k l. h.rows.cell i k l ∙ ap (λ (b : Bool). xor (cell_of S old i k) (b && cell_of S old s k)) (sym (same i));
    value = λ i. h.rows.value i ∙ ap (λ (b : Bool). at values i ⊕ when b (at values s)) (sym (same i));
  };
}

-- a test at i alone
pub single : (f : ℕ → Bool) (i : ℕ) {b : Bool} → f i ≡ b → (t : ℕ) → (eqb t i && f t) ≡ (eqb t i && b)
single f i {b} h t =
    ⊎_elim (λ (y : eqb t i ≡ true). ap (λ (c : Bool). eqb t i && c) (ap f (eqb-true t i y) ∙ h))
    (λ (n : eqb t i ≡ false). and_no_left (f t) n ∙ sym (and_no_left b n))
    (either (eqb t i))

pub single_no : (f : ℕ → Bool) (i : ℕ) → f i ≡ false → (t : ℕ) → (eqb t i && f t) ≡ false
single_no f i h t = single f i h t ∙ and_no_right (eqb t i) refl

pub single_yes : (f : ℕ → Bool) (i : ℕ) → f i ≡ true → (t : ℕ) → (eqb t i && f t) ≡ eqb t i
single_yes f i h t = single f i h t ∙ and_true (eqb t i)
  where
    and_true : (b : Bool) → (b && true) ≡ b
    and_true true = refl
    and_true false = refl

-- the rows below i, and row i
pub rows_more : (f : ℕ → Bool) (t i : ℕ) → (ltb t (i + 1) && f t) ≡ xor (ltb t i && f t) (eqb t i && f t)
unfolding xor
rows_more f t i =
    elim (dec_lt t i) [
      | yes a ↦
          ap (λ (b : Bool). b && f t) (lt-ltb t (i + 1) (omega arith))
          ∙ sym (xor_none (ltb t i && f t) (and_no_left (f t) (ne_eqb t i (λ q. omega arith))) ∙ ap (λ (b : Bool). b && f t) (lt-ltb t i a))
      | no a ↦
          ⊎_elim
          (λ (y : eqb t i ≡ true).
          let q : t ≡ i = eqb-true t i y in
          ap (λ (b : Bool). b && f t) (lt-ltb t (i + 1) (omega arith))
          ∙ sym (ap₂ (λ (b c : Bool). xor (b && f t) (c && f t)) (le-ltb t i (omega arith)) y ∙ xor_false (f t)))
          (λ (n : eqb t i ≡ false).
          let ne = eqb-false t i n in
          and_no_left (f t) (le-ltb t (i + 1) (omega (arith, ne)))
          ∙ sym (ap₂ (λ (b c : Bool). xor (b && f t) (c && f t)) (le-ltb t i (omega arith)) n))
          (either (eqb t i))
    ]
  where
    xor_false : (b : Bool) → xor false b ≡ b
    xor_false true = refl
    xor_false false = refl

-- clearing: row after row
pub cleared_none : {S p u : ℕ} (k : ℕ) {xs values : List ℕ} → length values ≡ 248 → RowsCombined S p u (cleared (u + 1) (cell_of S xs) k u) xs values xs values
cleared_none {S} {u = u} k {xs} size = joined_none (cleared (u + 1) (cell_of S xs) k u) size none
  where
    none : (t : ℕ) → cleared (u + 1) (cell_of S xs) k u t ≡ false
    none t =
        elim (dec_lt u t) [
          | yes a ↦ and_no_left (ltb u t && cell_of S xs t k) (le-ltb t (u + 1) (omega arith))
          | no a ↦ and_no_right (ltb t (u + 1)) (and_no_left (cell_of S xs t k) (le-ltb u t (omega arith)))
        ]

-- the rows up to u are left out
cleared_above : (i : ℕ) (m : ℕ → ℕ → Bool) (k u t : ℕ) → t ≤ u → cleared i m k u t ≡ false
cleared_above i m k u t l = and_no_right (ltb t i) (and_no_left (m t k) (le-ltb u t l))

pub cleared_own : (i : ℕ) (m : ℕ → ℕ → Bool) (k u : ℕ) → cleared i m k u u ≡ false
cleared_own i m k u = cleared_above i m k u u (omega arith)

pub cleared_more : {S p u k : ℕ} (i : ℕ) {old values mid left new last : List ℕ} → k < p → u < i → RowsCombined S p u (cleared i (cell_of S old) k u) old values mid left
    → RowsCombined S p u (λ t. eqb t i && cell_of S mid t k) mid left new last
    → RowsCombined S p u (cleared (i + 1) (cell_of S old) k u) old values new last
cleared_more {S} {u = u} {k} i {old} {mid = mid} lk lu a b =
    let m : ℕ → ℕ → Bool = cell_of S old in
    let f : ℕ → Bool = λ t. ltb u t && m t k in
    let here : cell_of S mid i k ≡ m i k = combined_same a.rows i k (and_no_left (f i) (le-ltb i i (omega arith))) lk in
    record {
      size = b.size ∙ a.size;
      sizes = b.sizes;
      rows =
          combined_more (cleared (i + 1) m k u) a.rows b.rows (cleared_own i m k u)
          (λ t.
          rows_more f t i
          ∙ ap (λ (c : Bool). xor (ltb t i && f t) c)
          (single f i (ap (λ (c : Bool). c && m i k) (lt-ltb u i lu) ∙ sym here) t
          ∙ sym (single (λ t. cell_of S mid t k) i refl t)));
    }

-- a row that is left out keeps its zeros
pub zeros_joined : {S p s k : ℕ} {e : ℕ → Bool} {old values new left : List ℕ} → RowsCombined S p s e old values new left → (i : ℕ) → e i ≡ false → k < p
    → ((j : ℕ) → j < k → cell_of S old i j ≡ false) → (j : ℕ) → j < k → cell_of S new i j ≡ false
zeros_joined h i f lk zeros j l = combined_same h.rows i j f (omega arith) ∙ zeros j l

-- no row from u on has the column
pub column_free : {r S p k u : ℕ} {scratch values : List ℕ} → length values ≡ 248 → Reduced p r k u (cell_of S scratch)
    → NoneFrom u r (λ t. cell_of S scratch t k) → Progress r S p (k + 1) u scratch values scratch values
column_free {r} {S} {p} {scratch = scratch} {values} size h none = record {
  size = refl;
  sizes = size;
  kept = kept_none p r (cell_of S scratch) (at values);
  reduced = reduced_free h none;
}

-- row i is the first
pub column_pivot : {r S p k u i : ℕ} {old values mid left new last : List ℕ} → k < p → Reduced p r k u (cell_of S old)
    → FirstAt u r (λ t. cell_of S old t k) i → RowsCombined S p i (lifted u i) old values mid left
    → RowsCombined S p u (cleared r (cell_of S mid) k u) mid left new last → Progress r S p (k + 1) (u + 1) old values new last
column_pivot {r} {S} {k = k} {u} {i} {mid = mid} lk h first a b =
    let m : ℕ → ℕ → Bool = cell_of S mid in
    let li = first.inside in
    let lu : u < r = omega (arith, first.least) in
    record {
      size = b.size ∙ a.size;
      sizes = b.sizes;
      kept =
          kept_trans
          (combined_kept r a.rows li (⊎_elim (λ (y : eqb i u ≡ true). and_no_right (eqb i u) (not_of_true y)) (λ n. and_no_left (not (eqb i u)) n) (either (eqb i u))))
          (combined_kept r b.rows lu (cleared_own r m k u));
      reduced =
          reduced_pivot (reduced_lift h lk first.least li a.rows) lk lu
          (lift_pivot h lk first.least li a.rows (λ j l lu. first.fails j lu l) first.passes)
          (cleared r m k u) (cleared_above r m k u)
          (λ t lt lu. ap₂ (λ (x y : Bool). x && (y && m t k)) (lt-ltb t r lt) (lt-ltb u t lu))
          b.rows;
    }

-- column after column
pub progress_none : {r S p : ℕ} {scratch values : List ℕ} → length values ≡ 248 → Progress r S p 0 0 scratch values scratch values
progress_none {r} {S} {p} {scratch} {values} size = record {
  size = refl;
  sizes = size;
  kept = kept_none p r (cell_of S scratch) (at values);
  reduced = reduced_none p r (cell_of S scratch);
}

pub progress_more : {r S p k u u' : ℕ} {old values mid left new last : List ℕ} → Progress r S p k u old values mid left
    → Progress r S p (k + 1) u' mid left new last → Progress r S p (k + 1) u' old values new last
progress_more a b = record {
  size = b.size ∙ a.size;
  sizes = b.sizes;
  kept = kept_trans a.kept b.kept;
  reduced = b.reduced;
}
