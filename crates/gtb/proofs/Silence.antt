-- A silent word is determined by its symbols on the information positions, and they can be any symbols.
use mathlib.Core.Path.{◌≡◌, sym, ap, ap₂, ◌∙◌}
use mathlib.Core.Bool.{Bool, cond}
use Prim.Native.Nat.{ℕ, zero, suc, ◌+◌, ◌-◌, ◌*◌, ◌/◌, ◌%◌, ◌^◌, ◌<◌, ◌≤◌}
use native.Mathlib.Nat.{mod-eq_of_lt, mod-mod, zero-lt-suc, not-suc-le-zero}
use native.Mathlib.Decide.{dec_lt}
use native.Mathlib.Omega.{arith}
use lib.Arith.{digits_div, digits_mod}
use lib.Dec.{ltb}
use borrow.Author.Tests.{lt-ltb, le-ltb}
use Rattle.parity.specs.Xor.{◌⊕◌, xor_sum}
use Rattle.parity.specs.Cyclic.{Cyclic, eval}
use Rattle.parity.proofs.Xors.{zero_r, self}
use Rattle.parity.proofs.XorSums.{cong, none, only, bound}
use Rattle.parity.proofs.Cycles.{wrap, shift, family}
use Rattle.parity.proofs.Newton.{lower_eval, eval_parts}
use Rattle.parity.proofs.Kernel.{kernel}
use Rattle.parity.proofs.Interpolate.{interpolate}
use Rattle.gtb.specs.declared.Shape.{Shape}
use Rattle.gtb.specs.Shape.{Lawful, word_length}
use Rattle.gtb.specs.Square.{Silent}
use Rattle.gtb.proofs.Bounds.{bounds}
use Rattle.gtb.proofs.Slopes.{shift_apart}
use Rattle.gtb.specs.Rows.{shift_of, row_of, lower_row}
use Rattle.gtb.proofs.Rows.{syndrome_row}
use Rattle.gtb.proofs.Rounds.{row_period, row_total, syndrome_eval, rows_silent, lower_cyclic, lower_width}
use Rattle.gtb.proofs.Information.{position, row_lt, column_lt}

-- ---- the rows from row m on
later_zero : (q m : ℕ) (f : ℕ → ℕ → ℕ) → ((r : ℕ) → m ≤ r → r < q → (c : ℕ) → f r c ≡ 0) → (x c : ℕ) → lower_eval q m f x c ≡ 0
unfolding lower_eval
later_zero q m f z x c = none _ _ (λ i l. z (m + i) (omega arith) (omega arith) _)

later_cyclic : (q m : ℕ) (f : ℕ → ℕ → ℕ) → ((r : ℕ) → Cyclic q (f r)) → (x : ℕ) → Cyclic q (lower_eval q m f x)
unfolding lower_eval
later_cyclic q m f cyc x = family _ _ _ (λ i l. shift _ _ (cyc (m + i)) _)

later_width : (q m k : ℕ) (f : ℕ → ℕ → ℕ) → ((r c : ℕ) → f r c < 2 ^ k) → (x c : ℕ) → lower_eval q m f x c < 2 ^ k
unfolding lower_eval
later_width q m k f small x c = bound _ _ _ (λ i l. small (m + i) _)

-- ---- a silent word that is zero on the information positions is zero
module _ (s : Shape) (h : Lawful s) (f : ℕ → ℕ) (quiet : Silent s f) where
  -- every row XORs to zero
  row_quiet : (r : ℕ) → r < s.q → xor_sum s.q (λ c. f (r * s.q + c)) ≡ 0
  row_quiet r l = sym (syndrome_row s h f r l) ∙ quiet.silent 0 r (let b = bounds s h in omega arith) l

  row_cyclic : (r : ℕ) → r < s.q → Cyclic s.q (row_of s.q f r)
  row_cyclic r l = record { period = row_period s.q f r; total = row_total s.q f r ∙ row_quiet r l }

  -- a row of zeros but for column 0 is a row of zeros
  pub row_zero : (r : ℕ) → r < s.q → ((c : ℕ) → 1 ≤ c → c < s.q → f (r * s.q + c) ≡ 0) → (c : ℕ) → c < s.q → f (r * s.q + c) ≡ 0
  row_zero r l z zero lc = sym (only _ 0 _ lc (λ i li ne. z i (omega arith) li)) ∙ row_quiet r l
  row_zero r l z (suc c) lc = z (suc c) (zero-lt-suc c) lc

  -- the rows vanish at each shift
  rows_vanish : (t : ℕ) → t < s.n - 1 → (c : ℕ) → eval s.q (row_of s.q f) (shift_of s t) c ≡ 0
  rows_vanish t l c = sym (syndrome_eval s h f t (omega arith) c) ∙ quiet.silent (suc t) (c % s.q) (omega arith) (column_lt s h c)

module _ (s : Shape) (h : Lawful s) (f : ℕ → ℕ) (quiet : Silent s f) (z : (r c : ℕ) → s.n - 1 ≤ r → r < s.q → 1 ≤ c → c < s.q → f (r * s.q + c) ≡ 0) where
  -- the lower rows are zero
  lower : (r : ℕ) → s.n - 1 ≤ r → r < s.q → (c : ℕ) → row_of s.q f r c ≡ 0
  unfolding row_of
  lower r lr l c = row_zero s h f quiet r l (λ c. z r c lr l) (c % s.q) (column_lt s h c)

  -- so the upper rows alone vanish at each shift
  upper_vanish : (t : ℕ) → t < s.n - 1 → (c : ℕ) → eval (s.n - 1) (row_of s.q f) (shift_of s t) c ≡ 0
  upper_vanish t l c =
      let b = bounds s h in
      let whole = eval_parts s.q (s.n - 1) (omega arith) (row_of s.q f) (shift_of s t) c in
      sym (zero_r _) ∙ sym (rw (later_zero s.q (s.n - 1) (row_of s.q f) lower (shift_of s t) c) at whole) ∙ rows_vanish s h f quiet t l c

  upper : (r : ℕ) → r < s.n - 1 → (c : ℕ) → row_of s.q f r c ≡ 0
  upper =
      let b = bounds s h in
      kernel s.q b.order (s.n - 1) (shift_of s) (shift_apart s h) (row_of s.q f)
      (λ r l. row_cyclic s h f quiet r (omega arith)) upper_vanish

  pub silent_zero : (j : ℕ) → j < word_length s → f j ≡ 0
  unfolding row_of
  silent_zero j l =
      ap f (sym (position s j) ∙ ap (λ (k : ℕ). j / s.q * s.q + k) (sym (mod-mod j s.q)))
      ∙ elim (dec_lt (j / s.q) (s.n - 1)) [
        | yes up ↦ upper (j / s.q) up (j % s.q)
        | no low ↦ lower (j / s.q) (omega arith) (row_lt s h j l) (j % s.q)
      ]

-- ---- a silent word from its information symbols
-- the square with these rows
square : ℕ → (ℕ → ℕ → ℕ) → ℕ → ℕ
square q R j = R (j / q) (j % q)

square_at : (q : ℕ) (R : ℕ → ℕ → ℕ) (r c : ℕ) → c < q → square q R (r * q + c) ≡ R r c
unfolding square
square_at q R r c l = ap₂ R (digits_div r l) (digits_mod r l)

-- rows of zero total that vanish at each shift make a silent word
square_silent : (s : Shape) → Lawful s → (R : ℕ → ℕ → ℕ) → ((r : ℕ) → r < s.q → Cyclic s.q (R r))
    → ((t : ℕ) → t < s.n - 1 → (c : ℕ) → eval s.q R (shift_of s t) c ≡ 0) → Silent s (square s.q R)
unfolding eval row_of
square_silent s h R cyc roots =
    rows_silent s h (square s.q R) (λ r l. cong _ _ _ (λ c lc. cell r c l) ∙ (cyc r l).total)
    (λ t l c. cong _ _ _ (λ r. cell r (c + shift_of s t * r)) ∙ roots t (omega arith) c)
  where
    cell : (r c : ℕ) → r < s.q → square s.q R (r * s.q + c % s.q) ≡ R r c
    cell r c l = square_at s.q R r (c % s.q) (column_lt s h c) ∙ wrap s.q (R r) (cyc r l).period c

-- row r of g, its column 0 the XOR of the others, going round
filled : ℕ → (ℕ → ℕ) → ℕ → ℕ → ℕ
filled q g r c = lower_row (q - 1) (λ i. g (r * q + suc i)) (c % q)

filled_at : (q : ℕ) (g : ℕ → ℕ) (r c : ℕ) → 1 ≤ c → c < q → filled q g r c ≡ g (r * q + c)
unfolding filled lower_row
filled_at q g r zero pos l = absurd (not-suc-le-zero pos)
filled_at q g r (suc c) pos l = ap (lower_row (q - 1) (λ i. g (r * q + suc i))) (mod-eq_of_lt l)

filled_cyclic : (q : ℕ) (g : ℕ → ℕ) (r : ℕ) → 1 ≤ q → Cyclic q (filled q g r)
unfolding filled
filled_cyclic q g r = lower_cyclic q (λ i. g (r * q + suc i))

filled_width : (q k : ℕ) (g : ℕ → ℕ) → ((j : ℕ) → g j < 2 ^ k) → (r c : ℕ) → filled q g r c < 2 ^ k
unfolding filled
filled_width q k g small r c = lower_width (q - 1) k (λ i. g (r * q + suc i)) (λ i. small (r * q + suc i)) (c % q)

-- the rows u above row m, the rows v from there on
stack : ℕ → (ℕ → ℕ → ℕ) → (ℕ → ℕ → ℕ) → ℕ → ℕ → ℕ
stack m u v r = cond (ltb r m) (u r) (v r)

module _ (m : ℕ) (u v : ℕ → ℕ → ℕ) where
  stack_upper : (r : ℕ) → r < m → stack m u v r ≡ u r
  unfolding stack
  stack_upper r l = ap (λ (t : Bool). cond t (u r) (v r)) (lt-ltb r m l)

  stack_lower : (r : ℕ) → m ≤ r → stack m u v r ≡ v r
  unfolding stack
  stack_lower r l = ap (λ (t : Bool). cond t (u r) (v r)) (le-ltb r m l)

  -- what the rows of both have, those of the stack have
  stack_each : (P : (ℕ → ℕ) → Type 0) (r : ℕ) → (r < m → P (u r)) → P (v r) → P (stack m u v r)
  stack_each P r hu hv = elim (dec_lt r m) [ yes l ↦ rw (stack_upper r l) (hu l) | no l ↦ rw (stack_lower r (omega arith)) hv ]

  -- where both parts take the same value, the stack vanishes
  stack_vanish : (q : ℕ) → m ≤ q → (x c : ℕ) → eval m u x c ≡ lower_eval q m v x c → eval q (stack m u v) x c ≡ 0
  unfolding lower_eval eval
  stack_vanish q l x c e =
      eval_parts q m l (stack m u v) x c
      ∙ ap₂ (λ (a b : ℕ). a ⊕ b)
      (cong _ _ _ (λ r lr. ap (λ (p : ℕ → ℕ). p (c + x * r)) (stack_upper r lr)) ∙ e)
      (cong _ _ _ (λ i li. ap (λ (p : ℕ → ℕ). p (c + x * (m + i))) (stack_lower (m + i) (omega arith))))
      ∙ self (lower_eval q m v x c)

-- any information symbols are those of a silent word
pub silent_exists : (s : Shape) → Lawful s → (k : ℕ) (g : ℕ → ℕ) → ((j : ℕ) → g j < 2 ^ k)
    → (f : ℕ → ℕ)
    × Silent s f
    × ((r c : ℕ) → s.n - 1 ≤ r → r < s.q → 1 ≤ c → c < s.q → f (r * s.q + c) ≡ g (r * s.q + c))
    × ((j : ℕ) → f j < 2 ^ k)
unfolding square
silent_exists s h k g small =
    let b = bounds s h in
    let m = s.n - 1 in
    let v = filled s.q g in
    let v-cyclic : (r : ℕ) → Cyclic s.q (v r) = λ r. filled_cyclic s.q g r (omega arith) in
    let v-width = filled_width s.q k g small in
    let (u, inter) =
    interpolate s.q b.order m k (shift_of s) (shift_apart s h) (λ t. lower_eval s.q m v (shift_of s t))
    (λ t l. later_cyclic s.q m v v-cyclic (shift_of s t)) (λ t l. later_width s.q m k v v-width (shift_of s t)) in (
      square s.q (stack m u v),
      square_silent s h (stack m u v) (λ r l. stack_each m u v (Cyclic s.q) r (inter.cyclic r) (v-cyclic r))
          (λ t l c. stack_vanish m u v s.q (omega arith) (shift_of s t) c (inter.value t l c)),
      λ r c lr l pos lc.
          square_at s.q (stack m u v) r c lc ∙ ap (λ (p : ℕ → ℕ). p c) (stack_lower m u v r lr) ∙ filled_at s.q g r c pos lc,
      λ j. stack_each m u v (λ p. p (j % s.q) < 2 ^ k) (j / s.q) (λ l. inter.width (j / s.q) l (j % s.q)) (v-width (j / s.q) (j % s.q)),
    )
