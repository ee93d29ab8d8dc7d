-- In each direction but the first the last check follows from the others, so the kept checks say as much as all of them.
use mathlib.Core.Path.{◌≡◌, refl, sym, ap, ap₂, ◌∙◌, subst}
use mathlib.Core.Bool.{Bool, true, cond, not, ◌||◌}
use Prim.Native.Nat.{ℕ, zero, suc, ◌+◌, ◌-◌, ◌*◌, ◌/◌, ◌%◌, ◌<◌, ◌≤◌}
use native.Mathlib.Nat.{mod-lt, div-eq_of_lt, div-lt_iff_lt-mul, le-div_iff_mul-le, div-add-mod', suc-mul, mul-pos, mul-lt-mul_of_pos_right}
use native.Mathlib.Decide.{dec_lt}
use native.Mathlib.Omega.{arith}
use lib.Arith.{digits_lt, digits_div, digits_mod}
use lib.Dec.{eqb, ltb}
use borrow.Author.Tests.{lt-ltb, le-ltb, ltb-true, ne_eqb, eqb-true}
use Rattle.parity.specs.Xor.{◌⊕◌, xor_sum}
use Rattle.parity.specs.Count.{bit, sum, count}
use Rattle.parity.proofs.Xors.{self, twice}
use Rattle.parity.proofs.XorSums.{xs_suc, cong, none, exchange}
use Rattle.parity.proofs.Sums.{sum_cong, sum_add, sum_const, count_sum, count_more, count_all}
use Rattle.parity.proofs.Only.{Only, only_count, only_sum}
use Rattle.gtb.specs.declared.Shape.{Shape}
use Rattle.gtb.specs.Shape.{Lawful, word_length, kept_checks, scratch_length}
use Rattle.gtb.specs.Square.{syndrome, Silent}
use Rattle.gtb.specs.Positions.{is_information}
use Rattle.gtb.specs.Kept.{is_kept, kept_direction, kept_line, KeptRows, LastChecks, KeptSilent}
use Rattle.gtb.proofs.Bounds.{bounds, positive}
use Rattle.gtb.proofs.Sizes.{sizes, checks_parts}
use Rattle.gtb.proofs.Lines.{line_only}
use Rattle.gtb.proofs.Positions.{information_positions}

-- ---- the last checks
module _ (s : Shape) (h : Lawful s) (f : ℕ → ℕ) where
  -- each symbol is on one check of a direction, so the direction's checks XOR to all symbols
  direction_total : (t : ℕ) → t < s.n → xor_sum s.q (syndrome s f t) ≡ xor_sum (word_length s) f
  unfolding syndrome
  direction_total t lt = exchange _ _ _ ∙ cong _ _ _ (λ j lj. only_sum _ _ _ (line_only s h t j lt lj) (λ L. f j))

  -- the last one apart
  total_last : (t : ℕ) → xor_sum s.q (syndrome s f t) ≡ xor_sum (s.q - 1) (syndrome s f t) ⊕ syndrome s f t (s.q - 1)
  total_last t = ap (λ (k : ℕ). xor_sum k (syndrome s f t)) (omega (arith, positive s h)) ∙ xs_suc (s.q - 1) (syndrome s f t)

  pub last_checks : LastChecks s f
  last_checks = record {
    follows = λ t one lt.
        sym (twice (xor_sum (s.q - 1) (syndrome s f t)) (syndrome s f t (s.q - 1)))
        ∙ ap (λ (x : ℕ). xor_sum (s.q - 1) (syndrome s f t) ⊕ x)
        (sym (total_last t) ∙ direction_total t lt ∙ sym (direction_total 0 (omega arith)));
  }

-- ---- the kept checks say as much as all
pub first_kept : (s : Shape) (L : ℕ) → is_kept s 0 L ≡ true
unfolding is_kept
first_kept s L = refl

later_kept : (s : Shape) (t L : ℕ) → is_kept s (suc t) L ≡ ltb (L + 1) s.q
unfolding is_kept
later_kept s t L = ap (λ (b : Bool). b || ltb (L + 1) s.q) (ne_eqb (suc t) 0 (λ e. omega arith))

-- all but the last of a direction are kept
pub low_kept : (s : Shape) (t L : ℕ) → L < s.q - 1 → is_kept s t L ≡ true
low_kept s zero L l = first_kept s L
low_kept s (suc t) L l = later_kept s t L ∙ lt-ltb (L + 1) s.q (omega arith)

module _ (s : Shape) (h : Lawful s) (f : ℕ → ℕ) (k : KeptSilent s f) where
  low_silent : (t L : ℕ) → t < s.n → L < s.q - 1 → syndrome s f t L ≡ 0
  low_silent t L lt l = k.silent t L lt (omega arith) (low_kept s t L l)

  first_silent : (L : ℕ) → L < s.q → syndrome s f 0 L ≡ 0
  first_silent L l = k.silent 0 L (omega (arith, (bounds s h).n2)) l (first_kept s L)

  last_silent : (t : ℕ) → 1 ≤ t → t < s.n → syndrome s f t (s.q - 1) ≡ 0
  last_silent t one lt =
      (last_checks s h f).follows t one lt
      ∙ ap₂ (λ (x y : ℕ). x ⊕ y) (none _ _ (λ L l. low_silent t L lt l)) (none _ _ first_silent) ∙ self 0

  every_silent : (t L : ℕ) → t < s.n → L < s.q → syndrome s f t L ≡ 0
  every_silent zero L lt l = first_silent L l
  every_silent (suc t) L lt l =
      elim (dec_lt L (s.q - 1)) [
        | yes low ↦ low_silent (suc t) L lt low
        | no last ↦ ap (syndrome s f (suc t)) (omega arith) ∙ last_silent (suc t) (omega arith) lt
      ]

  pub kept_silent : Silent s f
  kept_silent = record { silent = every_silent }

-- ---- the kept checks by number
-- the number of the check of line L in direction t
abbrev pub number_of : Shape → ℕ → ℕ → ℕ
number_of s zero L = L
number_of s (suc t) L = suc t * (s.q - 1) + L + 1

module _ (s : Shape) (h : Lawful s) where
  -- a direction has more checks than its last
  others : 0 < s.q - 1
  others = omega (arith, (bounds s h).q3)

  first_direction : (i : ℕ) → i < s.q → kept_direction s i ≡ 0
  unfolding kept_direction
  first_direction i l = div-eq_of_lt (omega (arith, others))

  first_line : (i : ℕ) → i < s.q → kept_line s i ≡ i
  unfolding kept_line
  first_line i l = ap (λ (b : Bool). cond b i ((i - 1) % (s.q - 1))) (lt-ltb i s.q l)

  later_direction : (t L : ℕ) → L < s.q - 1 → kept_direction s (number_of s (suc t) L) ≡ suc t
  unfolding kept_direction
  later_direction t L l = ap (λ (x : ℕ). x / (s.q - 1)) (omega arith) ∙ digits_div (suc t) l

  later_line : (t L : ℕ) → L < s.q - 1 → kept_line s (number_of s (suc t) L) ≡ L
  unfolding kept_line
  later_line t L l =
      ap (λ (b : Bool). cond b (number_of s (suc t) L) ((number_of s (suc t) L - 1) % (s.q - 1)))
      (le-ltb (number_of s (suc t) L) s.q (omega (arith, suc-mul t (s.q - 1))))
      ∙ ap (λ (x : ℕ). x % (s.q - 1)) (omega arith) ∙ digits_mod (suc t) l

  -- a number from q on is that of a check of a later direction
  later_number : (i : ℕ) → s.q ≤ i → number_of s (suc ((i - 1) / (s.q - 1) - 1)) ((i - 1) % (s.q - 1)) ≡ i
  later_number i ge =
      let one : 1 ≤ (i - 1) / (s.q - 1) = (le-div_iff_mul-le others).1 (omega arith) in
      ap (λ (x : ℕ). x * (s.q - 1) + (i - 1) % (s.q - 1) + 1) (omega arith)
      ∙ ap (λ (x : ℕ). x + 1) (div-add-mod' (i - 1) (s.q - 1)) ∙ omega (arith, positive s h)

  -- what holds of each kept check, by direction and line, holds of its number
  by_check : (P : ℕ → ℕ → ℕ → Type 0) → ((L : ℕ) → L < s.q → P L 0 L) → ((t L : ℕ) → L < s.q - 1 → P (number_of s (suc t) L) (suc t) L)
      → (i : ℕ) → P i (kept_direction s i) (kept_line s i)
  by_check P first later i =
      elim (dec_lt i s.q) [
        | yes l ↦ rw (first_direction i l, first_line i l) (first i l)
        | no ge ↦ subst (λ (k : ℕ). P k (kept_direction s k) (kept_line s k)) (later_number i (omega arith)) (moved _ _ (mod-lt (i - 1) others))
      ]
    where
      moved : (t L : ℕ) → L < s.q - 1 → P (number_of s (suc t) L) (kept_direction s (number_of s (suc t) L)) (kept_line s (number_of s (suc t) L))
      moved t L l = rw (later_direction t L l, later_line t L l) (later t L l)

  -- of the last checks only that of direction 0
  pub last_kept : (t : ℕ) → is_kept s t (s.q - 1) ≡ eqb t 0
  last_kept zero = first_kept s (s.q - 1)
  last_kept (suc t) =
      later_kept s t (s.q - 1) ∙ le-ltb (s.q - 1 + 1) s.q (omega arith) ∙ sym (ne_eqb (suc t) 0 (λ e. omega arith))

  -- so q - 1 in each direction, and one more in direction 0
  direction_kept : (t : ℕ) → count s.q (is_kept s t) ≡ s.q - 1 + bit (eqb t 0)
  direction_kept t =
      ap (λ (k : ℕ). count k (is_kept s t)) (omega (arith, positive s h)) ∙ count_more (s.q - 1) (is_kept s t)
      ∙ ap₂ (λ (x y : ℕ). x + y) (count_all _ _ (low_kept s t)) (ap bit (last_kept t))

  only_first : Only s.n (λ t. eqb t 0) 0
  only_first = record { below = omega (arith, (bounds s h).n2); passes = refl; alone = λ t l e. eqb-true t 0 e }

  -- n × (q - 1) + 1 in all
  kept_sum : sum s.n (λ t. count s.q (is_kept s t)) ≡ s.n * (s.q - 1) + 1
  kept_sum =
      sum_cong _ _ _ (λ t l. direction_kept t) ∙ sum_add _ _ _
      ∙ ap₂ (λ (x y : ℕ). x + y) (sum_const _ _) (sym (count_sum _ _) ∙ only_count _ _ 0 only_first)

  kept_total : sum s.n (λ t. count s.q (is_kept s t)) ≡ kept_checks s
  unfolding kept_checks
  kept_total = kept_sum ∙ omega (arith, checks_parts s h)

  kept_checks_lem : kept_checks s ≡ s.n * (s.q - 1) + 1
  kept_checks_lem = sym kept_total ∙ kept_sum

  -- direction and line of a kept number, and back
  kept_place : (i : ℕ) → i < kept_checks s
      → (kept_direction s i < s.n) × (kept_line s i < s.q) × (is_kept s (kept_direction s i) (kept_line s i) ≡ true)
  kept_place =
      by_check (λ i t L. i < kept_checks s → (t < s.n) × (L < s.q) × (is_kept s t L ≡ true))
      (λ L l lt. (omega (arith, (bounds s h).n2), l, first_kept s L)) (λ t L l lt. (below t L l lt, omega arith, low_kept s (suc t) L l))
    where
      below : (t L : ℕ) → L < s.q - 1 → number_of s (suc t) L < kept_checks s → suc t < s.n
      below t L l lt = subst (λ (x : ℕ). x < s.n) (digits_div (suc t) l) ((div-lt_iff_lt-mul others).1 (omega (arith, kept_checks_lem)))

  pub kept_number : (t L : ℕ) → t < s.n → L < s.q → is_kept s t L ≡ true
      → (number_of s t L < kept_checks s) × (kept_direction s (number_of s t L) ≡ t) × (kept_line s (number_of s t L) ≡ L)
  kept_number zero L lt l e =
      let few : 0 * (s.q - 1) + (L - 1) < s.n * (s.q - 1) = digits_lt lt (omega (arith, others)) in
      (omega (arith, kept_checks_lem), first_direction L l, first_line L l)
  kept_number (suc t) L lt l e =
      let low : L + 1 < s.q = ltb-true (L + 1) s.q (sym (later_kept s t L) ∙ e) in
      let less : L < s.q - 1 = omega arith in
      let few : suc t * (s.q - 1) + L < s.n * (s.q - 1) = digits_lt lt less in
      (omega (arith, kept_checks_lem), later_direction t L less, later_line t L less)

  pub kept_back : (i : ℕ) → number_of s (kept_direction s i) (kept_line s i) ≡ i
  kept_back = by_check (λ i t L. number_of s t L ≡ i) (λ L l. refl) (λ t L l. refl)

  pub kept_rows : KeptRows s
  kept_rows = record {
    number = kept_total;
    kept = kept_place;
    found = λ t L lt l e. let (few, direction, line) = kept_number t L lt l e in (number_of s t L, few, direction, line);
    once = λ i k li lk et eL. sym (kept_back i) ∙ ap₂ (number_of s) et eL ∙ kept_back k;
  }

-- there are as many as parity positions
pub kept_parity : (s : Shape) → Lawful s → count (word_length s) (λ j. not (is_information s j)) ≡ kept_checks s
unfolding kept_checks
kept_parity s h = (information_positions s h).parity ∙ let b = bounds s h in let z = sizes s h in omega arith

-- a row for every check is a longer scratch
pub old_scratch : (s : Shape) → Lawful s → s.n * s.q * ((s.q * s.q + 31) / 32) ≡ scratch_length s → ⊥
unfolding scratch_length
old_scratch s h e =
    let b = bounds s h in
    let fewer : kept_checks s < s.n * s.q = omega (arith, kept_checks_lem s h, checks_parts s h) in
    let some : 0 < s.q * s.q = mul-pos (positive s h) (positive s h) in
    let less : kept_checks s * ((s.q * s.q + 31) / 32) < s.n * s.q * ((s.q * s.q + 31) / 32) = mul-lt-mul_of_pos_right fewer (omega arith) in
    omega arith
