-- An even set of places that is not empty has at least 2 n members.
--
-- Let it have 2 k members, k below n. All is modulo q, an odd prime that is n or more.
-- In the direction (u, v) the place P in row r and column c has the value l(P) = u × r + v × c: (1, 0) are the rows, (x, 1) is the slope x.
-- There is one polynomial g of degree k, with leading coefficient 1, whose square has the k + 1 highest coefficients of the product of
-- X - l(P) over the members P. Newton's rule gives its coefficients; it divides by 2, 4, .., 2 k. Coefficient j is a form of degree j in (u, v) (Values).
-- In each of the n directions the members share their values in pairs: the product is a square, g is its root, and g(l(P)) = 0 at each member (Halves, Polynomials).
-- But g(l(P)) is a form of degree k, which has at most k zeros unless it is zero: so g(l(P)) = 0 in every direction (Forms).
-- So g, of degree k, has the 2 k roots l(P), of which no two are equal as forms. That is too many (Roots).
use mathlib.Core.Path.{◌≡◌, refl, sym, ap, ◌∙◌, subst}
use mathlib.Core.Bool.{Bool, true}
use mathlib.Core.Logic.Dec
use mathlib.Core.Logic.{inl}
use Prim.Native.Nat.{ℕ, suc, ◌+◌, ◌-◌, ◌*◌, ◌/◌, ◌%◌, ◌<◌, ◌≤◌, ◌∣◌}
use native.Mathlib.Nat.{mod-mod, mod-eq_of_lt, dvd_of_mod-eq-zero, mod-eq-zero_of_dvd, le_of_dvd}
use native.Mathlib.Decide.{dec_le}
use native.Mathlib.Omega.{arith}
use Rattle.parity.specs.Count.{bit, count}
use Rattle.parity.specs.Cyclic.{Order, Apart}
use Rattle.parity.proofs.Residues.{factor, negated}
use Rattle.parity.proofs.Sums.{sum_mul, count_sum, count_all}
use Rattle.gtb.specs.declared.Shape.{Shape}
use Rattle.gtb.specs.Shape.{Lawful, word_length, slope_of}
use Rattle.gtb.specs.Square.{line_of}
use Rattle.gtb.proofs.Bounds.{bounds}
use Rattle.gtb.proofs.Slopes.{slope_lt, slope_apart}
use Rattle.gtb.proofs.Lines.{along, line_zero, line_suc, line_lt, share_slopes}
use Rattle.distance.proofs.Even.{Even}
use Rattle.parity.proofs.Polynomials.{sum_of}
use Rattle.distance.proofs.Halves.{halves}
use Rattle.parity.proofs.Forms.{vanishes}
use Rattle.distance.proofs.Values.{value, root, value_over, value_mods, value_form, root_form, even_zero}
use Rattle.parity.proofs.Roots.{no_roots}

module _ (s : Shape) (law : Lawful s) (A : ℕ → Bool) (ev : Even s A) (k : ℕ) (lk : k < s.n) (size : count (word_length s) A ≡ 2 * k) where
  o : Order s.q
  o = (bounds s law).order

  kq : k < s.q
  kq = omega (arith, (bounds s law).nq)

  no_two : s.q ∣ 2 → ⊥
  no_two d = omega (arith, (bounds s law).q3, le_of_dvd {m = s.q} {n = 2} (omega arith) d)

  -- -1 / (2 n + 2), for Newton's rule
  c : ℕ → ℕ
  c n = (negated s.q o (2 * suc n)).0

  c_divides : (n : ℕ) → n < k → s.q ∣ 2 * suc n * c n + 1
  unfolding c
  c_divides n l =
      (negated s.q o (2 * suc n)).1
      (λ d. omega (arith, kq, le_of_dvd {m = s.q} {n = suc n} (omega arith) (factor s.q o 2 (suc n) no_two d)))

  -- g(l(P)) at place i, where w gives the values
  abbrev g : (ℕ → ℕ) → ℕ → ℕ
  g w i = value (word_length s) A c w k i

  -- zero at each member in each of the n directions
  zero_on : (t : ℕ) → t < s.n → (w : ℕ → ℕ) → ((i : ℕ) → line_of s t i % s.q ≡ w i % s.q) → (i : ℕ) → i < word_length s → A i ≡ true → s.q ∣ g w i
  zero_on t lt w e i l h =
      dvd_of_mod-eq-zero s.q
      (sym (value_mods (word_length s) A c s.q (line_of s t) w e k i)
      ∙ mod-eq-zero_of_dvd s.q
      (even_zero (word_length s) A c s.q k o kq c_divides no_two size (line_of s t) (λ i l. line_lt s law t i lt l) (λ L lL. ev.even t L lt lL) i l h))

  slopes_apart : Apart s.q (s.n - 1) (λ t. slope_of s (suc t))
  slopes_apart = record {
    apart = λ t u lt lu ne e.
        slope_apart s law (suc t) (suc u) (omega arith) (omega arith) (omega arith) (omega arith) (λ same. ne (omega arith))
        (sym (mod-eq_of_lt (slope_lt s law (suc t) (omega arith) (omega arith))) ∙ e ∙ mod-eq_of_lt (slope_lt s law (suc u) (omega arith) (omega arith)));
  }

  -- so at every slope
  everywhere : (i : ℕ) → i < word_length s → A i ≡ true → (x : ℕ) → s.q ∣ g (along s x) i
  everywhere i l h =
      vanishes s.q o k _ _ (value_form (word_length s) A c (λ i. i % s.q) (λ i. i / s.q) k i) (s.n - 1) (λ t. slope_of s (suc t)) (λ t. true) slopes_apart
      (λ t lt _. zero_on (suc t) (omega arith) _ (λ i. ap (λ (r : ℕ). r % s.q) (line_suc s t i) ∙ mod-mod _ _) i l h)
      (omega (arith, count_all (s.n - 1) (λ t. true) (λ t _. refl)))
      (inl (zero_on 0 (omega arith) _ (λ i. ap (λ (r : ℕ). r % s.q) (line_zero s i)) i l h))

  -- its leading coefficient, 1, would be 0
  too_many : k < count (word_length s) A → ⊥
  unfolding root
  too_many many =
      omega (
        arith,
        (bounds s law).q3,
        le_of_dvd {m = s.q} {n = 1} (omega arith)
            (no_roots s.q o (word_length s) (λ i. i % s.q) (λ i. i / s.q) (share_slopes s law) k kq (λ x. root (word_length s) A c (along s x)) _
            (root_form (word_length s) A c (λ i. i % s.q) (λ i. i / s.q)) A many
            (λ i l h x. subst (λ (v : ℕ). s.q ∣ v) (value_over (word_length s) A c (along s x) k i) (everywhere i l h x))),
      )

-- the rows pair the members up: their number is 2 k
pub twice : (s : Shape) → Lawful s → (A : ℕ → Bool) → Even s A → (j : ℕ) → j < word_length s → A j ≡ true → 2 * s.n ≤ count (word_length s) A
twice s law A ev j l h =
    let some : 0 < s.n = omega (arith, (bounds s law).n2) in
    let (ys, e) = halves (word_length s) s.q A (line_of s 0) (λ i l. line_lt s law 0 i some l) (λ L lL. ev.even 0 L some lL) j l h in
    let size : count (word_length s) A ≡ 2 * (1 + sum_of ys (λ y. 1)) = omega (arith, e (λ y. 1), sum_mul (word_length s) (λ i. bit (A i)) 1, count_sum (word_length s) A) in
    (Dec.not-not (dec_le (2 * s.n) (count (word_length s) A))).0 (λ less. too_many s law A ev (1 + sum_of ys (λ y. 1)) (omega arith) size (omega arith))
