-- Two corrections as an error: what it sums to, how many positions it changes.
use mathlib.Core.Path.{◌≡◌, sym, ap, ap₂, ◌∙◌}
use mathlib.Core.Bool.{Bool, true, false, not}
use mathlib.Core.List.{List}
use mathlib.Core.Logic.{⊎_elim}
use Prim.Native.Nat.{ℕ, ◌+◌, ◌^◌, ◌<◌, ◌≤◌}
use native.Mathlib.Omega.{arith}
use lib.Dec.{eqb}
use borrow.Author.Tests.{eqb-true, eqb-false}
use Rattle.parity.specs.Xor.{◌⊕◌, xor_sum, when}
use Rattle.parity.specs.Count.{bit, sum, count}
use Rattle.parity.proofs.Xors.{zero_l, zero_r, lt_pow, when_xor, when_lt, when_zero, when_here, when_there}
use Rattle.parity.proofs.XorSums.{xs_zero, xs_suc, cong, linear, only}
use Rattle.parity.proofs.Tests.{either}
use Rattle.parity.proofs.Sums.{bit_le, sum_cong, sum_add, sum_only, count_sum}
use Rattle.gtb.specs.declared.Shape.{Shape}
use Rattle.gtb.specs.Shape.{word_length}
use Rattle.gtb.specs.Square.{at}
use Rattle.correction.specs.Steps.{Lists}
use Rattle.double.specs.Steps.{pair_of}

pub one_place : (n a x : ℕ) (g : ℕ → Bool) → a < n → xor_sum n (λ j. when (g j) (when (eqb j a) x)) ≡ when (g a) x
one_place n a x g l =
    only n a (λ j. when (g j) (when (eqb j a) x)) l (λ i li ne. ap (when (g i)) (when_there a x i ne) ∙ when_zero (g i))
    ∙ ap (when (g a)) (when_here a x)

two_terms : (f : ℕ → ℕ) → xor_sum 2 f ≡ f 0 ⊕ f 1
two_terms f = xs_suc 1 f ∙ ap (λ (z : ℕ). z ⊕ f 1) (xs_suc 0 f ∙ ap (λ (z : ℕ). z ⊕ f 0) (xs_zero f) ∙ zero_l (f 0))

-- the list of both corrections
pub pair_lists : (s : Shape) (places errors : List ℕ) → at places 0 < word_length s → at places 1 < word_length s
    → Lists s (pair_of (at places 0) (at errors 0) (at places 1) (at errors 1)) 2 places errors
unfolding pair_of
pair_lists s places errors la lb = record {
  sums = λ g.
      cong (word_length s) _ _ (λ j lj. when_xor (g j) (when (eqb j (at places 0)) (at errors 0)) (when (eqb j (at places 1)) (at errors 1)))
      ∙ linear (word_length s) (λ j. when (g j) (when (eqb j (at places 0)) (at errors 0))) (λ j. when (g j) (when (eqb j (at places 1)) (at errors 1)))
      ∙ ap₂ (λ (m l : ℕ). m ⊕ l) (one_place (word_length s) (at places 0) (at errors 0) g la) (one_place (word_length s) (at places 1) (at errors 1) g lb)
      ∙ sym (two_terms (λ i. when (g (at places i)) (at errors i)));
}

-- its symbols are as narrow as the two values
pub pair_narrow : (k a x b y : ℕ) → x < 2 ^ k → y < 2 ^ k → (j : ℕ) → pair_of a x b y j < 2 ^ k
unfolding pair_of
pair_narrow k a x b y lx ly j = lt_pow k _ _ (when_lt k (eqb j a) x lx) (when_lt k (eqb j b) y ly)

-- ---- how many positions change
abbrev spot : ℕ → ℕ → ℕ → ℕ
spot a x j = bit (not (eqb (when (eqb j a) x) 0))

spot_sum : (n a x : ℕ) → a < n → sum n (spot a x) ≡ bit (not (eqb x 0))
unfolding bit
spot_sum n a x l =
    sum_only n a (spot a x) l (λ i li ne. ap (λ (z : ℕ). bit (not (eqb z 0))) (when_there a x i ne))
    ∙ ap (λ (z : ℕ). bit (not (eqb z 0))) (when_here a x)

module _ (n a x b y : ℕ) (la : a < n) (lb : b < n) where
  -- at one position
  pub same_place : a ≡ b → count n (λ j. not (eqb (pair_of a x b y j) 0)) ≡ bit (not (eqb (x ⊕ y) 0))
  unfolding pair_of
  same_place e =
      count_sum n _
      ∙ sum_cong n _ (spot a (x ⊕ y))
      (λ j l. ap (λ (z : ℕ). bit (not (eqb z 0))) (ap (λ (p : ℕ). when (eqb j a) x ⊕ when (eqb j p) y) (sym e) ∙ sym (when_xor (eqb j a) x y)))
      ∙ spot_sum n a (x ⊕ y) la

  apart : (a ≡ b → ⊥) → (j : ℕ) → bit (not (eqb (pair_of a x b y j) 0)) ≡ spot a x j + spot b y j
  unfolding pair_of bit
  apart ne j =
      ⊎_elim
      (λ (t : eqb j a ≡ true).
      let gone : when (eqb j b) y ≡ 0 = when_there b y j (λ e. ne (sym (eqb-true j a t) ∙ e)) in
      rw (gone, zero_r) (omega arith))
      (λ (f : eqb j a ≡ false).
      let gone : when (eqb j a) x ≡ 0 = when_there a x j (eqb-false j a f) in
      rw (gone, zero_l) (omega arith))
      (either (eqb j a))

  -- at two positions
  pub two_places : (a ≡ b → ⊥) → count n (λ j. not (eqb (pair_of a x b y j) 0)) ≡ bit (not (eqb x 0)) + bit (not (eqb y 0))
  two_places ne =
      count_sum n _ ∙ sum_cong n _ (λ j. spot a x j + spot b y j) (λ j l. apart ne j) ∙ sum_add n (spot a x) (spot b y)
      ∙ ap₂ (λ (m l : ℕ). m + l) (spot_sum n a x la) (spot_sum n b y lb)

  -- two at most
  pub pair_few : count n (λ j. not (eqb (pair_of a x b y j) 0)) ≤ 2
  pair_few =
      ⊎_elim (λ (t : eqb a b ≡ true). omega (arith, same_place (eqb-true a b t), bit_le (not (eqb (x ⊕ y) 0))))
      (λ (f : eqb a b ≡ false). omega (arith, two_places (eqb-false a b f), bit_le (not (eqb x 0)), bit_le (not (eqb y 0))))
      (either (eqb a b))
