-- Clean decoding: an unmasked error of weight at most n - 1 is found whole.
use mathlib.Core.Path.{◌≡◌, sym, ap, ◌∙◌}
use mathlib.Core.Bool.{Bool, true, false, not}
use mathlib.Core.List.{List}
use mathlib.Core.Logic.{⊎_elim}
use Prim.Native.Nat.{ℕ, ◌-◌, ◌<◌}
use native.Mathlib.Omega.{arith}
use lib.Dec.{eqb}
use borrow.Author.Tests.{eq-eqb, ne_eqb, eqb-true, eqb-false, not-true}
use Rattle.parity.specs.Xor.{when}
use Rattle.parity.specs.Count.{count, first_value}
use Rattle.parity.proofs.Tests.{either, not_of_true, not_of_false, all_intro, all_no}
use Rattle.parity.proofs.First.{first_some}
use Rattle.parity.proofs.Sums.{count_cong}
use Rattle.parity.proofs.Pigeon.{others_le}
use Rattle.gtb.specs.declared.Shape.{Shape}
use Rattle.gtb.specs.Shape.{Lawful, word_length}
use Rattle.gtb.specs.Square.{at}
use Rattle.gtb.proofs.Bounds.{bounds}
use Rattle.gtb.proofs.Crossing.{others, private_check, private_value}
use Rattle.distance.specs.Distance.{Near}
use Rattle.correction.specs.Error.{on_check}
use Rattle.correction.proofs.Near.{error_of, support, outside, error_size, near_shown, near_private}
use Rattle.decoder.specs.Damage.{Unmasked}
use Rattle.decoder.specs.Decode.{located, alone, error_at}

-- the error is this value at a located position, and 0 elsewhere
pub error_located : (s : Shape) (f : ℕ → ℕ) (j : ℕ) → located s f j ≡ true → error_at s f j ≡ first_value s.n (alone s f j) (on_check s f j)
unfolding error_at when
error_located s f j h = ap (λ (b : Bool). when b (first_value s.n (alone s f j) (on_check s f j))) h

pub error_elsewhere : (s : Shape) (f : ℕ → ℕ) (j : ℕ) → located s f j ≡ false → error_at s f j ≡ 0
unfolding error_at when
error_elsewhere s f j h = ap (λ (b : Bool). when b (first_value s.n (alone s f j) (on_check s f j))) h

-- fewer than n are located: the first check that j has to itself gives the value
pub first_private : (s : Shape) → Lawful s → (f : ℕ → ℕ) (j : ℕ) → j < word_length s → count (word_length s) (located s f) < s.n
    → (u : ℕ) × (u < s.n) × (others s (located s f) j u ≡ false) × (first_value s.n (alone s f j) (on_check s f j) ≡ on_check s f j u)
unfolding alone others
first_private s law f j lj few =
    let (t, lt, free) = private_check s law (located s f) j lj (omega (arith, others_le (word_length s) (located s f) j)) in
    let (u, lu, own, e) = first_some s.n (alone s f j) (on_check s f j) t lt (not_of_false free) in
    (u, lu, not-true (others s (located s f) j u) own, e)

module _ (s : Shape) (law : Lawful s) (w v : List ℕ) (k : ℕ) (near : Near s (s.n - 1) w v k) (clean : Unmasked s (error_of w v)) where
  -- fewer than n symbols are wrong
  light : count (word_length s) (support w v) < s.n
  light = omega (arith, (bounds s law).n2, error_size s w v, near.changed, near.few)

  -- a position outside the error has a silent check
  silent_check : (j : ℕ) → j < word_length s → error_of w v j ≡ 0 → (t : ℕ) × (t < s.n) × (on_check s (at w) j t ≡ 0)
  silent_check j lj z =
      let (t, lt, free) = private_check s law (support w v) j lj (omega (arith, light, others_le (word_length s) (support w v) j)) in
      (t, lt, near_private law near j t lj lt free ∙ z)

  -- exactly the positions of the error are located
  pub located_exact : (j : ℕ) → j < word_length s → located s (at w) j ≡ support w v j
  unfolding located
  located_exact j lj =
      ⊎_elim
      (λ (z : eqb (error_of w v j) 0 ≡ true).
      let (t, lt, h) = silent_check j lj (eqb-true (error_of w v j) 0 z) in
      all_no s.n (λ t. not (eqb (on_check s (at w) j t) 0)) t lt (not_of_true (eq-eqb (on_check s (at w) j t) 0 h)) ∙ sym (not_of_true z))
      (λ (z : eqb (error_of w v j) 0 ≡ false).
      all_intro s.n (λ t. not (eqb (on_check s (at w) j t) 0))
      (λ t lt. not_of_false (ne_eqb (on_check s (at w) j t) 0 (λ h. clean.unmasked t j lt lj (eqb-false (error_of w v j) 0 z) (sym (near_shown law near j t lj lt) ∙ h))))
      ∙ sym (not_of_false z))
      (either (eqb (error_of w v j) 0))

  -- and the error at each is found
  pub error_exact : (j : ℕ) → j < word_length s → error_at s (at w) j ≡ error_of w v j
  error_exact j lj =
      ⊎_elim
      (λ (z : located s (at w) j ≡ true).
      let (t, lt, free, h) = first_private s law (at w) j lj (omega (arith, light, count_cong (word_length s) _ _ located_exact)) in
      error_located s (at w) j z ∙ h ∙ near_shown law near j t lj lt ∙ private_value s (located s (at w)) (error_of w v) j t lj gone free)
      (λ (z : located s (at w) j ≡ false). error_elsewhere s (at w) j z ∙ sym (gone j lj z))
      (either (located s (at w) j))
    where
      gone : (i : ℕ) → i < word_length s → located s (at w) i ≡ false → error_of w v i ≡ 0
      gone i li z = outside w v i (sym (located_exact i li) ∙ z)
