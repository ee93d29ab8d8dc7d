-- Words of N symbols below 2^b and silent checks: by the test, and by their symbols.
use mathlib.Core.Path.{◌≡◌, ap}
use mathlib.Core.Bool.{true}
use mathlib.Core.List.{List}
use Prim.Native.Nat.{ℕ, ◌^◌, ◌<◌, ◌≤◌}
use native.Mathlib.Nat.{lt_of_lt_of_le}
use native.Mathlib.Decide.{dec_lt}
use native.Mathlib.Omega.{arith}
use lib.Dec.{eqb, ltb}
use lib.ListN.{length, get_or-eq_default}
use lib.Pow.{pow_pos, pow_mono}
use borrow.Author.Tests.{lt-ltb, ltb-true, eq-eqb, eqb-true}
use Rattle.parity.specs.Count.{all}
use Rattle.parity.specs.Lists.{tabulate}
use Rattle.parity.proofs.Tests.{all_elim, all_intro, all_cong}
use Rattle.parity.proofs.Lists.{length_tabulate, at_tabulate}
use Rattle.gtb.specs.declared.Shape.{Shape}
use Rattle.gtb.specs.declared.Refusal.{Refusal}
use Rattle.std.specs.Prelude.{Ok}
use Rattle.gtb.specs.Shape.{word_length}
use Rattle.gtb.specs.Square.{at, narrow, syndrome, Word, Silent, silent_test}
use Rattle.gtb.specs.Lent.{word_status}
use Rattle.gtb.proofs.Rows.{syndrome_cong}
use Rattle.gtb.proofs.Answers.{unless_done}

-- past its end a list shows 0, which is below 2^b
pub beyond : (b : ℕ) (w : List ℕ) → ((j : ℕ) → j < length w → at w j < 2 ^ b) → (j : ℕ) → at w j < 2 ^ b
beyond b w h j =
    elim (dec_lt j (length w)) [
      | yes l ↦ h j l
      | no l ↦ rw (get_or-eq_default w 0 {n = j} (omega arith)) (pow_pos b)
    ]

-- numbers that the code holds are below 2^32
pub all_narrow : (b : ℕ) (w : List ℕ) → 32 ≤ b → ((j : ℕ) → at w j < 2 ^ 32) → narrow b w ≡ true
unfolding narrow
all_narrow b w e h = all_intro (length w) (λ j. ltb (at w j) (2 ^ b)) (λ j l. lt-ltb (at w j) (2 ^ b) (lt_of_lt_of_le (h j) (pow_mono e)))

pub word_narrow : (s : Shape) (w : List ℕ) → Word s w → narrow s.b w ≡ true
unfolding narrow
word_narrow s w h = all_intro (length w) (λ j. ltb (at w j) (2 ^ s.b)) (λ j l. lt-ltb (at w j) (2 ^ s.b) (h.width j))

-- the symbols that pass the test are narrow, also past their end
pub narrow_at : (b : ℕ) (w : List ℕ) → narrow b w ≡ true → (j : ℕ) → at w j < 2 ^ b
unfolding narrow
narrow_at b w h = beyond b w (λ j l. ltb-true (at w j) (2 ^ b) (all_elim (length w) (λ j. ltb (at w j) (2 ^ b)) h j l))

pub narrow_word : (s : Shape) (w : List ℕ) → length w ≡ word_length s → narrow s.b w ≡ true → Word s w
narrow_word s w size h = record { size = size; width = narrow_at s.b w h }

-- tests 2 and 3
pub status_word : (s : Shape) (w : List ℕ) → word_status s w ≡ Ok tt → Word s w
unfolding word_status
status_word s w h =
    let (size, h2) = unless_done (eqb (length w) (word_length s)) Refusal.Length _ h in
    narrow_word s w (eqb-true (length w) (word_length s) size) (unless_done (narrow s.b w) Refusal.Width (Ok tt) h2).0

pub word_status_lem : (s : Shape) (w : List ℕ) → Word s w → word_status s w ≡ Ok tt
unfolding word_status
word_status_lem s w h = rw (eq-eqb (length w) (word_length s) h.size, word_narrow s w h)

pub tabulate_word : (s : Shape) (f : ℕ → ℕ) → ((j : ℕ) → j < word_length s → f j < 2 ^ s.b) → Word s (tabulate (word_length s) f)
tabulate_word s f h = record {
  size = length_tabulate (word_length s) f;
  width =
      beyond s.b (tabulate (word_length s) f)
      (λ j l. let lj : j < word_length s = rw length_tabulate at l in rw (at_tabulate (word_length s) f j lj) (h j lj));
}

pub test_silent : (s : Shape) (f : ℕ → ℕ) → silent_test s f ≡ true → Silent s f
unfolding silent_test
test_silent s f h = record {
  silent = λ t L lt lL.
      eqb-true (syndrome s f t L) 0
      (all_elim s.q (λ L. eqb (syndrome s f t L) 0) (all_elim s.n (λ t. all s.q (λ L. eqb (syndrome s f t L) 0)) h t lt) L lL);
}

pub silent_test_lem : (s : Shape) (f : ℕ → ℕ) → Silent s f → silent_test s f ≡ true
unfolding silent_test
silent_test_lem s f h = all_intro s.n _ (λ t lt. all_intro s.q _ (λ L lL. eq-eqb (syndrome s f t L) 0 (h.silent t L lt lL)))

-- equal symbols are silent alike
pub test_cong : (s : Shape) (f g : ℕ → ℕ) → ((j : ℕ) → j < word_length s → f j ≡ g j) → silent_test s f ≡ silent_test s g
unfolding silent_test
test_cong s f g same = all_cong s.n _ _ (λ t lt. all_cong s.q _ _ (λ L lL. ap (λ (x : ℕ). eqb x 0) (syndrome_cong s f g t L same)))
