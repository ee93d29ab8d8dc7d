-- What the number of checks looked at says of a position, and the answers of `looked`.
use mathlib.Core.Path.{◌≡◌, refl, sym, ap, ◌∙◌}
use mathlib.Core.Bool.{Bool, true, false, not, ◌&&◌}
use mathlib.Core.List.{List}
use mathlib.Core.Logic.{⊎_elim}
use Prim.Native.Nat.{ℕ, ◌+◌, ◌-◌, ◌<◌, ◌≤◌}
use native.Mathlib.Nat.{not-suc-le-zero, eq-or-lt_of_le}
use native.Mathlib.Omega.{arith}
use lib.Dec.{eqb}
use lib.ListN.{length}
use borrow.Author.Tests.{eq-eqb, ne_eqb, eqb-true, eqb-false, not-true, not-false}
use Rattle.parity.specs.Count.{lowest_not}
use Rattle.parity.specs.Lists.{tabulate}
use Rattle.parity.proofs.Xors.{eq_of_zero}
use Rattle.parity.proofs.Tests.{either, clash, and_no_right, not_of_true, not_of_false, all_elim, all_intro}
use Rattle.parity.proofs.Lowest.{lowest_right}
use Rattle.gtb.specs.declared.Shape.{Shape}
use Rattle.gtb.specs.declared.Refusal.{Refusal}
use Rattle.std.specs.Prelude.{Result, Ok, Err}
use Rattle.gtb.specs.Shape.{lawful, shape_refusal, Lawful, word_length}
use Rattle.gtb.specs.Square.{line_of, at, narrow, Codeword}
use Rattle.gtb.specs.Answer.{unless}
use Rattle.gtb.specs.Lent.{word_status}
use Rattle.gtb.proofs.Bounds.{bounds}
use Rattle.gtb.proofs.Lines.{line_lt}
use Rattle.correction.specs.Error.{on_check}
use Rattle.correction.proofs.Near.{support, outside}
use Rattle.decoder.specs.Damage.{Explains}
use Rattle.decoder.specs.Decode.{located}
use Rattle.decoder.specs.Looking.{looked_at, LookedUpTo, looking_of, looked_left, Looking}
use Rattle.decoder.proofs.Clean.{located_exact}
use Rattle.decoder.proofs.Meaning.{explains_near, explains_unmasked}
use Rattle.decoder.proofs.Looks.{looks_all, looks_first}

module _ (s : Shape) (f : ℕ → ℕ) (j : ℕ) where
  -- a located position: all n, and none is silent
  looked_located : located s f j ≡ true → looked_at s f j ≡ s.n
  unfolding located looked_at
  looked_located h = looks_all s.n _ h

  none_silent : located s f j ≡ true → (t : ℕ) → t < s.n → on_check s f j t ≡ 0 → ⊥
  unfolding located
  none_silent h t lt = eqb-false (on_check s f j t) 0 (not-true _ (all_elim s.n (λ t. not (eqb (on_check s f j t) 0)) h t lt))

  located_loud : ((t : ℕ) → t < s.n → on_check s f j t ≡ 0 → ⊥) → located s f j ≡ true
  unfolding located
  located_loud none = all_intro s.n (λ t. not (eqb (on_check s f j t) 0)) (λ t lt. not_of_false (ne_eqb (on_check s f j t) 0 (none t lt)))

  -- any other: the last one looked at is the first silent one
  first_silent : located s f j ≡ false → (t : ℕ) × (t < s.n) × (on_check s f j t ≡ 0) × ((u : ℕ) → u < t → on_check s f j u ≡ 0 → ⊥) × (looked_at s f j ≡ t + 1)
  unfolding located looked_at
  first_silent h =
      let l = lowest_right s.n (λ t. not (eqb (on_check s f j t) 0)) in
      ⊎_elim
      (λ (full : lowest_not s.n (λ t. not (eqb (on_check s f j t) 0)) ≡ s.n).
      absurd (clash (all_intro s.n _ (λ t lt. l.below t (rw full lt))) h))
      (λ (lt : lowest_not s.n (λ t. not (eqb (on_check s f j t) 0)) < s.n). (
        lowest_not s.n (λ t. not (eqb (on_check s f j t) 0)),
        lt,
        eqb-true _ 0 (not-false _ (l.fails lt)),
        λ u lu. eqb-false _ 0 (not-true _ (l.below u lu)),
        looks_first s.n _ _ lt l.below (l.fails lt),
      ))
      (eq-or-lt_of_le l.upto)

  -- at least one, and at most n
  pub looked_bounds : Lawful s → (1 ≤ looked_at s f j) × (looked_at s f j ≤ s.n)
  looked_bounds law =
      ⊎_elim (λ (h : located s f j ≡ true). let e = looked_located h in (omega (arith, (bounds s law).n2), omega arith))
      (λ (h : located s f j ≡ false). let (t, lt, z, before, e) = first_silent h in (omega arith, omega arith))
      (either (located s f j))

  -- `located` and the number
  pub located_looked : LookedUpTo s f j
  located_looked = record {
    exact = (λ h. (looked_located h, none_silent h), λ (e, none). located_loud none);
    before = λ t lt.
        ⊎_elim (λ (h : located s f j ≡ true). none_silent h t (omega (arith, looked_located h)))
        (λ (h : located s f j ≡ false). let (u, lu, z, before, e) = first_silent h in before t (omega arith))
        (either (located s f j));
    short = λ lt.
        ⊎_elim (λ (h : located s f j ≡ true). absurd (omega (arith, looked_located h))) (λ (h : located s f j ≡ false). ended h) (either (located s f j));
    last = ended;
  }
    where
      ended : located s f j ≡ false → on_check s f j (looked_at s f j - 1) ≡ 0
      ended h =
          let (t, lt, z, before, e) = first_silent h in
          let at : looked_at s f j - 1 ≡ t = omega arith in
          rw at z

-- on a codeword one check a position is looked at
pub codeword_looked : (s : Shape) → Lawful s → (w : List ℕ) → Codeword s w → (j : ℕ) → j < word_length s → looked_at s (at w) j ≡ 1
unfolding looked_at located
codeword_looked s law w c j lj =
    let two = (bounds s law).n2 in
    looks_first s.n (λ t. not (eqb (on_check s (at w) j t) 0)) 0 (omega arith) (λ u lu. absurd (not-suc-le-zero lu))
    (not_of_true (eq-eqb _ 0 (c.checks.silent 0 (line_of s 0 j) (omega arith) (line_lt s law 0 j (omega arith) lj))))

-- one silent check settles that no clean damage changed the symbol
pub silent_settles : (s : Shape) → Lawful s → (w v : List ℕ) (k : ℕ) → Explains s w v k → (t j : ℕ) → t < s.n → j < word_length s → on_check s (at w) j t ≡ 0
    → at v j ≡ at w j
silent_settles s law w v k x t j lt lj z =
    ⊎_elim
    (λ (e : support w v j ≡ true).
    absurd (none_silent s (at w) j (located_exact s law w v k (explains_near s w v k x) (explains_unmasked s w v k x) j lj ∙ e) t lt z))
    (λ (e : support w v j ≡ false). sym (eq_of_zero (at w j) (at v j) (outside w v j e)))
    (either (support w v j))

-- ---- the answers of `looked`, one for each way out
module _ {s : Shape} {w looked : List ℕ} where
  looking : {looked' : List ℕ} {r : Result (Unit {0}) Refusal} → r ≡ looking_of s w looked → looked' ≡ looked_left s w looked r → Looking s w looked looked' r
  looking h left = record { answer = h; left = left }

  pub looking_shape : {e : Refusal} → lawful s ≡ false → e ≡ shape_refusal s → Looking s w looked looked (Err e)
  unfolding looking_of
  looking_shape h is = looking (rw h (ap Err is)) refl

  pub looking_list : Lawful s → (length looked ≡ word_length s → ⊥) → Looking s w looked looked (Err Refusal.Length)
  unfolding looking_of
  looking_list h ne = looking (rw (h, and_no_right (eqb (length w) (word_length s)) (ne_eqb _ _ ne))) refl

-- past them, tests 2 and 3 on the word
module _ (s : Shape) (law : Lawful s) (w looked : List ℕ) (size : length looked ≡ word_length s) where
  by_word : word_status s w ≡ looking_of s w looked
  unfolding looking_of word_status
  by_word = rw (law, eq-eqb _ _ size) (same (eqb (length w) (word_length s)))
    where
      same : (a : Bool) → unless {A = Result (Unit {0}) Refusal} a (Err Refusal.Length) (unless (narrow s.b w) (Err Refusal.Width) (Ok tt))
          ≡ unless (a && true) (Err Refusal.Length) (unless (narrow s.b w) (Err Refusal.Width) (Ok tt))
      same true = refl
      same false = refl

  pub looking_word : {e : Refusal} → Err e ≡ word_status s w → Looking s w looked looked (Err e)
  looking_word h = looking (h ∙ by_word) refl

  pub looking_done : {looked' : List ℕ} → Ok tt ≡ word_status s w → looked' ≡ tabulate (word_length s) (looked_at s (at w)) → Looking s w looked looked' (Ok tt)
  looking_done h is = looking (h ∙ by_word) is
