-- How many positions that are not listed are wrong, and what one listed place more changes.
use mathlib.Core.Path.{◌≡◌, refl, sym, ap, ◌∙◌}
use mathlib.Core.Bool.{Bool, true, false, not, ◌&&◌, ◌||◌}
use mathlib.Core.List.{List, [], ◌∷◌, ◌++◌}
use mathlib.Core.Logic.{⊎_elim}
use Prim.Native.Nat.{ℕ, ◌-◌, ◌<◌, ◌≤◌}
use native.Mathlib.Nat.{pos_of_ne-zero}
use native.Mathlib.Omega.{arith}
use lib.Dec.{eqb}
use borrow.Author.Tests.{eqb-true, eq-eqb, ne_eqb, not-true}
use Rattle.parity.specs.Count.{count}
use Rattle.parity.proofs.Tests.{either, clash, same_eqb, and_left, and_right, and_both, and_no_left, and_no_right, not_of_true, not_of_false}
use Rattle.parity.proofs.Sums.{count_cong, count_none, count_le}
use Rattle.parity.proofs.Pigeon.{some_passes, count_others}
use Rattle.gtb.specs.declared.Shape.{Shape}
use Rattle.gtb.specs.Shape.{word_length}
use Rattle.gtb.specs.Square.{at}
use Rattle.erasure.specs.Fill.{is_listed, Agrees}
use Rattle.restore.specs.Restore.{strays, Close}
use Rattle.restore.proofs.Lists.{listed_more}

-- position j is not listed, and v has another symbol there than the word
abbrev pub wrong : List ℕ → List ℕ → List ℕ → ℕ → Bool
wrong word places v j = not (is_listed places j) && not (eqb (at v j) (at word j))

module _ (word places v : List ℕ) (j : ℕ) where
  pub wrong_is : is_listed places j ≡ false → (at v j ≡ at word j → ⊥) → wrong word places v j ≡ true
  wrong_is un ne = and_both (not_of_false un) (not_of_false (ne_eqb (at v j) (at word j) ne))

  pub wrong_unlisted : wrong word places v j ≡ true → is_listed places j ≡ false
  wrong_unlisted h = not-true _ (and_left _ _ h)

  pub wrong_differs : wrong word places v j ≡ true → at v j ≡ at word j → ⊥
  wrong_differs h e = clash (eq-eqb (at v j) (at word j) e) (not-true _ (and_right (not (is_listed places j)) _ h))

  pub wrong_not : wrong word places v j ≡ false → is_listed places j ≡ false → at v j ≡ at word j
  wrong_not h un =
      ⊎_elim (λ (e : eqb (at v j) (at word j) ≡ true). eqb-true _ _ e) (λ (e : eqb (at v j) (at word j) ≡ false). absurd (clash (and_both (not_of_false un) (not_of_false e)) h))
      (either (eqb (at v j) (at word j)))

-- ---- none is wrong
pub close_agrees : {s : Shape} {word places v : List ℕ} → Close s 0 word places v → Agrees s word places v
unfolding strays
close_agrees {s} {word} {places} {v} c = record {
  codeword = c.codeword;
  same = λ j l un.
      ⊎_elim
      (λ (h : wrong word places v j ≡ true). absurd (omega (arith, c.few, count_others (word_length s) (wrong word places v) j l h)))
      (λ (h : wrong word places v j ≡ false). wrong_not word places v j h un)
      (either (wrong word places v j));
}

pub close_right : {s : Shape} {word places v : List ℕ} → Close s 0 word places v → (p : ℕ) → p < word_length s → wrong word places v p ≡ false
close_right {word = word} {places} {v} c p l =
    ⊎_elim
    (λ (h : wrong word places v p ≡ true).
    absurd (wrong_differs word places v p h ((close_agrees c).same p l (wrong_unlisted word places v p h))))
    (λ h. h) (either (wrong word places v p))

pub agrees_close : {s : Shape} {word places v : List ℕ} (k : ℕ) → Agrees s word places v → Close s k word places v
unfolding strays
agrees_close {s} {word} {places} {v} k a = record {
  codeword = a.codeword;
  few =
      omega (
        arith,
        count_none (word_length s) (wrong word places v)
            (λ j l.
            ⊎_elim (λ (y : is_listed places j ≡ true). and_no_left _ (not_of_true y))
            (λ (n : is_listed places j ≡ false). and_no_right (not (is_listed places j)) (not_of_true (eq-eqb (at v j) (at word j) (a.same j l n))))
            (either (is_listed places j))),
      );
}

-- more may be wrong
pub close_within : {s : Shape} {k m : ℕ} {word places v : List ℕ} → Close s k word places v → k ≤ m → Close s m word places v
close_within c le = record { codeword = c.codeword; few = omega (arith, c.few) }

-- some position is
pub some_wrong : {s : Shape} {k : ℕ} {word places v : List ℕ} → Close s k word places v → (Close s 0 word places v → ⊥)
    → (p : ℕ) × (p < word_length s) × (wrong word places v p ≡ true)
unfolding strays
some_wrong {s} {k} {word} {places} {v} c not-agreed =
    some_passes (word_length s) (wrong word places v)
    (pos_of_ne-zero (λ z. not-agreed (record { codeword = c.codeword; few = omega arith })))

-- ---- one place more
module _ (s : Shape) (word places v : List ℕ) (j : ℕ) where
  -- all others
  wrong_more : (i : ℕ) → wrong word (places ++ (j ∷ [])) v i ≡ (wrong word places v i && not (eqb i j))
  wrong_more i =
      ap (λ (b : Bool). not b && not (eqb (at v i) (at word i))) (listed_more places j i ∙ ap (λ (b : Bool). is_listed places i || b) (same_eqb j i i j sym sym))
      ∙ apart (is_listed places i) (eqb i j) (not (eqb (at v i) (at word i)))
    where
      apart : (a b d : Bool) → (not (a || b) && d) ≡ (not a && d && not b)
      apart true b d = refl
      apart false true true = refl
      apart false true false = refl
      apart false false true = refl
      apart false false false = refl

  strays_more : strays s word (places ++ (j ∷ [])) v ≡ count (word_length s) (λ i. wrong word places v i && not (eqb i j))
  unfolding strays
  strays_more = count_cong (word_length s) _ _ (λ i l. wrong_more i)

  pub close_fewer : {k : ℕ} → j < word_length s → wrong word places v j ≡ true → Close s k word places v → Close s (k - 1) word (places ++ (j ∷ [])) v
  unfolding strays
  close_fewer lj h c = record { codeword = c.codeword; few = omega (arith, strays_more, c.few, count_others (word_length s) (wrong word places v) j lj h) }

  pub close_more : {k : ℕ} → j < word_length s → 0 < k → Close s (k - 1) word (places ++ (j ∷ [])) v → Close s k word places v
  unfolding strays
  close_more lj pos c = record {
    codeword = c.codeword;
    few =
        ⊎_elim
        (λ (h : wrong word places v j ≡ true). omega (arith, strays_more, c.few, count_others (word_length s) (wrong word places v) j lj h))
        (λ (h : wrong word places v j ≡ false).
        omega (
          arith,
          strays_more,
          c.few,
          count_le (word_length s) (wrong word places v) (λ i. wrong word places v i && not (eqb i j))
              (λ i l t. and_both t (not_of_false (ne_eqb i j (λ e. clash t (ap (wrong word places v) e ∙ h))))),
        ))
        (either (wrong word places v j));
  }
