-- Lists of places, with one place more at the end.
use mathlib.Core.Path.{◌≡◌, refl, sym, ap, ap₂, subst, ◌∙◌}
use mathlib.Core.Bool.{Bool, false, ◌||◌}
use mathlib.Core.List.{List, [], ◌∷◌, ◌++◌}
use Prim.Native.Nat.{ℕ, zero, suc, ◌+◌, ◌<◌, ◌≤◌}
use native.Mathlib.Nat.{le_refl}
use native.Mathlib.Decide.{dec_lt}
use native.Mathlib.Numerals.{add-one}
use native.Mathlib.Omega.{arith}
use lib.Dec.{eqb}
use Rattle.std.specs.Prelude.{take}
use Rattle.std.specs.List.{list_any}
use Rattle.std.proofs.lemmas.List.Folds.{list_any_more}
use lib.ListN.{length, length-append, get_or-append}
use lib.Seq.{get_or-append_seam, take_all}
use borrow.Author.Tests.{eq-eqb}
use Rattle.parity.specs.Count.{any}
use Rattle.parity.proofs.Tests.{clash, any_more, any_intro, any_cong}
use Rattle.gtb.specs.Square.{at}
use Rattle.erasure.specs.Fill.{is_listed}
use Rattle.erasure.specs.Steps.{Places}

any_first : (p : ℕ → Bool) (xs : List ℕ) (n : ℕ) → n ≤ length xs → list_any p (take n xs) ≡ any n (λ i. p (at xs i))
unfolding any
any_first p xs zero l = refl
any_first p xs (suc n) l =
    subst (λ (k : ℕ). list_any p (take k xs) ≡ any k (λ i. p (at xs i))) (add-one n)
    (list_any_more p xs n 0 (omega (arith, l)) ∙ ap (λ (b : Bool). b || p (at xs n)) (any_first p xs n (omega (arith, l))) ∙ sym (any_more n (λ i. p (at xs i))))

-- a test of each item finds a listed position
pub listed_any : (places : List ℕ) (j : ℕ) → list_any (λ x. eqb x j) places ≡ is_listed places j
unfolding is_listed
listed_any places j = sym (ap (list_any (λ x. eqb x j)) (take_all (length places) places (le_refl _))) ∙ any_first (λ x. eqb x j) places (length places) (le_refl _)

module _ (places : List ℕ) (j : ℕ) where
  pub longer : length (places ++ (j ∷ [])) ≡ length places + 1
  longer = length-append places (j ∷ [])

  pub earlier : (i : ℕ) → i < length places → at (places ++ (j ∷ [])) i ≡ at places i
  earlier i l = get_or-append places (j ∷ []) 0 i l

  pub latest : at (places ++ (j ∷ [])) (length places) ≡ j
  latest = get_or-append_seam places j [] 0

  -- what is listed then
  pub listed_more : (p : ℕ) → is_listed (places ++ (j ∷ [])) p ≡ (is_listed places p || eqb j p)
  unfolding is_listed
  listed_more p =
      ap (λ (n : ℕ). any n (λ i. eqb (at (places ++ (j ∷ [])) i) p)) longer
      ∙ any_more (length places) (λ i. eqb (at (places ++ (j ∷ [])) i) p)
      ∙ ap₂ (λ (a b : Bool). a || b) (any_cong (length places) _ _ (λ i l. ap (λ (x : ℕ). eqb x p) (earlier i l))) (ap (λ (x : ℕ). eqb x p) latest)

  -- a position that was not listed
  module _ {size : ℕ} (h : Places size places) (lj : j < size) (new : is_listed places j ≡ false) where
    absent : (i : ℕ) → i < length places → at places i ≡ j → ⊥
    unfolding is_listed
    absent i l e = clash (any_intro (length places) (λ i. eqb (at places i) j) i l (eq-eqb (at places i) j e)) new

    pub places_more : Places size (places ++ (j ∷ []))
    places_more = record { below = λ k l. below k (rw longer at l); once = λ i k li lk. once i k (rw longer at li) (rw longer at lk) }
      where
        below : (k : ℕ) → k < length places + 1 → at (places ++ (j ∷ [])) k < size
        below k l =
            elim (dec_lt k (length places)) [
              | yes m ↦ rw (earlier k m) (h.below k m)
              | no m ↦ let e : k ≡ length places = omega arith in rw (e, latest) lj
            ]

        once : (i k : ℕ) → i < length places + 1 → k < length places + 1 → at (places ++ (j ∷ [])) i ≡ at (places ++ (j ∷ [])) k → i ≡ k
        once i k li lk e =
            elim (dec_lt i (length places)) [
              | yes a ↦ elim (dec_lt k (length places)) [
                | yes b ↦ h.once i k a b (sym (earlier i a) ∙ e ∙ earlier k b)
                | no b ↦ let m : k ≡ length places = omega arith in absurd (absent i a (sym (earlier i a) ∙ e ∙ ap (at (places ++ (j ∷ []))) m ∙ latest))
              ]
              | no a ↦ let n : i ≡ length places = omega arith in
                  elim (dec_lt k (length places)) [
                    | yes b ↦ absurd (absent k b (sym (earlier k b) ∙ sym e ∙ ap (at (places ++ (j ∷ []))) n ∙ latest))
                    | no b ↦ omega arith
                  ]
            ]
