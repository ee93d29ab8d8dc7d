-- Filling in dead cells does what the paper asks.
use mathlib.Core.Path.{◌≡◌, refl, sym, ap, ◌∙◌}
use mathlib.Core.Bool.{true, false, ◌&&◌}
use mathlib.Core.List.{List, [], ◌∷◌}
use mathlib.Core.Logic.{◌⊎◌, inl, inr, ⊎_elim, ◌≢◌}
use Prim.Native.Nat.{ℕ, zero, suc, ◌+◌, ◌^◌, ◌<◌, ◌≤◌}
use native.Mathlib.Nat.{not-suc-le-zero, eq-or-lt_of_le, le_of_suc-le-suc, lt-suc_self}
use native.Mathlib.Decide.{dec_lt}
use native.Mathlib.Omega.{arith}
use lib.Dec.{eqb, ltb}
use lib.ListN.{length}
use borrow.Author.Tests.{eqb-true, eq-eqb, ltb-true, ltb-false}
use Rattle.parity.specs.Count.{all}
use Rattle.parity.proofs.Tests.{either, clash, and_left, and_right, all_elim, any_elim, any_intro}
use Rattle.paper.specs.Paper as paper
use Rattle.paper.specs.Writing.{scratch_left}
use Rattle.gtb.specs.declared.Shape.{Shape}
use Rattle.gtb.specs.declared.Refusal.{Refusal}
use Rattle.std.specs.Prelude.{Result, Ok, Err}
use Rattle.gtb.specs.Shape.{word_length, kept_checks, scratch_length, of}
use Rattle.gtb.specs.Square.{at, narrow}
use Rattle.gtb.specs.Answer.{refusal_number, answer_number}
use Rattle.erasure.specs.Fill.{is_listed, rising, fill_status, Agrees, Filling}
use Rattle.gtb.proofs.Judging.{Decides, decides_eqb, decides_both, test, all_fails}
use Rattle.gtb.proofs.Conditions.{shape_tests, decides_width}
use Rattle.gtb.proofs.Scratches.{scratch_same}
use Rattle.gtb.proofs.Stored.{codeword_stored, stored_codeword}
use Rattle.distance.proofs.Within.{changed_same}

-- places of which a later one is not above an earlier one: somewhere two that follow each other are not
falls : (places : List ℕ) (i k : ℕ) → i < length places → k < i → at places i ≤ at places k → (m : ℕ) × (suc m < length places) × (at places (suc m) ≤ at places m)
falls places zero k l lk h = absurd (not-suc-le-zero lk)
falls places (suc i) k l lk h =
    elim (dec_lt (at places i) (at places (suc i))) [
      | yes up ↦ ⊎_elim (λ (e : k ≡ i). let z : at places k ≡ at places i = ap (at places) e in absurd (omega arith))
          (λ (lt : k < i). falls places i k (omega arith) lt (omega arith))
          (eq-or-lt_of_le (le_of_suc-le-suc lk))
      | no down ↦ (i, l, omega arith)
    ]

module _ (s : Shape) where
  -- ---- test 12
  unfit_place : (places : List ℕ) (i : ℕ) → i < length places → (ltb (at places i) (word_length s) && all i (λ k. ltb (at places k) (at places i))) ≡ false
      → paper.WrongPlaces (of s) places
  unfit_place places i l h =
      ⊎_elim
      (λ (small : ltb (at places i) (word_length s) ≡ true).
      let (k, lk, f) = all_fails i (λ k. ltb (at places k) (at places i)) (rw small at h) in
      inl (falls places i k l lk (ltb-false _ _ f)))
      (λ (large : ltb (at places i) (word_length s) ≡ false). inr (i, l, ltb-false _ _ large))
      (either (ltb (at places i) (word_length s)))

  right_places : (places : List ℕ) → rising (word_length s) places ≡ true → ¬ paper.WrongPlaces (of s) places
  unfolding rising
  right_places places h (inl (i, l, down)) =
      let up : at places i < at places (suc i) =
      ltb-true _ _ (all_elim (suc i) (λ k. ltb (at places k) (at places (suc i))) (and_right (ltb (at places (suc i)) (word_length s)) _ (all_elim (length places) _ h (suc i) l)) i (lt-suc_self i)) in
      omega arith
  right_places places h (inr (i, l, large)) =
      let small : at places i < word_length s = ltb-true _ _ (and_left _ (all i (λ k. ltb (at places k) (at places i))) (all_elim (length places) _ h i l)) in
      omega arith

  pub decides_places : (places : List ℕ) → Decides (rising (word_length s) places) (paper.WrongPlaces (of s) places)
  unfolding rising
  decides_places places = record {
    holds = λ no. let (i, l, f) = all_fails (length places) _ no in unfit_place places i l f;
    fails = right_places places;
  }

  -- ---- what agrees
  listed_in : (places : List ℕ) (j : ℕ) → is_listed places j ≡ true → paper.◌∈◌ j places
  unfolding is_listed
  listed_in places j h = let (i, l, e) = any_elim (length places) (λ i. eqb (at places i) j) h in (i, l, eqb-true _ _ e)

  in_listed : (places : List ℕ) (j : ℕ) → paper.◌∈◌ j places → is_listed places j ≡ true
  unfolding is_listed
  in_listed places j (i, l, e) = any_intro (length places) (λ i. eqb (at places i) j) i l (eq-eqb _ _ e)

  off_listed : (places : List ℕ) (j : ℕ) → ¬ (paper.◌∈◌ j places) → is_listed places j ≡ false
  off_listed places j out = ⊎_elim (λ (t : is_listed places j ≡ true). absurd (out (listed_in places j t))) (λ f. f) (either (is_listed places j))

  agrees_paper : {word places v : List ℕ} → Agrees s word places v → paper.Agrees (of s) word places v
  agrees_paper {places = places} a = record { stored = codeword_stored s a.codeword; same = λ j l no. a.same j l (off_listed places j no) }

  pub paper_agrees : {word places v : List ℕ} → paper.Agrees (of s) word places v → Agrees s word places v
  paper_agrees {places = places} a = record { codeword = stored_codeword s a.stored; same = λ j l no. a.same j l (λ yes. clash (in_listed places j yes) no) }

  -- ---- tests 1, 18, 2, 3 and 12, as every entry with places begins
  pub place_tests : (word places scratch : List ℕ) (Refused : ℕ → Type 0) (Next : Type 0) → ((e : Refusal) → fill_status s word places scratch ≡ Err e → Refused (refusal_number e))
      → (fill_status s word places scratch ≡ Ok tt → Next)
      → paper.Judged
      ((1, ¬ paper.InLists (of s))
      ∷ (18, paper.WrongSlopes (of s))
      ∷ (2, (length word ≢ paper.N (of s)) ⊎ (length scratch ≢ paper.scratch_length (of s)))
      ∷ (3, paper.Wide (of s) word)
      ∷ (12, paper.WrongPlaces (of s) places)
      ∷ [])
      Refused Next
  unfolding fill_status scratch_length kept_checks
  place_tests word places scratch Refused Next turn pass =
      shape_tests s Err _ (turn Refusal.Shape) (turn Refusal.Slope) (λ _.
      test (eqb (length word) (word_length s) && eqb (length scratch) (scratch_length s)) _ _ (decides_both _ _ (decides_eqb _ _) (decides_eqb _ _)) (turn Refusal.Length) (λ _.
      test (narrow s.b word) _ _ (decides_width s word) (turn Refusal.Width) (λ _.
      test (rising (word_length s) places) _ _ (decides_places places) (turn Refusal.Places) (λ _. pass))))
      refl

  module _ {word places scratch word' scratch' : List ℕ} {r : Result ℕ Refusal} (f : Filling s word places scratch word' scratch' r) where
    turn : (e : Refusal) → fill_status s word places scratch ≡ Err e
        → (answer_number r ≡ 2 ^ 31 + refusal_number e) × (word' ≡ word) × (scratch' ≡ scratch_left (refusal_number e) scratch)
    turn e h = let (answer, number, left, used) = f.tested e h in (number, left, used ∙ scratch_same s e scratch)

    pub filling : paper.Filling (of s) word places scratch word' scratch' (answer_number r)
    unfolding scratch_left
    filling =
        place_tests word places scratch (λ k. (answer_number r ≡ paper.refusal k) × (word' ≡ word) × (scratch' ≡ scratch_left k scratch)) _ turn
        (λ h.
        let (decision, used) = f.decided h in
        ⊎_elim
        (λ one. inr (
          (λ none. none word' (agrees_paper one.agrees)),
          inr
              ((λ two. let (v, w, a, b, ne) = two in ne (one.only v (paper_agrees a) ∙ sym (one.only w (paper_agrees b)))), (agrees_paper one.agrees, one.number ∙ changed_same s word word', used)),
        ))
        (⊎_elim (λ none. inl ((λ v a. none.none v (paper_agrees a)), (none.number, none.left, used)))
        (λ several. inr (
          (λ none. none several.one (agrees_paper several.agrees)),
          inl
              ((several.one, several.another, agrees_paper several.agrees, agrees_paper several.agrees_too, several.different), (several.number, several.left, used)),
        )))
        decision)

    pub filling_asked : Filling s word places scratch word' scratch' r × paper.Filling (of s) word places scratch word' scratch' (answer_number r)
    filling_asked = (f, filling)
