-- The ways out of the search.
use mathlib.Core.Path.{◌≡◌, refl, sym, ap, ◌∙◌, subst}
use mathlib.Core.Bool.{Bool, true, false}
use mathlib.Core.List.{List, [], ◌∷◌, ◌++◌}
use mathlib.Core.Logic.Dec
use mathlib.Core.Logic.{inl, inr, ⊎_elim}
use Prim.Native.Nat.{ℕ, suc, ◌+◌, ◌-◌, ◌*◌, ◌/◌, ◌%◌, ◌<◌, ◌≤◌}
use native.Mathlib.Decide.{ℕ_discrete}
use native.Mathlib.Omega.{arith}
use lib.ListN.{length}
use Rattle.parity.proofs.Tests.{either, clash}
use Rattle.gtb.specs.declared.Shape.{Shape}
use Rattle.gtb.specs.declared.Refusal.{Refusal}
use Rattle.gtb.specs.Shape.{Lawful, word_length}
use Rattle.gtb.specs.Square.{line_of, at, Word, Syndromes}
use Rattle.distance.specs.Distance.{differences, minimum_distance}
use Rattle.std.specs.Prelude.{Option, Some, None, is_some, Result}
use Rattle.std.specs.Result.{result_ok}
use Rattle.correction.specs.Guesses.{NotSilent, ManyNotSilent}
use Rattle.erasure.specs.Fill.{is_listed, Decision}
use Rattle.erasure.specs.Steps.{Places}
use Rattle.erasure.proofs.Filling.{no_choice}
use Rattle.restore.specs.declared.marks.Marks.{Marks}
use Rattle.restore.specs.Restore.{Close}
use Rattle.restore.specs.Steps.{Hides, HidesAll, rank, suspects, On, Chosen, Suspected, Node, Sought}
use Rattle.restore.proofs.Lists.{longer, places_more}
use Rattle.restore.proofs.Tables.{hidden_none}
use Rattle.restore.proofs.Choosing.{rank_lt}
use Rattle.restore.proofs.Straying.{wrong, wrong_is, wrong_unlisted, wrong_differs, close_agrees, agrees_close, close_right, close_within, some_wrong, close_fewer, close_more}
use Rattle.restore.proofs.Patching.{patched_wrong, loud_wrong, few_not_silent, votes}

-- ---- the two answers
module _ {s : Shape} {k : ℕ} {word places word' : List ℕ} {Like : List ℕ → Type 0} where
  pub found : {c : ℕ} → Close s k word places word' → c ≡ differences s word' word → Sought s k word places word' (Some c) Like
  found {c} close number = record {
    close = λ d e. close;
    number = λ d e. let same : c ≡ d = cc in sym same ∙ number;
    left = λ h. let z : c ≡ suc c = cc in absurd (omega (arith, z));
    like = λ h. let z : c ≡ suc c = cc in absurd (omega (arith, z));
  }

  pub lost : word' ≡ word → ((v : List ℕ) → Close s k word places v → Like v) → Sought s k word places word' None Like
  lost left like = record {
    close = λ c h. let z : c ≡ suc c = cc in absurd (omega (arith, z));
    number = λ c h. let z : c ≡ suc c = cc in absurd (omega (arith, z));
    left = λ h. left;
    like = λ h. like;
  }

-- what was found with fewer
pub found_sooner : {s : Shape} {m k : ℕ} {word now places word' : List ℕ} {Like Like' : List ℕ → Type 0} (r : Option ℕ) → now ≡ word → m ≤ k
    → Sought s m now places word' r Like → is_some r ≡ true → Sought s k word places word' r Like'
found_sooner {s} {k = k} {places = places} {word'} {Like' = Like'} (Some c) same le h some =
    subst (λ (w : List ℕ). Sought s k w places word' (Some c) Like') same (found (close_within (h.close c refl) le) (h.number c refl))
found_sooner None same le h some = absurd (clash some refl)

none_is : (r : Option ℕ) → is_some r ≡ false → r ≡ None
none_is (Some c) e = absurd (clash refl e)
none_is None e = refl

-- where nothing was found
module _ {s : Shape} {k : ℕ} {word places word' : List ℕ} {r : Option ℕ} {Like : List ℕ → Type 0} (h : Sought s k word places word' r Like) (none : is_some r ≡ false) where
  pub nothing_left : word' ≡ word
  nothing_left = h.left (none_is r none)

  pub nothing_like : (v : List ℕ) → Close s k word places v → Like v
  nothing_like = h.like (none_is r none)

-- and so nothing with fewer
pub nothing_sooner : {s : Shape} {m k : ℕ} {word now places word' : List ℕ} {r : Option ℕ} → now ≡ word → m ≤ k → Sought s k now places word' r (λ v. ⊥) → is_some r ≡ false
    → Sought s m word places word' None (λ v. ⊥)
nothing_sooner {s} {m} {places = places} {word'} same le h none =
    subst (λ (w : List ℕ). Sought s m w places word' None (λ v. ⊥)) same (lost (nothing_left h none) (λ v c. nothing_like h none v (close_within c le)))

-- ---- where it begins
pub node_first : {s : Shape} {word places syn : List ℕ} {old marks : Marks} {k : ℕ} → Lawful s → Word s word → Places (word_length s) places → length places < 2 * s.n
    → Syndromes s word syn → old.seen ≡ syn → HidesAll s places old marks → k ≤ (2 * s.n - 1 - length places) / 2 → Node s word syn places marks k
node_first {s} {word} law hw list less y same h l = record {
  law = law;
  came = hw;
  computed = y;
  listed = list;
  hidden = h word (hidden_none (subst (Syndromes s word) (sym same) y));
  few = omega arith;
}

-- ---- no more is named
module _ {s : Shape} {word syn places : List ℕ} {marks : Marks} {k : ℕ} (node : Node s word syn places marks k) where
  pub settle_loud : (check : Option ℕ) → NotSilent s marks.seen check → is_some check ≡ true → Sought s 0 word places word None (λ v. ⊥)
  settle_loud (Some check) loud some =
      lost refl (λ v c. loud_wrong s word places v node.law node.came node.hidden c loud.0 loud.1 (λ p lp e. close_right c p lp))
  settle_loud None loud some = absurd (clash some refl)

  pub settled : {word' : List ℕ} {r : Result ℕ Refusal} → Decision s word places word' r → Sought s 0 word places word' (result_ok r) (λ v. ⊥)
  unfolding minimum_distance
  settled {word'} (inl a) = subst (λ (r : Result ℕ Refusal). Sought s 0 word places word' (result_ok r) (λ v. ⊥)) (sym a.answer) (found (agrees_close 0 a.agrees) refl)
  settled {word'} (inr (inl a)) =
      subst (λ (r : Result ℕ Refusal). Sought s 0 word places word' (result_ok r) (λ v. ⊥)) (sym a.answer) (lost a.left (λ v c. a.none v (close_agrees c)))
  settled (inr (inr a)) = absurd (no_choice node.law (omega (arith, node.few)) node.listed (inr (inr a)) a.answer)

  -- ---- one position
  module _ {j : ℕ} (lj : j < word_length s) where
    abbrev Right : List ℕ → Type 0
    Right v = is_listed places j ≡ false → at v j ≡ at word j

    pub visit_dull : {r : Bool} → Suspected s places marks k j r → r ≡ false → Sought s k word places word None Right
    visit_dull h dull =
        lost refl
        (λ v c un.
        (Dec.not-not (ℕ_discrete (at v j) (at word j))).0
        (λ ne.
        let wr : wrong word places v j ≡ true = wrong_is word places v j un ne in
        omega (arith, votes s word places v node.law node.came node.hidden c j lj wr, h.no dull un _ (patched_wrong s word places v j lj wr))))

    module _ (pos : 0 < k) where
      pub node_more : {hidden : Marks} → is_listed places j ≡ false → Hides s j marks hidden → Node s word syn (places ++ (j ∷ [])) hidden (k - 1)
      node_more un h = record {
        law = node.law;
        came = node.came;
        computed = node.computed;
        listed = places_more places j node.listed lj un;
        hidden = h word places node.hidden;
        few = omega (arith, longer places j, node.few);
      }

      pub visit_named : {word' : List ℕ} {r : Option ℕ} → Sought s (k - 1) word (places ++ (j ∷ [])) word' r (λ v. ⊥) → Sought s k word places word' r Right
      visit_named {word'} h = record {
        close = λ c e. close_more s word places word' j lj pos (h.close c e);
        number = h.number;
        left = h.left;
        like = λ is v c un.
            (Dec.not-not (ℕ_discrete (at v j) (at word j))).0 (λ ne. h.like is v (close_fewer s word places v j lj (wrong_is word places v j un ne) c));
      }

-- ---- the positions of a check, or all
-- none of the first i is wrong
pub record Passed (s : Shape) (k : ℕ) (word places : List ℕ) (check : Option ℕ) (i : ℕ) : Type 0 where
  pub right : (v : List ℕ) → Close s k word places v → (p : ℕ) → On s check p → rank s check p < i → wrong word places v p ≡ false

pub passed_more : {s : Shape} {k i j : ℕ} {check : Option ℕ} {word now places word' : List ℕ} {r : Option ℕ} → now ≡ word → Passed s k word places check i → Chosen s check i j
    → Sought s k now places word' r (λ v. is_listed places j ≡ false → at v j ≡ at now j) → is_some r ≡ false → Passed s k word places check (i + 1)
passed_more {s} {k} {i} {j} {check} {word} {now} {places} same m here h none = record {
  right = λ v c p on l.
      ⊎_elim
      (λ (wr : wrong word places v p ≡ true).
      elim (ℕ_discrete (rank s check p) i) [
        | yes d ↦
            let at_j : p ≡ j = here.only p on d in
            let un : is_listed places j ≡ false = ap (is_listed places) (sym at_j) ∙ wrong_unlisted word places v p wr in
            let like = nothing_like h none v (subst (λ (w : List ℕ). Close s k w places v) (sym same) c) un in
            absurd (wrong_differs word places v p wr (ap (at v) at_j ∙ like ∙ ap (λ (w : List ℕ). at w j) same ∙ sym (ap (at word) at_j)))
        | no d ↦ m.right v c p on (omega arith)
      ])
      (λ (wr : wrong word places v p ≡ false). wr)
      (either (wrong word places v p));
}

-- ---- all of them
module _ {s : Shape} {k : ℕ} {word syn places now : List ℕ} {marks : Marks} {r : Option ℕ} (node : Node s word syn places marks k)
    (last : Sought s 0 word places now r (λ v. ⊥)) (none : is_some r ≡ false) where
  pub search_none : k ≡ 0 → Sought s k word places now None (λ v. ⊥)
  search_none z = lost (nothing_left last none) (λ v c. nothing_like last none v (close_within c (omega arith)))

  pub search_many : ManyNotSilent s marks.seen k → Sought s k word places now None (λ v. ⊥)
  search_many many = lost (nothing_left last none) (λ v c. few_not_silent s word places v node.law node.came node.hidden c many)

  -- a close codeword has a wrong position on the check, or anywhere
  some_on : (check : Option ℕ) → NotSilent s marks.seen check → (v : List ℕ) → Close s k word places v → ((p : ℕ) → On s check p → wrong word places v p ≡ false) → ⊥
  some_on (Some check) loud v c right =
      loud_wrong s word places v node.law node.came node.hidden c loud.0 loud.1
      (λ p lp line. right p (record { below = lp; line = λ d e. let same : check ≡ d = cc in subst (λ (d : ℕ). line_of s (d / s.q) p ≡ d % s.q) same line }))
  some_on None loud v c right =
      let (p, lp, wr) = some_wrong c (nothing_like last none v) in
      clash wr (right p (record { below = lp; line = λ d e. let z : d ≡ suc d = cc in absurd (omega (arith, z)) }))

  pub search_far : {check : Option ℕ} {i : ℕ} {word' : List ℕ} → word' ≡ now → NotSilent s marks.seen check → Passed s k now places check i → suspects s check ≤ i
      → Sought s k word places word' None (λ v. ⊥)
  search_far {check} {i} same loud passed all =
      let m : Passed s k word places check i = subst (λ (w : List ℕ). Passed s k w places check i) (nothing_left last none) passed in
      lost (same ∙ nothing_left last none)
      (λ v c. some_on check loud v c (λ p on. m.right v c p on (omega (arith, rank_lt s check node.law on))))
