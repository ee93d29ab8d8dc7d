-- The ways out of the search.
use mathlib.Core.Path.{◌≡◌, refl, sym, ap, ◌∙◌, subst}
use mathlib.Core.List.{List}
use mathlib.Core.Logic.Dec
use Prim.Native.Nat.{ℕ, ◌+◌, ◌-◌, ◌/◌, ◌%◌, ◌<◌}
use native.Mathlib.Decide.{ℕ_discrete}
use native.Mathlib.Nat.{ne_of_lt, mod-lt, div-lt_iff_lt-mul, div-add-mod'}
use native.Mathlib.Omega.{arith}
use lib.ListN.{length, set}
use lib.Seq.{get_or-set_same, get_or-set_other}
use borrow.Author.Count.{below_none, below_more}
use Rattle.std.specs.Prelude.{Some, None}
use Rattle.parity.specs.Lists.{Begins}
use Rattle.parity.specs.Xor.{◌⊕◌}
use Rattle.gtb.specs.declared.Shape.{Shape}
use Rattle.gtb.specs.Shape.{Lawful, word_length}
use Rattle.gtb.specs.Square.{line_of, at, Syndromes}
use Rattle.gtb.proofs.Bounds.{bounds, positive}
use Rattle.distance.specs.Distance.{Near}
use Rattle.distance.proofs.Near.{near_self}
use Rattle.correction.specs.Error.{check_of}
use Rattle.correction.specs.Steps.{Toggled, check_in}
use Rattle.correction.specs.Guesses.{NotSilent, ManyNotSilent, number_on, Placed, guessed}
use Rattle.correction.proofs.Tables.{silent_codeword}
use Rattle.correction.proofs.Guessing.{line_right, number_lt}
use Rattle.correction.proofs.Toggles.{toggled_back}
use Rattle.nearest.specs.Steps.{Narrow, Restored, Far, Alike, Otherwise}
use Rattle.nearest.proofs.Changing.{lists_none, changed, changed_word, changed_syndromes, near_less, restores_more, mended_none}
use Rattle.nearest.proofs.Guessing.{none_wrong, few_not_silent, guess_met}

-- ---- one guess
module _ {s : Shape} {k j x : ℕ} {syn mid : List ℕ} (law : Lawful s) (pos : 0 < k) (lk : k < s.n) (lj : j < word_length s)
    (a : Toggled s.n (check_of s j) (λ t. x) syn mid) where
  pub attempt_fails : {left new : List ℕ} → (left ≡ mid) × Far s (k - 1) mid → Toggled s.n (check_of s j) (λ t. x) left new → (new ≡ syn) × Otherwise s k j x syn
  attempt_fails {new = new} (same, far) b = (
    toggled_back a (subst (λ (m : List ℕ). Toggled s.n (check_of s j) (λ t. x) m new) same b),
    λ w v c y near e.
        (Dec.not-not (ℕ_discrete x 0)).0
        (λ nz. far (changed s w j x) v _ (changed_syndromes law lj y a) (near_less s w j x lj near e nz)),
  )

  pub attempt_works : {found : ℕ} {places errors : List ℕ} → length places ≡ 8 → length errors ≡ 8 → Restored s (k - 1) mid places errors found → Narrow s syn x
      → Restored s k syn (set places found j) (set errors found x) (found + 1)
  attempt_works {found} {places} {errors} p8 e8 given slim =
      let inside : found < 8 = omega (arith, (bounds s law).n8, given.few) in
      let lp : found < length places = rw p8 inside in
      let le : found < length errors = rw e8 inside in
      record {
        few = omega (arith, given.few);
        within = record {
          few = omega arith;
          below = below_more (λ y. at (set places found j) y < word_length s) found
              (λ y ly. rw (get_or-set_other places found y j 0 (ne_of_lt ly)) (given.within.below y ly))
              (rw (get_or-set_same places found j 0 lp) lj);
        };
        restores = λ w hw y.
            restores_more j x hw lj lp le (given.restores (changed s w j x) (changed_word j hw (slim.width w hw y)) (changed_syndromes law lj y a));
      }

-- ---- the guesses at one position
-- the first t are 0 or not what is wrong
pub record Missed (s : Shape) (k j : ℕ) (syn values : List ℕ) (t : ℕ) : Type 0 where
  pub missed : (u : ℕ) → u < t → (w v : List ℕ) (c : ℕ) → Syndromes s w syn → Near s k w v c
      → at w j ⊕ at v j ≡ guessed s.n (at values) (s.n + 1 - k) u → guessed s.n (at values) (s.n + 1 - k) u ≡ 0

-- the table is as it came before each guess
module _ {s : Shape} {k j : ℕ} {syn now : List ℕ} (same : now ≡ syn) where
  pub missed_more : {values : List ℕ} {t x : ℕ} → Missed s k j syn values t → x ≡ guessed s.n (at values) (s.n + 1 - k) t → Otherwise s k j x now
      → Missed s k j syn values (t + 1)
  missed_more {t = t} m e other = record { missed = below_more _ t m.missed (λ w v c y near d. sym e ∙ other w v c (rw same y) near (d ∙ sym e)) }

  pub visit_far : {values : List ℕ} → Lawful s → k < s.n → j < word_length s → Begins 8 s.n (check_in s syn j) values → Missed s k j syn values s.n
      → (now ≡ syn) × Alike s k j syn
  visit_far law lk lj g m = (
    same,
    λ w v c y near.
        (Dec.not-not (ℕ_discrete (at w j ⊕ at v j) 0)).0
        (λ nz.
        let (t, lt, e) = guess_met law lj g lk y near nz in
        nz (sym e ∙ m.missed t lt w v c y near (sym e))),
  )

-- ---- the search
pub search_silent : {s : Shape} {k : ℕ} {syn places errors : List ℕ} → Lawful s → NotSilent s syn None → Restored s k syn places errors 0
search_silent {s} {k} {syn} {places} {errors} law silent = record {
  few = omega arith;
  within = record { few = omega arith; below = below_none _ };
  restores = λ w hw y. record {
    error = λ i. 0;
    listed = lists_none s places errors;
    changed = 0;
    near = rw (mended_none hw) (near_self (silent_codeword law hw y silent));
  };
}

pub search_many : {s : Shape} {k : ℕ} {syn : List ℕ} → Lawful s → ManyNotSilent s syn k → (syn ≡ syn) × Far s k syn
search_many law many = (refl, λ w v c y near. few_not_silent law near y many)

-- the first i positions on line L of direction t are right
pub record Passed (s : Shape) (k : ℕ) (syn : List ℕ) (t L i : ℕ) : Type 0 where
  pub right : (w v : List ℕ) (c : ℕ) → Syndromes s w syn → Near s k w v c → (p : ℕ) → p < word_length s → line_of s t p ≡ L → number_on s t p < i → at w p ⊕ at v p ≡ 0

-- a check that is not silent has a wrong symbol
module _ {s : Shape} {syn : List ℕ} {check : ℕ} (law : Lawful s) (h : NotSilent s syn (Some check)) where
  loud_wrong : {k c : ℕ} {w v : List ℕ} → Syndromes s w syn → Near s k w v c
      → ((p : ℕ) → p < word_length s → line_of s (check / s.q) p ≡ check % s.q → at w p ⊕ at v p ≡ 0) → ⊥
  loud_wrong y near right =
      let lt : check / s.q < s.n = (div-lt_iff_lt-mul (positive s law)).1 h.0 in
      let lL : check % s.q < s.q = mod-lt check (positive s law) in
      h.1
      (ap (at syn) (sym (div-add-mod' check s.q)) ∙ y.entry (check / s.q) (check % s.q) lt lL ∙ line_right law near (check / s.q) (check % s.q) lt lL right)

  pub search_none : {k : ℕ} → k ≡ 0 → (syn ≡ syn) × Far s k syn
  search_none z = (refl, λ w v c y near. loud_wrong y near (λ p lp e. none_wrong law near z p lp))

  pub search_far : {now : List ℕ} {k : ℕ} → now ≡ syn → Passed s k syn (check / s.q) (check % s.q) s.q → (now ≡ syn) × Far s k syn
  search_far same passed =
      (same, λ w v c y near. loud_wrong y near (λ p lp e. passed.right w v c y near p lp e (number_lt s law (check / s.q) p lp)))

pub passed_more : {s : Shape} {k j t L i : ℕ} {syn now : List ℕ} → now ≡ syn → Passed s k syn t L i → Placed s t L i j → Alike s k j now → Passed s k syn t L (i + 1)
passed_more {s} {k} {j} {t} {L} {i} same m here alike = record {
  right = λ w v c y near p lp e li.
      (Dec.not-not (ℕ_discrete (at w p ⊕ at v p) 0)).0
      (λ nz.
      let at_j : number_on s t p ≡ i → p ≡ j = here.only p lp e in
      let wrong : number_on s t p ≡ i → ⊥ = λ d. nz (rw (at_j d) (alike w v c (rw same y) near)) in
      let before : number_on s t p < i → ⊥ = λ d. nz (m.right w v c y near p lp e d) in
      before (omega arith));
}
