-- How many checks are looked at, from the tests passed and failed; and the list of these numbers.
use mathlib.Core.Path.{◌≡◌, refl, sym, ap, ◌∙◌}
use mathlib.Core.Bool.{Bool, true, false, not, cond}
use mathlib.Core.List.{List}
use Prim.Native.Nat.{ℕ, ◌+◌, ◌*◌, ◌<◌}
use native.Mathlib.Nat.{not-suc-le-zero}
use native.Mathlib.Omega.{arith}
use lib.Dec.{eqb}
use Rattle.parity.specs.Count.{all, lowest_not}
use Rattle.parity.specs.Lists.{tabulate, Begins}
use Rattle.parity.proofs.Tests.{all_no, all_intro, all_cong}
use Rattle.parity.proofs.Lowest.{lowest_is, lowest_cong}
use Rattle.parity.proofs.Lists.{is_tabulate}
use Rattle.gtb.specs.declared.Shape.{Shape}
use Rattle.gtb.specs.Shape.{Lawful, word_length}
use Rattle.gtb.specs.Square.{at, Syndromes}
use Rattle.gtb.proofs.Bounds.{bounds}
use Rattle.correction.specs.Error.{check_of}
use Rattle.correction.proofs.Tables.{shown}
use Rattle.decoder.specs.declared.locate.Judgement.{Judgement}
use Rattle.decoder.specs.Decode.{located}
use Rattle.decoder.specs.Looking.{looked_at}
use Rattle.decoder.specs.Steps.{judged, looked_in, Judges, PassedOver}
use Rattle.correction.proofs.Rows.{own_check}
use Rattle.decoder.proofs.Numbers.{silent}

-- how many are looked at: all n, or up to and with the first that fails
pub looks_all : (n : ℕ) (p : ℕ → Bool) → all n p ≡ true → cond (all n p) n (lowest_not n p + 1) ≡ n
looks_all n p h = rw h

pub looks_first : (n : ℕ) (p : ℕ → Bool) (t : ℕ) → t < n → ((u : ℕ) → u < t → p u ≡ true) → p t ≡ false → cond (all n p) n (lowest_not n p + 1) ≡ t + 1
looks_first n p t l before fails =
    rw (all_no n p t l fails) (ap (λ (k : ℕ). k + 1) (lowest_is n p t (record { upto = omega arith; below = before; fails = λ _. fails })))

module _ (s : Shape) (syn : List ℕ) (j : ℕ) where
  pub judges_first : {r : Judgement} (t : ℕ) → t < s.n → ((u : ℕ) → u < t → not (eqb (at syn (check_of s j u)) 0) ≡ true)
      → not (eqb (at syn (check_of s j t)) 0) ≡ false → r.located ≡ false → r.looked ≡ t + 1 → Judges s syn j r
  unfolding judged looked_in
  judges_first t l before fails lost is = record {
    located = lost ∙ sym (all_no s.n _ t l fails);
    looked = is ∙ sym (looks_first s.n _ t l before fails);
  }

  pub judges_all : {r : Judgement} → ((u : ℕ) → u < s.n → not (eqb (at syn (check_of s j u)) 0) ≡ true) → r.located ≡ true → r.looked ≡ s.n → Judges s syn j r
  unfolding judged looked_in
  judges_all each found is = record {
    located = found ∙ sym (all_intro s.n _ each);
    looked = is ∙ sym (looks_all s.n _ (all_intro s.n _ each));
  }

-- ---- a row whose own check is silent
module _ (s : Shape) (h : Lawful s) (syn : List ℕ) (row : ℕ) (z : at syn row ≡ 0) where
  pub one_look : {r : Judgement} (c : ℕ) → c < s.q → r.located ≡ false → r.looked ≡ 1 → Judges s syn (row * s.q + c) r
  one_look c l lost is =
      judges_first s syn (row * s.q + c) 0 (omega (arith, (bounds s h).n2)) (λ u lu. absurd (not-suc-le-zero lu)) (silent syn (own_check s row l) z) lost is

  pub passed_over : PassedOver s syn row
  passed_over = record {
    located = λ c l. sym (one_look {r = record { located = false; looked = 1 }} c l refl refl).located;
    looked = λ c l. sym (one_look {r = record { located = false; looked = 1 }} c l refl refl).looked;
  }

-- ---- the list
-- the table shows the syndromes, so by it as many are looked at
pub looked_shown : (s : Shape) → Lawful s → (w syn : List ℕ) → Syndromes s w syn → (j : ℕ) → j < word_length s → looked_in s syn j ≡ looked_at s (at w) j
unfolding looked_in looked_at judged located
looked_shown s h w syn y j lj = λ i.
    cond (all_cong s.n _ _ (λ t lt. ap (λ (x : ℕ). not (eqb x 0)) (shown s h w syn y j t lj lt)) i) s.n
    (lowest_cong s.n _ _ (λ t lt. ap (λ (x : ℕ). not (eqb x 0)) (shown s h w syn y j t lj lt)) i + 1)

pub noted_all : {s : Shape} {w syn looked : List ℕ} → Lawful s → Syndromes s w syn → Begins (word_length s) (word_length s) (looked_in s syn) looked
    → looked ≡ tabulate (word_length s) (looked_at s (at w))
noted_all {s} {w} {syn} {looked} h y n =
    is_tabulate (word_length s) (looked_at s (at w)) looked n.size (λ j l. n.entry j l ∙ looked_shown s h w syn y j l)
