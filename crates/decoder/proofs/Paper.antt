-- Clean reading, and how many checks of a digit are looked at, are what the paper asks.
use mathlib.Core.Path.{◌≡◌, refl, sym, ap, ◌∙◌, subst}
use mathlib.Core.Bool.{◌&&◌}
use mathlib.Core.List.{List}
use Prim.Native.Nat.{ℕ, ◌+◌, ◌-◌, ◌^◌, ◌≤◌}
use native.Mathlib.Omega.{arith}
use lib.Dec.{eqb}
use lib.ListN.{length, get_or}
use Rattle.parity.specs.Xor.{◌⊕◌}
use Rattle.parity.proofs.Lists.{is_tabulate, length_tabulate, at_tabulate}
use Rattle.paper.specs.Paper as paper
use Rattle.paper.specs.Reading.{nonzero}
use Rattle.gtb.specs.declared.Shape.{Shape}
use Rattle.gtb.specs.declared.Refusal.{Refusal}
use Rattle.std.specs.Prelude.{Result, Err}
use Rattle.gtb.specs.Shape.{of, Lawful, word_length}
use Rattle.gtb.specs.Square.{at, narrow}
use Rattle.gtb.specs.Answer.{refusal_number, status_number}
use Rattle.gtb.proofs.Judging.{decides_eqb, decides_both, test}
use Rattle.gtb.proofs.Conditions.{shape_tests, decides_width}
use Rattle.gtb.proofs.Stored.{word_digits, digits_word, codeword_stored, stored_codeword}
use Rattle.correction.specs.Error.{weight, damaged}
use Rattle.correction.proofs.Errors.{damaged_at}
use Rattle.correction.proofs.Paper.{on_check_lem, every_shape, Named}
use Rattle.decoder.specs.Damage.{Explains}
use Rattle.decoder.specs.Decode.{clean}
use Rattle.decoder.specs.Looking.{looked_at, looking_of, looked_left, Looking}
use Rattle.decoder.proofs.Meaning.{explains_near}
use Rattle.decoder.proofs.Judging.{looked_bounds, located_looked}

module _ (s : Shape) where
  -- ---- what explains a word
  pub explains_explained : {w v : List ℕ} {k : ℕ} → Explains s w v k → paper.Explained (of s) w v
  unfolding weight nonzero
  explains_explained {w} {v} {k} x = record {
    damage = x.error;
    damaged = record {
      stored = codeword_stored s x.codeword;
      digits = word_digits s x.word;
      number = (explains_near s w v k x).word.size;
      given = λ j l. ap (λ (u : List ℕ). at u j) x.received ∙ damaged_at s v x.error x.codeword.word x.word j l;
    };
    clean = λ t j lt lj some none. x.unmasked.unmasked t j lt lj some (on_check_lem s x.error t j ∙ none);
    few = let e : nonzero (of s) x.error ≡ k = x.changed in let l : k ≤ s.n - 1 = x.few in omega arith;
  }

  pub explained_explains : {w v : List ℕ} → (x : paper.Explained (of s) w v) → Explains s w v (weight s (at x.damage))
  unfolding weight damaged nonzero
  explained_explains {w} {v} x = record {
    codeword = stored_codeword s x.damaged.stored;
    error = x.damage;
    word = digits_word s x.damaged.digits;
    unmasked = record { unmasked = λ t j lt lj some none. x.clean t j lt lj some (sym (on_check_lem s x.damage t j) ∙ none) };
    changed = refl;
    few = x.few;
    received =
        is_tabulate (length v) (λ j. at v j ⊕ at x.damage j) w (x.damaged.number ∙ sym x.damaged.stored.digits.number)
        (λ j l. x.damaged.given j (rw x.damaged.stored.digits.number at l));
  }

  pub clean_named : Named 0 clean Explains s
  clean_named = record {
    number = refl;
    suits = λ law. every_shape s (λ h. omega arith);
    read = explains_explained;
    means = λ hw x. (_, explained_explains x);
    changed = λ {w} {v} {k} x. (explains_near s w v k x).changed;
  }

-- ---- how many checks are looked at
module _ (s : Shape) (w : List ℕ) where
  looked_at_lem : Lawful s → (j : ℕ) → paper.Looked (of s) w j (looked_at s (at w) j)
  looked_at_lem law j =
      let l = located_looked s (at w) j in
      record {
        some = looked_bounds s (at w) j law;
        loud = λ t lt none. l.before t (omega arith) (on_check_lem s w t j ∙ none);
        silent = λ lt. sym (on_check_lem s w (looked_at s (at w) j - 1) j) ∙ l.short lt;
      }

  module _ {list list' : List ℕ} {r : Result (Unit {0}) Refusal} (x : Looking s w list list' r) where
    turn : (e : Refusal) → r ≡ Err e → (status_number r ≡ 2 ^ 31 + refusal_number e) × (list' ≡ list)
    turn e h = (ap status_number h, x.left ∙ ap (looked_left s w list) h)

    pub looking : paper.Looking (of s) w list list' (status_number r)
    unfolding looking_of
    looking =
        shape_tests s Err _ (turn Refusal.Shape) (turn Refusal.Slope) (λ law.
        test (eqb (length w) (word_length s) && eqb (length list) (word_length s)) _ _ (decides_both _ _ (decides_eqb _ _) (decides_eqb _ _)) (turn Refusal.Length) (λ _.
        test (narrow s.b w) _ _ (decides_width s w) (turn Refusal.Width) (λ _ h.
        let left = x.left ∙ ap (looked_left s w list) h in (
          ap status_number h,
          ap length left ∙ length_tabulate (word_length s) _,
          λ j l. subst (paper.Looked (of s) w j) (sym (ap (λ (xs : List ℕ). get_or xs j 0) left ∙ at_tabulate (word_length s) (looked_at s (at w)) j l)) (looked_at_lem law j),
        ))))
        x.answer

    pub looking_asked : Looking s w list list' r × paper.Looking (of s) w list list' (status_number r)
    looking_asked = (x, looking)
