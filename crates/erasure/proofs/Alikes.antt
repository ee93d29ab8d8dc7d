-- Filling in looks at the first n - 1 slopes alone, and refuses the scratch of before N7.
use mathlib.Core.Path.{◌≡◌, sym, ◌∙◌}
use mathlib.Core.Bool.{false, ◌&&◌}
use mathlib.Core.List.{List}
use mathlib.Core.Logic.{inl, inr}
use Prim.Native.Nat.{ℕ, ◌+◌, ◌*◌, ◌/◌}
use lib.Dec.{eqb}
use lib.ListN.{length}
use borrow.Author.Tests.{ne_eqb}
use Rattle.parity.proofs.Tests.{and_no_right}
use Rattle.gtb.specs.declared.Shape.{Shape}
use Rattle.gtb.specs.declared.Refusal.{Refusal}
use Rattle.std.specs.Prelude.{Result, Ok, Err}
use Rattle.gtb.specs.Shape.{Lawful, word_length, kept_checks, scratch_length}
use Rattle.gtb.specs.Square.{narrow}
use Rattle.gtb.specs.Answer.{unless}
use Rattle.gtb.specs.Alike.{reslope, Alike}
use Rattle.gtb.proofs.Kept.{old_scratch}
use Rattle.gtb.proofs.Alikes.{lawful_alike, refusal_alike, codeword_alike, alike_back}
use Rattle.distance.specs.Distance.{differences}
use Rattle.erasure.specs.Fill.{rising, fill_status, Agrees, FilledIn, NoWord, SeveralWords, Decision, TestedFirst, Filling}

agrees_alike : (s : Shape) (slopes : List ℕ) → Alike s slopes → {word places v : List ℕ} → Agrees s word places v → Agrees (reslope s slopes) word places v
agrees_alike s slopes alike {v = v} a = record { codeword = codeword_alike s slopes alike v a.codeword; same = a.same }

module _ (s : Shape) (slopes : List ℕ) (alike : Alike s slopes) (word places : List ℕ) where
  back : {v : List ℕ} → Agrees (reslope s slopes) word places v → Agrees s word places v
  back = agrees_alike (reslope s slopes) s.slopes (alike_back s slopes alike)

  pub fill_status_alike : (scratch : List ℕ) → fill_status (reslope s slopes) word places scratch ≡ fill_status s word places scratch
  unfolding fill_status scratch_length kept_checks
  fill_status_alike scratch = λ i.
      unless (lawful_alike s slopes alike i) (Err (refusal_alike s slopes alike i))
      (unless (eqb (length word) (word_length s) && eqb (length scratch) (scratch_length s)) (Err Refusal.Length)
      (unless (narrow s.b word) (Err Refusal.Width)
      (unless (rising (word_length s) places) (Err Refusal.Places) (Ok tt))))

  module _ {word' : List ℕ} {r : Result ℕ Refusal} where
    filled_alike : FilledIn s word places word' r → FilledIn (reslope s slopes) word places word' r
    unfolding differences
    filled_alike f = record { agrees = agrees_alike s slopes alike f.agrees; only = λ v a. f.only v (back a); answer = f.answer; number = f.number }

    none_alike : NoWord s word places word' r → NoWord (reslope s slopes) word places word' r
    none_alike f = record { none = λ v a. f.none v (back a); answer = f.answer; number = f.number; left = f.left }

    several_alike : SeveralWords s word places word' r → SeveralWords (reslope s slopes) word places word' r
    several_alike f = record {
      one = f.one;
      another = f.another;
      agrees = agrees_alike s slopes alike f.agrees;
      agrees_too = agrees_alike s slopes alike f.agrees_too;
      different = f.different;
      answer = f.answer;
      number = f.number;
      left = f.left;
    }

    decision_alike : Decision s word places word' r → Decision (reslope s slopes) word places word' r
    decision_alike (inl x) = inl (filled_alike x)
    decision_alike (inr (inl x)) = inr (inl (none_alike x))
    decision_alike (inr (inr x)) = inr (inr (several_alike x))

    -- what passes from slopes to slopes beside the tests passes with them
    pub tested_alike : {Decided Decided' : Type 0} {scratch scratch' : List ℕ} → (Decided → Decided') → TestedFirst Decided s word places scratch word' scratch' r
        → TestedFirst Decided' (reslope s slopes) word places scratch word' scratch' r
    tested_alike {scratch = scratch} next f = record {
      tested = λ e is. f.tested e (sym (fill_status_alike scratch) ∙ is);
      decided = λ is. let (decided, cleared) = f.decided (sym (fill_status_alike scratch) ∙ is) in (next decided, cleared);
    }

    -- the same answer, word and scratch
    pub fill_alike : {scratch scratch' : List ℕ} → Filling s word places scratch word' scratch' r → Filling (reslope s slopes) word places scratch word' scratch' r
    fill_alike = tested_alike decision_alike

-- ---- the scratch of before N7
pub fill_old : (s : Shape) (word places scratch : List ℕ) → Lawful s → length scratch ≡ s.n * s.q * ((s.q * s.q + 31) / 32)
    → fill_status s word places scratch ≡ Err Refusal.Length
unfolding fill_status
fill_old s word places scratch law e =
    let wrong : eqb (length scratch) (scratch_length s) ≡ false = ne_eqb _ _ (λ z. old_scratch s law (sym e ∙ z)) in
    rw (law, and_no_right (eqb (length word) (word_length s)) wrong)
