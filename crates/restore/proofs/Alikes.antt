-- Restoring looks at the first n - 1 slopes alone.
use mathlib.Core.List.{List}
use mathlib.Core.Logic.{inl, inr}
use Prim.Native.Nat.{ℕ}
use Rattle.gtb.specs.declared.Shape.{Shape}
use Rattle.gtb.specs.Alike.{reslope, Alike}
use Rattle.gtb.proofs.Alikes.{codeword_alike, alike_back}
use Rattle.distance.specs.Distance.{differences}
use Rattle.std.specs.Prelude.{Result}
use Rattle.gtb.specs.declared.Refusal.{Refusal}
use Rattle.erasure.proofs.Alikes.{tested_alike}
use Rattle.restore.specs.Restore.{reach, strays, Reaches, Judgement, Recovering}

reaches_alike : (s : Shape) (slopes : List ℕ) → Alike s slopes → {word places v : List ℕ} → Reaches s word places v → Reaches (reslope s slopes) word places v
unfolding reach strays
reaches_alike s slopes alike {v = v} a = record { codeword = codeword_alike s slopes alike v a.codeword; few = a.few }

module _ (s : Shape) (slopes : List ℕ) (alike : Alike s slopes) (word places : List ℕ) where
  back : {v : List ℕ} → Reaches (reslope s slopes) word places v → Reaches s word places v
  back = reaches_alike (reslope s slopes) s.slopes (alike_back s slopes alike)

  module _ {word' : List ℕ} {r : Result ℕ Refusal} where
    judgement_alike : Judgement s word places word' r → Judgement (reslope s slopes) word places word' r
    unfolding differences
    judgement_alike (inl f) =
        inl (record { reaches = reaches_alike s slopes alike f.reaches; only = λ v a. f.only v (back a); answer = f.answer; number = f.number })
    judgement_alike (inr (inl f)) = inr (inl (record { none = λ v a. f.none v (back a); answer = f.answer; number = f.number; left = f.left }))
    judgement_alike (inr (inr f)) =
        inr
        (inr
        (record {
          one = f.one;
          another = f.another;
          reaches = reaches_alike s slopes alike f.reaches;
          reaches_too = reaches_alike s slopes alike f.reaches_too;
          different = f.different;
          answer = f.answer;
          number = f.number;
          left = f.left;
        }))

    -- the same answer, word and scratch
    pub restore_alike : {scratch scratch' : List ℕ} → Recovering s word places scratch word' scratch' r → Recovering (reslope s slopes) word places scratch word' scratch' r
    restore_alike = tested_alike s slopes alike word places judgement_alike
