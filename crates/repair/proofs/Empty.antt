-- The nearest codeword and restoring with no places are one: the same answer and the same word.
use mathlib.Core.Path.{◌≡◌, refl, sym, ◌∙◌, subst}
use mathlib.Core.Bool.{true}
use mathlib.Core.List.{List, []}
use mathlib.Core.Logic.{inl, inr}
use Prim.Native.Nat.{ℕ, ◌-◌, zero-le}
use native.Mathlib.Omega.{arith}
use lib.ListN.{length, replicate, length-replicate}
use Rattle.parity.specs.Count.{all}
use Rattle.gtb.specs.declared.Shape.{Shape}
use Rattle.std.specs.Prelude.{Result, Ok}
use Rattle.gtb.specs.declared.Refusal.{Refusal}
use Rattle.gtb.specs.Shape.{Lawful, scratch_length}
use Rattle.gtb.specs.Square.{at, Word, Codeword}
use Rattle.gtb.proofs.Bounds.{bounds}
use Rattle.distance.specs.Distance.{differences, minimum_distance}
use Rattle.correction.specs.Answer.{decoded_word}
use Rattle.correction.specs.Error.{damaged}
use Rattle.correction.proofs.Near.{damaged_near}
use Rattle.erasure.specs.Fill.{rising, fill_status}
use Rattle.erasure.proofs.Filling.{passed, tests_pass}
use Rattle.nearest.specs.Nearest.{nearest_of, nearest_word}
use Rattle.nearest.proofs.Meaning.{near_nearest, far_refused, restoring_near}
use Rattle.restore.specs.Restore.{Judgement, Recovering}
use Rattle.restore.proofs.Recovering.{recovering_there, empty_reach, empty_weight, reaches_near, near_reaches}
use Rattle.repair.specs.Repair.{ByNearest, ByRestore}

-- ---- restoring with no places reads the nearest codeword
module _ (s : Shape) (word : List ℕ) (law : Lawful s) where
  empty_judgement : {word' : List ℕ} {r : Result ℕ Refusal} → Word s word → Judgement s word [] word' r → (r ≡ nearest_of s word) × (word' ≡ decoded_word word (nearest_word s word) r)
  empty_judgement {word'} hw (inl a) =
      let (answer, found) = near_nearest s law word word' _ (reaches_near s word law hw a.reaches) in
      (a.answer ∙ sym answer, rw a.answer (sym found))
  empty_judgement hw (inr (inl a)) = (a.answer ∙ sym (far_refused s law word hw (λ v k x. a.none v (near_reaches s word law x))), rw a.answer a.left)
  empty_judgement hw (inr (inr a)) =
      absurd
      (a.different
      (sym (near_nearest s law word a.one _ (reaches_near s word law hw a.reaches)).1
      ∙ (near_nearest s law word a.another _ (reaches_near s word law hw a.reaches_too)).1))

pub empty_nearest : {s : Shape} {word scratch word' scratch' : List ℕ} {r : Result ℕ Refusal} → fill_status s word [] scratch ≡ Ok tt → Recovering s word [] scratch word' scratch' r
    → (r ≡ nearest_of s word) × (word' ≡ decoded_word word (nearest_word s word) r)
empty_nearest {s} {word} {scratch} tests f = let p = passed s word [] scratch tests in empty_judgement s word p.law p.came (f.decided tests).0

-- ---- and what the nearest codeword restored is restored with no places
rising_none : (size : ℕ) → rising size [] ≡ true
unfolding rising all
rising_none size = refl

pub nearest_restore : {s : Shape} {stored error left : List ℕ} → Lawful s → Codeword s stored → Word s error → ByNearest s stored error left → ByRestore s stored error left
unfolding minimum_distance
nearest_restore {s} {stored} {error} {left} law code damage x =
    let came : List ℕ = damaged stored error in
    let near = damaged_near s (s.n - 1) stored error code damage x.few in
    let (answer, same) = restoring_near law x.restoring near in
    let lent : List ℕ = replicate (scratch_length s) 0 in
    let size : length lent ≡ scratch_length s = length-replicate (scratch_length s) 0 in
    record {
      places = [];
      rises = rising_none _;
      choice = zero-le;
      few = omega (arith, empty_weight s came law (at error), empty_reach s came law, x.few);
      lent = lent;
      size = size;
      lent_after = replicate (length lent) 0;
      answer = Ok (differences s stored came);
      recovering =
          subst (λ (w : List ℕ). Recovering s came [] lent w (replicate (length lent) 0) (Ok (differences s stored came))) (sym same)
          (recovering_there (tests_pass s came [] lent law near.word size (rising_none _)) (omega (arith, (bounds s law).n2)) (near_reaches s came law near));
    }
