-- Writing and data extraction do what the paper asks.
use mathlib.Core.Path.{◌≡◌, sym, ap, ◌∙◌, subst}
use mathlib.Core.Bool.{◌&&◌}
use mathlib.Core.List.{List}
use Prim.Native.Nat.{ℕ, ◌+◌, ◌^◌}
use lib.Dec.{eqb}
use lib.ListN.{length}
use Rattle.paper.specs.Paper as paper
use Rattle.paper.specs.Writing.{scratch_left}
use Rattle.gtb.specs.declared.Shape.{Shape}
use Rattle.gtb.specs.declared.Refusal.{Refusal}
use Rattle.std.specs.Prelude.{Result, Err}
use Rattle.gtb.specs.Shape.{of, word_length, info_length, kept_checks, scratch_length}
use Rattle.gtb.specs.Square.{narrow}
use Rattle.gtb.specs.Answer.{refusal_number, status_number}
use Rattle.gtb.proofs.Judging.{decides_eqb, decides_both, test}
use Rattle.gtb.proofs.Conditions.{shape_tests, decides_width}
use Rattle.gtb.proofs.Stored.{codeword_stored}
use Rattle.gtb.proofs.Places.{extracted}
use Rattle.gtb.proofs.Scratches.{scratch_same}
use Rattle.encoder.specs.Contract.{status_of, Encoding, Extraction}

module _ (s : Shape) where
  module _ {digits scratch word scratch' word' : List ℕ} {r : Result (Unit {0}) Refusal} (x : Encoding s digits scratch word scratch' word' r) where
    turn_write : (e : Refusal) → r ≡ Err e
        → (status_number r ≡ 2 ^ 31 + refusal_number e) × (word' ≡ word) × (scratch' ≡ scratch_left (refusal_number e) scratch)
    turn_write e h = let (left, used) = x.refused e h in (ap status_number h, left, used ∙ scratch_same s e scratch)

    pub writing : paper.Writing (of s) digits scratch word scratch' word' (status_number r)
    unfolding status_of scratch_length kept_checks
    writing =
        shape_tests s Err _ (turn_write Refusal.Shape) (turn_write Refusal.Slope) (λ law.
        test (eqb (length digits) (info_length s) && eqb (length scratch) (scratch_length s) && eqb (length word) (word_length s)) _ _
        (decides_both _ _ (decides_both _ _ (decides_eqb _ _) (decides_eqb _ _)) (decides_eqb _ _)) (turn_write Refusal.Length) (λ _.
        test (narrow s.b digits) _ _ (decides_width s digits) (turn_write Refusal.Width) (λ _ h.
        let (encodes, used) = x.done h in
        (ap status_number h, codeword_stored s encodes.codeword, subst (paper.DataDigits (of s) word') encodes.information (extracted s law word'), used))))
        x.answer

    pub writing_asked : Encoding s digits scratch word scratch' word' r × paper.Writing (of s) digits scratch word scratch' word' (status_number r)
    writing_asked = (x, writing)

  module _ {word scratch digits scratch' digits' : List ℕ} {r : Result (Unit {0}) Refusal} (x : Extraction s word scratch digits scratch' digits' r) where
    turn_extract : (e : Refusal) → r ≡ Err e
        → (status_number r ≡ 2 ^ 31 + refusal_number e) × (digits' ≡ digits) × (scratch' ≡ scratch_left (refusal_number e) scratch)
    turn_extract e h = let (left, used) = x.refused e h in (ap status_number h, left, used ∙ scratch_same s e scratch)

    pub extraction : paper.Extraction (of s) word scratch digits scratch' digits' (status_number r)
    unfolding status_of scratch_length kept_checks
    extraction =
        shape_tests s Err _ (turn_extract Refusal.Shape) (turn_extract Refusal.Slope) (λ law.
        test (eqb (length digits) (info_length s) && eqb (length scratch) (scratch_length s) && eqb (length word) (word_length s)) _ _
        (decides_both _ _ (decides_both _ _ (decides_eqb _ _) (decides_eqb _ _)) (decides_eqb _ _)) (turn_extract Refusal.Length) (λ _.
        test (narrow s.b word) _ _ (decides_width s word) (turn_extract Refusal.Width) (λ _ h.
        let (is, used) = x.done h in
        (ap status_number h, subst (paper.DataDigits (of s) word) (sym is) (extracted s law word), used))))
        x.answer

    pub extraction_asked : Extraction s word scratch digits scratch' digits' r × paper.Extraction (of s) word scratch digits scratch' digits' (status_number r)
    extraction_asked = (x, extraction)
