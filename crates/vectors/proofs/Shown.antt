-- The table holds: each line is computed from the definitions.
use mathlib.Core.Path.{◌≡◌, refl}
use mathlib.Core.Bool.{true, beq}
use mathlib.Core.List.{List, [], ◌∷◌}
use Prim.Native.Nat.{ℕ}
use lib.ListN.{length}
use Rattle.parity.specs.Xor.{◌⊕◌, xor_sum, when}
use Rattle.parity.specs.Count.{bit, sum, count, any, all, first_value}
use Rattle.parity.specs.Lists.{tabulate}
use Rattle.parity.proofs.Tests.{all_elim, agree}
use Rattle.gtb.specs.declared.Shape.{Shape}
use Rattle.gtb.specs.Shape.{standard, orders, is_order, lawful, Lawful, shape_refusal, slope_of, word_length, regular, sloped, fits_slope}
use Rattle.gtb.specs.Square.{line_of, at, narrow, syndrome, silent_test}
use Rattle.gtb.specs.Positions.{info_position, extract_of, Encodes, is_information}
use Rattle.gtb.proofs.Positions.{information_positions}
use Rattle.gtb.proofs.Words.{narrow_word, test_silent}
use Rattle.correction.specs.Error.{damaged, mended}
use Rattle.correction.specs.Reading.{changes_by, restored_by, accepted_by, read_of}
use Rattle.decoder.specs.Decode.{located, alone, error_at}
use Rattle.page.specs.Page.{functions, zeros, page_of, page_symbols}
use Rattle.vectors.specs.Bench.{among, Places, stored, Bench}

-- the places are those of the closed form, by one computed test
places : (s : Shape) → Lawful s → s.q ≡ 3 → (list : List ℕ) → all 9 (λ j. beq (among list j) (is_information s j)) ≡ true → Places s list
places s law three list test = record {
  exactly = λ j l.
      rw (agree (among list j) (is_information s j) (all_elim 9 (λ j. beq (among list j) (is_information s j)) test j l))
      ((information_positions s law).exact j (rw three l));
}

-- a word that passes the computed tests is a codeword with these information symbols
encodes : (s : Shape) (symbols w : List ℕ) → length w ≡ word_length s → narrow s.b w ≡ true → silent_test s (at w) ≡ true → extract_of s w ≡ symbols
    → Encodes s symbols w
encodes s symbols w size slim quiet info =
    record { codeword = record { word = narrow_word s w size slim; checks = test_silent s (at w) quiet }; information = info }

p1 : (b : ℕ) → Lawful (standard 3 2 b) → Places (standard 3 2 b) (4 ∷ 5 ∷ 7 ∷ 8 ∷ [])
unfolding any all is_information
p1 b law = places (standard 3 2 b) law refl (4 ∷ 5 ∷ 7 ∷ 8 ∷ []) refl

p2 : (b : ℕ) → Lawful (standard 3 3 b) → Places (standard 3 3 b) (7 ∷ 8 ∷ [])
unfolding any all is_information
p2 b law = places (standard 3 3 b) law refl (7 ∷ 8 ∷ []) refl

pub bench : Bench
unfolding shape_refusal silent_test mended damaged tabulate read_of lawful regular sloped fits_slope is_order orders narrow accepted_by changes_by restored_by error_at first_value alone located all any bit sum count syndrome xor_sum when line_of slope_of ◌⊕◌ extract_of info_position page_of page_symbols functions zeros
bench = record {
  p1 = p1;
  p2 = p2;
  p3 = encodes (standard 3 2 3) (3 ∷ 5 ∷ 6 ∷ 7 ∷ []) (7 ∷ 5 ∷ 2 ∷ 6 ∷ 3 ∷ 5 ∷ 1 ∷ 6 ∷ 7 ∷ []) refl refl refl refl;
  p4 = encodes (standard 3 3 3) (5 ∷ 3 ∷ []) stored refl refl refl refl;
  p5 = (refl, refl);
  p6 = refl;
  p7 = encodes (standard 3 2 8) (page_symbols (standard 3 2 8) 1 (3 ∷ 5 ∷ [])) (5 ∷ 2 ∷ 7 ∷ 3 ∷ 1 ∷ 2 ∷ 6 ∷ 3 ∷ 5 ∷ []) refl refl refl refl;
  p8 = refl;
  p9 = refl;
  p10 = refl;
  p10_past = refl;
  accepted = (refl, refl);
  refused = ((refl, refl), (refl, refl), (refl, refl), (refl, refl), (refl, refl));
  mark = refl;
  mark_past = refl;
}
