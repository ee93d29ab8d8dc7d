-- What an entry answers, from its tests, and what then stands in the lent slices.
use mathlib.Core.Path.{◌≡◌, refl, sym, ap, ◌∙◌}
use mathlib.Core.Bool.{Bool, true, false, ◌&&◌}
use mathlib.Core.List.{List}
use Prim.Native.Nat.{ℕ, ◌+◌, ◌*◌, ◌/◌}
use lib.Dec.{eqb}
use lib.ListN.{length, replicate}
use borrow.Author.Tests.{eqb-true, ne_eqb}
use Rattle.parity.proofs.Tests.{and_left, and_right, and_no_left, and_no_right}
use Rattle.gtb.specs.declared.Shape.{Shape}
use Rattle.gtb.specs.declared.Refusal.{Refusal}
use Rattle.std.specs.Prelude.{Result, Ok, Err}
use Rattle.gtb.specs.Shape.{lawful, shape_refusal, Lawful, word_length, info_length, scratch_length}
use Rattle.gtb.specs.Square.{narrow}
use Rattle.gtb.specs.Positions.{extract_of, Encodes}
use Rattle.gtb.specs.Answer.{scratch_after}
use Rattle.gtb.proofs.Kept.{old_scratch}
use Rattle.gtb.proofs.Answers.{shape_scratch, same_refusal, never_done, never_refused, unless_done}
use Rattle.encoder.specs.Contract.{status_of, Encoding, Extraction}
use Rattle.encoder.specs.Steps.{Tested}

-- the second test: the lengths of the three slices
abbrev pub sized : Shape → List ℕ → List ℕ → List ℕ → Bool
sized s symbols scratch word = eqb (length symbols) (info_length s) && eqb (length scratch) (scratch_length s) && eqb (length word) (word_length s)

module _ (s : Shape) (symbols scratch word given : List ℕ) where
  pub status_shape : lawful s ≡ false → status_of s symbols scratch word given ≡ Err (shape_refusal s)
  unfolding status_of
  status_shape h = rw h

  pub status_length : lawful s ≡ true → sized s symbols scratch word ≡ false → status_of s symbols scratch word given ≡ Err Refusal.Length
  unfolding status_of
  status_length h z = rw (h, z)

  -- among these the scratch of before N7
  pub status_old : Lawful s → length scratch ≡ s.n * s.q * ((s.q * s.q + 31) / 32) → status_of s symbols scratch word given ≡ Err Refusal.Length
  status_old h e =
      status_length h
      (and_no_left (eqb (length word) (word_length s))
      (and_no_right (eqb (length symbols) (info_length s)) (ne_eqb (length scratch) (scratch_length s) (λ z. old_scratch s h (sym e ∙ z)))))

  pub status_width : lawful s ≡ true → sized s symbols scratch word ≡ true → narrow s.b given ≡ false → status_of s symbols scratch word given ≡ Err Refusal.Width
  unfolding status_of
  status_width h z n = rw (h, z, n)

  pub status_done : lawful s ≡ true → sized s symbols scratch word ≡ true → narrow s.b given ≡ true → status_of s symbols scratch word given ≡ Ok tt
  unfolding status_of
  status_done h z n = rw (h, z, n)

-- ---- the tests
module _ (s : Shape) (symbols scratch word given scratch' : List ℕ) where
  pub tested_refused : (e : Refusal) → status_of s symbols scratch word given ≡ Err e → scratch' ≡ scratch_after e scratch → Tested s symbols scratch word given scratch' (Err e)
  tested_refused e is left = record { answer = sym is; refused = λ e' h. rw (same_refusal e e' h) at left; done = λ h. absurd (never_done e h) }

  pub tested_done : status_of s symbols scratch word given ≡ Ok tt → scratch' ≡ replicate (length scratch) 0 → Tested s symbols scratch word given scratch' (Ok tt)
  tested_done is left = record { answer = sym is; refused = λ e h. absurd (never_refused e h); done = λ h. left }

-- turned down by the shape: nothing else is tested
pub untested : (s : Shape) (symbols scratch word given : List ℕ) {e : Refusal} → lawful s ≡ false → e ≡ shape_refusal s → Tested s symbols scratch word given scratch (Err e)
untested s symbols scratch word given {e} h is =
    tested_refused s symbols scratch word given scratch e (status_shape s symbols scratch word given h ∙ ap Err (sym is)) (rw is (shape_scratch _ _))

-- what holds where the tests pass
pub record Passed (s : Shape) (symbols word given : List ℕ) : Type 0 where
  pub shape : Lawful s
  pub symbols_size : length symbols ≡ info_length s
  pub word_size : length word ≡ word_length s
  pub width : narrow s.b given ≡ true

pub passed : (s : Shape) (symbols scratch word given scratch' : List ℕ) (r : Result (Unit {0}) Refusal) → Tested s symbols scratch word given scratch' r → r ≡ Ok tt → Passed s symbols word given
unfolding status_of
passed s symbols scratch word given scratch' r t d =
    let (shape, rest) = unless_done (lawful s) (shape_refusal s) _ (sym t.answer ∙ d) in
    let (sizes, last) = unless_done (sized s symbols scratch word) Refusal.Length _ rest in
    let (width, end) = unless_done (narrow s.b given) Refusal.Width (Ok tt) last in
    record {
      shape = shape;
      symbols_size = eqb-true _ _ (and_left _ _ (and_left _ (eqb (length word) (word_length s)) sizes));
      word_size = eqb-true _ _ (and_right (eqb (length symbols) (info_length s) && eqb (length scratch) (scratch_length s)) _ sizes);
      width = width;
    }

-- ---- the entries
pub encoding_refused : (s : Shape) (symbols scratch word scratch' : List ℕ) (r : Result (Unit {0}) Refusal) (e : Refusal) → Tested s symbols scratch word symbols scratch' r → r ≡ Err e
    → Encoding s symbols scratch word scratch' word (Err e)
encoding_refused s symbols scratch word scratch' r e t is = record {
  answer = sym is ∙ t.answer;
  refused = λ e' h. (refl, t.refused e' (is ∙ h));
  done = λ h. absurd (never_done e h);
}

pub encoding_done : (s : Shape) (symbols scratch word scratch' word' : List ℕ) (r : Result (Unit {0}) Refusal) → Tested s symbols scratch word symbols scratch' r → r ≡ Ok tt → Encodes s symbols word'
    → Encoding s symbols scratch word scratch' word' (Ok tt)
encoding_done s symbols scratch word scratch' word' r t is out = record {
  answer = sym is ∙ t.answer;
  refused = λ e h. absurd (never_refused e h);
  done = λ h. (out, t.done is);
}

pub extraction_refused : (s : Shape) (word scratch symbols scratch' : List ℕ) (r : Result (Unit {0}) Refusal) (e : Refusal) → Tested s symbols scratch word word scratch' r → r ≡ Err e
    → Extraction s word scratch symbols scratch' symbols (Err e)
extraction_refused s word scratch symbols scratch' r e t is = record {
  answer = sym is ∙ t.answer;
  refused = λ e' h. (refl, t.refused e' (is ∙ h));
  done = λ h. absurd (never_done e h);
}

pub extraction_done : (s : Shape) (word scratch symbols scratch' symbols' : List ℕ) (r : Result (Unit {0}) Refusal) → Tested s symbols scratch word word scratch' r → r ≡ Ok tt → symbols' ≡ extract_of s word
    → Extraction s word scratch symbols scratch' symbols' (Ok tt)
extraction_done s word scratch symbols scratch' symbols' r t is out = record {
  answer = sym is ∙ t.answer;
  refused = λ e h. absurd (never_refused e h);
  done = λ h. (out, t.done is);
}
