-- The answers of checking, one for each way out.
use mathlib.Core.Path.{◌≡◌, refl, sym, ap, ◌∙◌, subst}
use mathlib.Core.Bool.{Bool, true, false, ◌&&◌}
use mathlib.Core.List.{List}
use Prim.Native.Nat.{ℕ, ◌-◌}
use lib.Dec.{eqb, leb}
use lib.ListN.{length}
use borrow.Author.Tests.{eq-eqb, ne_eqb}
use Rattle.parity.proofs.Tests.{and_no_left, and_no_right}
use Rattle.gtb.specs.declared.Shape.{Shape}
use Rattle.gtb.specs.declared.Refusal.{Refusal}
use Rattle.std.specs.Prelude.{Result, Ok, Err}
use Rattle.gtb.specs.Shape.{lawful, shape_refusal, Lawful, word_length}
use Rattle.gtb.specs.Square.{at, narrow, silent_test}
use Rattle.gtb.specs.Answer.{unless}
use Rattle.gtb.specs.Lent.{word_status}
use Rattle.correction.specs.Error.{weight}
use Rattle.verify.specs.Verify.{difference, unmasked_test, restores, verdict_of, Checking}
use Rattle.verify.proofs.Meaning.{check_meets}

-- ---- past the tests
and_assoc : (a b c : Bool) → (a && (b && c)) ≡ (a && b && c)
and_assoc true b c = refl
and_assoc false b c = refl

module _ (s : Shape) (w v : List ℕ) where
  pub no_codeword : silent_test s (at v) ≡ false → false ≡ restores s w v
  unfolding restores
  no_codeword h = sym (and_no_left (unmasked_test s (difference w v)) (and_no_left (leb (weight s (difference w v)) (s.n - 1)) h))

  pub codeword_decides : {r : Bool} → silent_test s (at v) ≡ true → r ≡ (leb (weight s (difference w v)) (s.n - 1) && unmasked_test s (difference w v)) → r ≡ restores s w v
  unfolding restores
  codeword_decides h e =
      e ∙ sym (ap (λ (b : Bool). b && (leb (weight s (difference w v)) (s.n - 1) && unmasked_test s (difference w v))) h) ∙ and_assoc (silent_test s (at v)) _ _

-- ---- the contract from its equation
checking : {s : Shape} {w v : List ℕ} {r : Result Bool Refusal} → r ≡ verdict_of s w v → Checking s w v r
checking {s} {w} {v} {r} answer = subst (λ (y : Result Bool Refusal). Checking s w v y) (sym answer) (check_meets s w v)

pub refuses_shape : {s : Shape} {w v : List ℕ} {e : Refusal} → lawful s ≡ false → e ≡ shape_refusal s → Checking s w v (Err e)
unfolding verdict_of
refuses_shape h is = checking (rw h (ap Err is))

-- past the tests of the shape and the proposal's length: tests 2 and 3, word after word
abbrev past : Result (Unit {0}) Refusal → Result Bool Refusal → Result Bool Refusal
past (Ok tt) r = r
past (Err e) r = Err e

by_words : (a b c : Bool) (r : Result Bool Refusal) → unless (a && true) (Err Refusal.Length) (unless (b && c) (Err Refusal.Width) r)
    ≡ past (unless a (Err Refusal.Length) (unless b (Err Refusal.Width) (Ok tt))) (past (unless c (Err Refusal.Width) (Ok tt)) r)
by_words false b c r = refl
by_words true false c r = refl
by_words true true false r = refl
by_words true true true r = refl

module _ (s : Shape) (law : Lawful s) (w v : List ℕ) where
  pub refuses_length : (length v ≡ word_length s → ⊥) → Checking s w v (Err Refusal.Length)
  unfolding verdict_of
  refuses_length ne = checking (rw (law, and_no_right (eqb (length w) (word_length s)) (ne_eqb (length v) (word_length s) ne)))

  module _ (size : length v ≡ word_length s) where
    by_status : verdict_of s w v ≡ past (word_status s w) (past (word_status s v) (Ok (restores s w v)))
    unfolding verdict_of word_status
    by_status = rw (law, eq-eqb (length v) (word_length s) size) (by_words (eqb (length w) (word_length s)) (narrow s.b w) (narrow s.b v) (Ok (restores s w v)))

    pub refuses_received : {e : Refusal} → word_status s w ≡ Err e → Checking s w v (Err e)
    refuses_received h = checking (sym (by_status ∙ rw h))

    pub refuses_proposed : {e : Refusal} → word_status s w ≡ Ok tt → word_status s v ≡ Err e → Checking s w v (Err e)
    refuses_proposed h g = checking (sym (by_status ∙ rw (h, g)))

    pub decides : {b : Bool} → word_status s w ≡ Ok tt → word_status s v ≡ Ok tt → restores s w v ≡ b → Checking s w v (Ok b)
    decides h g t = checking (sym (by_status ∙ rw (h, g, t)))
