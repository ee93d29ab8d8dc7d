-- The program's text, piece by piece, is the paper's: numbers, values, the lines of the output, what a line says.
use mathlib.Core.Path.{◌≡◌, refl, sym, ap, ◌∙◌, subst}
use mathlib.Core.Bool.{Bool, true, false, cond}
use mathlib.Core.List.{List, [], ◌∷◌, ◌++◌, append_assoc}
use mathlib.Core.Logic.{◌⊎◌, inl, inr, ⊎_elim}
use Prim.Native.Nat.{ℕ, zero, suc, ◌+◌, ◌/◌, ◌%◌, ◌^◌, ◌<◌}
use native.Mathlib.Omega.{arith}
use lib.Dec.{ltb}
use lib.ListN.{length, get_or}
use borrow.Author.Tests.{ltb-true, lt-ltb, ne_eqb}
use Rattle.parity.proofs.Tests.{either, clash}
use Rattle.paper.specs.Program as paper
use Rattle.lines.specs.declared.Kind.{Kind}
use Rattle.lines.specs.declared.Kind.TheVariants as kind
use Rattle.lines.specs.Text as text
use Rattle.lines.specs.Content.{Content, Spelled, Unreadable, values_in, content_of}
use Rattle.lines.proofs.Same.{same_equal, equal_same}
use Rattle.lines.proofs.Contents.{content_spelled, content_none}
use Rattle.session.specs.declared.Outcome.{Outcome}
use Rattle.session.specs.declared.Outcome.TheVariants.{Taken, Again, Refused}
use Rattle.session.specs.Arrival.{outcome_values}
use Rattle.capture.specs.Judge.{kept_of, line_content}
use Rattle.capture.specs.Output.{outcome_line, calls_from}

-- ---- numbers and values
same_digits : (steps x : ℕ) → text.digits steps x ≡ paper.digits steps x
same_digits zero x = refl
same_digits (suc steps) x =
    ap
    (λ (l : List ℕ). elim (ltb x 10) as (λ _. List ℕ) [ true ↦ (48 + x) ∷ [] | false ↦ l ++ ((48 + x % 10) ∷ []) ])
    (same_digits steps (x / 10))

same_decimal : (x : ℕ) → text.decimal x ≡ paper.decimal x
unfolding text.decimal paper.decimal
same_decimal x = same_digits (suc x) x

same_spell : (xs : List ℕ) → text.spell xs ≡ paper.spell xs
unfolding text.spell paper.spell
same_spell [] = refl
same_spell (x ∷ []) = same_decimal x
same_spell (x ∷ (y ∷ ys)) = λ i. same_decimal x i ++ 32 ∷ same_spell (y ∷ ys) i

-- ---- the lines of the output
same_values : (kind : Kind) (k number fixed : ℕ) → text.outcome_name kind ≡ paper.outcome_name k
    → text.outcome_text kind number fixed ≡ paper.answer_line (k ∷ number ∷ fixed ∷ [])
unfolding text.outcome_text paper.answer_line
same_values kind k number fixed same_name =
    λ i. same_name i ++ 32 ∷ same_decimal number i ++ 32 ∷ same_decimal fixed i ++ 10 ∷ []

pub same_answer : (r : Outcome) → outcome_line r ≡ paper.answer_line (outcome_values r)
unfolding outcome_line text.outcome_name
same_answer (Taken number k) = same_values kind.Taken 0 number k refl
same_answer (Again number k) = same_values kind.Again 1 number k refl
same_answer (Refused e) = same_values kind.Refused 2 _ 0 refl

-- the second table
pub same_table : (f : ℕ) (calls : List ℕ) → calls_from f calls ≡ paper.table f calls
unfolding calls_from text.count_text paper.table
same_table f [] = refl
same_table f (zero ∷ calls) = same_table (suc f) calls
same_table f (suc k ∷ calls) =
    let rest = calls_from (suc f) calls in
    ap (λ (none : Bool). cond none rest (text.count_text f (suc k) ++ rest)) (ne_eqb (suc k) 0 (λ e. omega arith))
    ∙ append_assoc (text.decimal f ++ 32 ∷ text.decimal (suc k)) (10 ∷ []) rest
    ∙ (λ i. same_decimal f i ++ 32 ∷ same_decimal (suc k) i ++ 10 ∷ same_table (suc f) calls i)

-- ---- what a line says
pub spelled_same : {xs ys : List ℕ} → Spelled xs ≡ Spelled ys → xs ≡ ys
spelled_same h = cc

pub spelled_unread : {xs : List ℕ} → Spelled xs ≡ Unreadable → ⊥
spelled_unread h = let z : ◌≡◌ {A = ℕ} 0 1 = cc in omega arith

short_content : (line : List ℕ) → length line < 16384 → line_content line ≡ content_of line
unfolding kept_of
short_content line l = rw (lt-ltb (length line) 16384 l)

content_is : {line xs : List ℕ} → paper.Line line xs → line_content line ≡ Spelled xs
content_is {line} {xs} h =
    short_content line (omega (arith, h.size))
    ∙ content_spelled line xs (record { some = h.some; small = h.small; text = h.text ∙ sym (same_spell xs) })

-- its values are the only ones
pub line_once : {line xs ys : List ℕ} → paper.Line line xs → paper.Line line ys → xs ≡ ys
line_once x y = spelled_same (sym (content_is x) ∙ content_is y)

-- a line says values only if it spells them: each part of that is a test, and what fails it is unreadable
module _ (line xs : List ℕ) (says : content_of line ≡ Spelled xs) where
  sure : (t : Bool) → (text.Spells line xs → t ≡ true) → t ≡ true
  sure t holds =
      ⊎_elim (λ (h : t ≡ true). h)
      (λ (f : t ≡ false).
      let none : (ys : List ℕ) → text.Spells line ys → ⊥ =
      λ ys s. clash (holds (subst (text.Spells line) (spelled_same (sym (content_spelled line ys s) ∙ says)) s)) f in
      absurd (spelled_unread (sym says ∙ content_none line none)))
      (either t)

  below : (k n : ℕ) → (text.Spells line xs → k < n) → k < n
  below k n holds = ltb-true k n (sure (ltb k n) (λ s. lt-ltb k n (holds s)))

  says_values : length line < 16384 → paper.Line line xs
  says_values short = record {
    some = below 0 (length xs) (λ s. s.some);
    small = λ i l. below (get_or xs i 0) (2 ^ 32) (λ s. s.small i l);
    text =
        same_equal line (text.spell xs) (sure (text.same_bytes line (text.spell xs)) (λ s. equal_same s.text))
        ∙ same_spell xs;
    size = omega arith;
  }

nothing_said : content_of [] ≡ Unreadable
unfolding content_of values_in text.same_bytes text.spell text.decimal
nothing_said = refl

content_line : (line xs : List ℕ) → line_content line ≡ Spelled xs → paper.Line line xs
unfolding kept_of
content_line line xs h =
    ⊎_elim
    (λ (short : ltb (length line) 16384 ≡ true).
    says_values line xs (rw short at h) (ltb-true (length line) 16384 short))
    (λ (long : ltb (length line) 16384 ≡ false). absurd (spelled_unread (sym h ∙ rw long nothing_said)))
    (either (ltb (length line) 16384))

-- a line has values, and then they are what we read in it, or none
pub record Values (line : List ℕ) : Type 0 where
  pub values : List ℕ
  pub has : paper.Line line values
  pub read : line_content line ≡ Spelled values

pub record NoValues (line : List ℕ) : Type 0 where
  pub none : (values : List ℕ) → ¬ paper.Line line values
  pub read : line_content line ≡ Unreadable

pub reads : (line : List ℕ) → Values line ⊎ NoValues line
reads line = by_content (line_content line) refl
  where
    by_content : (c : Content) → line_content line ≡ c → Values line ⊎ NoValues line
    by_content (Spelled xs) h = inl (record { values = xs; has = content_line line xs h; read = h })
    by_content Unreadable h = inr (record { none = λ xs x. spelled_unread (sym (content_is x) ∙ h); read = h })
