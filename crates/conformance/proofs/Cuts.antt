-- The paper's cut of a text into lines: there is one, and no other.
use mathlib.Core.Path.{◌≡◌, refl, sym, ap, subst}
use mathlib.Core.Bool.{true, false, not}
use mathlib.Core.List.{List, [], ◌∷◌, ◌++◌, append_assoc, append-nil, head-eq_of_cons-eq, tail-eq_of_cons-eq}
use mathlib.Core.Logic.{⊎_elim}
use Prim.Native.Nat.{ℕ, zero, suc, ◌<◌, suc-le-suc}
use native.Mathlib.Nat.{not-suc-le-zero, zero-lt-suc, le_of_suc-le-suc}
use lib.Dec.{eqb}
use lib.ListN.{length}
use borrow.Author.Tests.{eqb-true}
use Rattle.parity.proofs.Tests.{either, and_both}
use Rattle.paper.specs.Program as paper
use Rattle.capture.specs.Print.{Unbroken}
use Rattle.capture.proofs.Print.{unbroken_append, unbroken_none}

-- no line has a newline in it
pub record Each (lines : List (List ℕ)) : Type 0 where
  pub line : (i : ℕ) → i < length lines → paper.Unbroken (paper.line_at lines i)

each_cons : (line : List ℕ) (lines : List (List ℕ)) → paper.Unbroken line → Each lines
    → (i : ℕ) → i < length (line ∷ lines) → paper.Unbroken (paper.line_at (line ∷ lines) i)
each_cons line lines first others zero l = first
each_cons line lines first others (suc i) l = others.line i (le_of_suc-le-suc l)

pub each_tail : {line : List ℕ} {lines : List (List ℕ)} → Each (line ∷ lines) → Each lines
each_tail each = record { line = λ i l. each.line (suc i) (suc-le-suc l) }

pub each_first : {line : List ℕ} {lines : List (List ℕ)} → Each (line ∷ lines) → paper.Unbroken line
each_first {lines = lines} each = each.line 0 (zero-lt-suc (length lines))

pub record Cut (bytes : List ℕ) : Type 0 where
  pub lines : List (List ℕ)
  pub rest : List ℕ
  pub read : bytes ≡ paper.joined lines rest
  pub each : Each lines
  pub unended : paper.Unbroken rest

-- `held` stands before the bytes that are left
cut_after : (held bytes : List ℕ) → Unbroken held → Cut (held ++ bytes)
cut_after held [] h = record {
  lines = [];
  rest = held;
  read = append-nil held;
  each = record { line = λ i l. absurd (not-suc-le-zero l) };
  unended = unbroken_none held h;
}
cut_after held (b ∷ bytes) h =
    ⊎_elim
    (λ (t : eqb b 10 ≡ true).
    let c = cut_after [] bytes refl in
    let newline : b ≡ 10 = eqb-true b 10 t in
    record {
      lines = held ∷ c.lines;
      rest = c.rest;
      read = λ i. held ++ newline i ∷ c.read i;
      each = record { line = each_cons held c.lines (unbroken_none held h) c.each };
      unended = c.unended;
    })
    (λ (f : eqb b 10 ≡ false).
    subst Cut (append_assoc held (b ∷ []) bytes)
    (cut_after (held ++ (b ∷ [])) bytes (unbroken_append held (b ∷ []) h (and_both (ap not f) refl))))
    (either (eqb b 10))

pub cut : (bytes : List ℕ) → Cut bytes
cut bytes = cut_after [] bytes refl

-- ---- no other
unbroken_tail : (b : ℕ) (text : List ℕ) → paper.Unbroken (b ∷ text) → paper.Unbroken text
unbroken_tail b text u i l = u (suc i) (suc-le-suc l)

broken : (line text : List ℕ) → ¬ paper.Unbroken (line ++ 10 ∷ text)
broken [] text u = u 0 (zero-lt-suc (length text)) refl
broken (b ∷ line) text u = broken line text (unbroken_tail b (line ++ 10 ∷ text) u)

first_once : (line other : List ℕ) {text text' : List ℕ} → paper.Unbroken line → paper.Unbroken other
    → line ++ 10 ∷ text ≡ other ++ 10 ∷ text' → (line ≡ other) × (text ≡ text')
first_once [] [] u v e = (refl, tail-eq_of_cons-eq e)
first_once [] (c ∷ other) u v e = absurd (v 0 (zero-lt-suc (length other)) (sym (head-eq_of_cons-eq e)))
first_once (b ∷ line) [] u v e = absurd (u 0 (zero-lt-suc (length line)) (head-eq_of_cons-eq e))
first_once (b ∷ line) (c ∷ other) u v e =
    let byte : b ≡ c = head-eq_of_cons-eq e in
    let (same, same_text) =
    first_once line other (unbroken_tail b line u) (unbroken_tail c other v) (tail-eq_of_cons-eq e) in
    (λ i. byte i ∷ same i, same_text)

pub lines_once : (lines others : List (List ℕ)) {rest rest' : List ℕ}
    → Each lines → Each others → paper.Unbroken rest → paper.Unbroken rest'
    → paper.joined lines rest ≡ paper.joined others rest' → (lines ≡ others) × (rest ≡ rest')
lines_once [] [] each each' last last' e = (refl, e)
lines_once [] (other ∷ others) each each' last last' e = absurd (broken other _ (subst paper.Unbroken e last))
lines_once (line ∷ lines) [] each each' last last' e = absurd (broken line _ (subst paper.Unbroken (sym e) last'))
lines_once (line ∷ lines) (other ∷ others) each each' last last' e =
    let (same_line, same_text) = first_once line other (each_first each) (each_first each') e in
    let (same, same_rest) = lines_once lines others (each_tail each) (each_tail each') last last' same_text in
    (λ i. same_line i ∷ same i, same_rest)
