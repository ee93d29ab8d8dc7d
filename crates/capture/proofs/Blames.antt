-- The line that is blamed is the first at fault: line 1; line 2 after a right line 1; line 3 after two right lines.
use mathlib.Core.Path.{◌≡◌, refl, ap, ◌∙◌}
use mathlib.Core.Bool.{true, false}
use mathlib.Core.List.{List, [], ◌∷◌, ◌++◌}
use Prim.Native.Nat.{ℕ}
use lib.ListN.{length}
use Rattle.gtb.specs.declared.Refusal.{Refusal}
use Rattle.gtb.specs.Shape.{lawful}
use Rattle.lines.specs.Text.{newline, names_shape, names_word, same_bytes}
use Rattle.lines.specs.Content.{Spelled}
use Rattle.session.specs.declared.Session.{Session}
use Rattle.session.specs.Session.{fresh_of}
use Rattle.capture.specs.declared.Expected.TheVariants as expected
use Rattle.capture.specs.declared.Fault.{Fault}
use Rattle.capture.specs.declared.Phase.{Phase}
use Rattle.capture.specs.declared.Phase.TheVariants.{ShapeValues, WordNames, Ended}
use Rattle.capture.specs.declared.Tally.{Tally}
use Rattle.capture.specs.declared.Judged.{Judged}
use Rattle.capture.specs.Judge.{kept_of, line_content, fault_in, passed, fault, shape_in, judged_of, start}
use Rattle.capture.specs.Feed.{Fed, feed}
use Rattle.capture.specs.Print.{Unbroken}
use Rattle.capture.proofs.Judges.{names_right, names_wrong, word_wrong, values_wrong, shape_right, shape_wrong}
use Rattle.capture.proofs.Feeds.{feed_end, feed_run, ended_silent}
use Rattle.capture.proofs.Print.{unbroken_none}

-- the line that is next after some bytes from here on
abbrev pub reached : Tally → List ℕ → Phase
reached t bytes = (feed t [] bytes).tally.phase

-- a line and what follows
abbrev pub line_then : List ℕ → List ℕ → List ℕ
line_then line rest = line ++ (newline ∷ rest)

module _ (t : Tally) (line rest : List ℕ) (u : Unbroken line) where
  line_fed : reached t (line_then line rest) ≡ reached (judged_of t line).tally rest
  line_fed = ap (λ (x : Fed). x.tally.phase) (feed_run t line [] (newline ∷ rest) (unbroken_none line u) ∙ feed_end t line newline rest refl)

  faulty_line : (σ : Session) (f : Fault) (e : Refusal) → judged_of t line ≡ fault σ f e → reached t (line_then line rest) ≡ Ended f
  faulty_line σ f e h = line_fed ∙ ap (λ (j : Judged). reached j.tally rest) h ∙ (ended_silent rest (record { phase = Ended f; session = σ }) [] refl).phase

  passed_line : (p : Phase) (σ : Session) → judged_of t line ≡ passed p σ → reached t (line_then line rest) ≡ reached (record { phase = p; session = σ }) rest
  passed_line p σ h = line_fed ∙ ap (λ (j : Judged). reached j.tally rest) h

-- ---- line 1
pub first_blamed : (line rest : List ℕ) → Unbroken line → same_bytes line names_shape ≡ false → reached start (line_then line rest) ≡ Ended (fault_in expected.ShapeNames (kept_of line))
first_blamed line rest u h = faulty_line start line rest u _ _ _ (names_wrong line h)

-- ---- line 2, after a right line 1
abbrev second : Tally
second = record { phase = ShapeValues; session = start.session }

after_first : (rest : List ℕ) → reached start (line_then names_shape rest) ≡ reached second rest
after_first rest = passed_line start names_shape rest refl ShapeValues start.session names_right

-- no three values
pub second_blamed : (line rest : List ℕ) → Unbroken line → ((xs : List ℕ) → line_content line ≡ Spelled xs → length xs ≡ 3 → ⊥)
    → reached start (line_then names_shape (line_then line rest)) ≡ Ended (fault_in expected.ShapeValues (kept_of line))
second_blamed line rest u h = after_first (line_then line rest) ∙ faulty_line second line rest u _ _ _ (values_wrong start.session line h)

-- three values that are no shape
pub shape_blamed : (line rest xs : List ℕ) → Unbroken line → line_content line ≡ Spelled xs → length xs ≡ 3 → lawful (shape_in xs) ≡ false
    → reached start (line_then names_shape (line_then line rest)) ≡ Ended (fault_in expected.Shape (kept_of line))
shape_blamed line rest xs u c three h = after_first (line_then line rest) ∙ faulty_line second line rest u _ _ _ (shape_wrong start.session line xs c three h)

-- ---- line 3, after two right lines
pub third_blamed : (shape xs line rest : List ℕ) → Unbroken shape → line_content shape ≡ Spelled xs → length xs ≡ 3 → lawful (shape_in xs) ≡ true → Unbroken line → same_bytes line names_word ≡ false
    → reached start (line_then names_shape (line_then shape (line_then line rest))) ≡ Ended (fault_in expected.WordNames (kept_of line))
third_blamed shape xs line rest v c three law u h =
    let σ = fresh_of (shape_in xs) in
    after_first (line_then shape (line_then line rest))
    ∙ passed_line second shape (line_then line rest) v WordNames σ (shape_right start.session shape xs c three law)
    ∙ faulty_line (record { phase = WordNames; session = σ }) line rest u _ _ _ (word_wrong σ line h)
