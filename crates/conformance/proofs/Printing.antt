-- What the program writes is what the paper asks, for every input.
use mathlib.Core.Path.{◌≡◌, refl, sym, ap, ◌∙◌, subst}
use mathlib.Core.Bool.{true, false}
use mathlib.Core.List.{List, [], ◌∷◌, ◌++◌, append_assoc}
use mathlib.Core.Logic.{◌⊎◌, inl, inr, ⊎_elim}
use Prim.Native.Nat.{ℕ, ◌-◌, ◌^◌}
use native.Mathlib.Omega.{arith}
use lib.Dec.{eqb}
use lib.ListN.{length, take, drop}
use borrow.Author.Tests.{eqb-true, eqb-false}
use Rattle.parity.proofs.Tests.{either, clash, and_left}
use Rattle.paper.specs.Paper as paper
use Rattle.gtb.specs.declared.Shape.{Shape}
use Rattle.gtb.specs.declared.Refusal.{Refusal}
use Rattle.gtb.specs.Shape.{of, standard, regular, sloped, lawful, shape_refusal}
use Rattle.gtb.proofs.Answers.{other_refusal}
use Rattle.gtb.proofs.Standard.{standard_refusal}
use Rattle.gtb.proofs.Conditions.{shape_regular, decides_shape}
use Rattle.lines.specs.Text.{same_bytes, names_shape, names_word, names_outcome, names_calls}
use Rattle.lines.specs.Content.{Spelled, Unreadable}
use Rattle.lines.proofs.Same.{same_equal, equal_same}
use Rattle.session.specs.declared.Session.{Session}
use Rattle.session.specs.Session.{plain, fresh_of}
use Rattle.capture.specs.declared.Expected.TheVariants as expected
use Rattle.capture.specs.declared.Phase.TheVariants.{ShapeValues, WordNames, Words}
use Rattle.capture.specs.declared.Tally.{Tally}
use Rattle.capture.specs.Judge.{kept_of, line_content, passed, fault_in, fault, shape_in, judged_of, start}
use Rattle.capture.specs.Feed.{output_of}
use Rattle.capture.specs.Print.{answer_lines}
use Rattle.capture.proofs.Judges.{names_right, names_wrong, word_right, word_wrong, values_wrong, shape_right, shape_wrong}
use Rattle.capture.proofs.Texts.{closing_in}
use Rattle.capture.proofs.Print.{answers_to, end_of}
use Rattle.conformance.proofs.Runs as runs
use Rattle.conformance.proofs.Texts.{spelled_same, spelled_unread, line_once, Values, NoValues, reads}
use Rattle.conformance.proofs.Cuts.{Each, each_first, each_tail, cut}
use Rattle.conformance.proofs.WordLines.{coming, passed_on, faulted, missing, word_lines, words_text}

-- ---- lines 1 to 3 judged
first_named : (line : List ℕ) → same_bytes line names_shape ≡ true → judged_of start line ≡ passed ShapeValues start.session
first_named line h = subst (λ (l : List ℕ). judged_of start l ≡ passed ShapeValues start.session) (sym (same_equal line names_shape h)) names_right

module _ (σ : Session) (line : List ℕ) where
  abbrev second : Tally
  second = record { phase = ShapeValues; session = σ }

  abbrev third : Tally
  third = record { phase = WordNames; session = σ }

  second_none : line_content line ≡ Unreadable → judged_of second line ≡ fault σ (fault_in expected.ShapeValues (kept_of line)) Refusal.Syntax
  second_none h = values_wrong σ line (λ xs says three. spelled_unread (sym says ∙ h))

  module _ (xs : List ℕ) (h : line_content line ≡ Spelled xs) where
    second_other : eqb (length xs) 3 ≡ false → judged_of second line ≡ fault σ (fault_in expected.ShapeValues (kept_of line)) Refusal.Syntax
    second_other n = values_wrong σ line (λ ys says three. eqb-false (length xs) 3 n (ap length (spelled_same (sym h ∙ says)) ∙ three))

    second_outside : eqb (length xs) 3 ≡ true → lawful (shape_in xs) ≡ false
        → judged_of second line ≡ fault σ (fault_in expected.Shape (kept_of line)) Refusal.Shape
    second_outside n out = shape_wrong σ line xs h (eqb-true (length xs) 3 n) out ∙ ap (fault σ (fault_in expected.Shape (kept_of line))) (standard_refusal _ _ _ out)

    second_shape : eqb (length xs) 3 ≡ true → lawful (shape_in xs) ≡ true → judged_of second line ≡ passed WordNames (fresh_of (shape_in xs))
    second_shape n law = shape_right σ line xs h (eqb-true (length xs) 3 n) law

  third_named : same_bytes line names_word ≡ true → judged_of third line ≡ passed Words σ
  third_named h = subst (λ (l : List ℕ). judged_of third l ≡ passed Words σ) (sym (same_equal line names_word h)) (word_right σ)

-- a standard shape is lawful exactly where it is in its lists
outside : (q n b : ℕ) → lawful (standard q n b) ≡ false → ¬ paper.InLists (of (standard q n b))
unfolding shape_refusal
outside q n b out listed =
    other_refusal Refusal.Slope Refusal.Shape refl
    (rw (shape_regular (standard q n b) listed) at (standard_refusal q n b out))

inside : (s : Shape) → lawful s ≡ true → ¬ (¬ paper.InLists (of s))
unfolding lawful
inside s law = (decides_shape s).fails (and_left (regular s) (sloped s) law)

-- ---- the conditions on lines 2 and 3, and what is printed
abbrev Valueless : List (List ℕ) → Type 0
Valueless lines = (values : List ℕ) → ¬ paper.ThreeValues lines values

abbrev Outside : List (List ℕ) → Type 0
Outside lines = (values : List ℕ) × paper.ThreeValues lines values × (¬ paper.InLists (paper.shape_of values))

abbrev Unnamed : List (List ℕ) → Type 0
Unnamed lines = ¬ paper.Named lines 2 (paper.ascii "word")

abbrev pub Refusing : List ℕ → ℕ → Type 0
Refusing output k = output ≡ paper.ascii "outcome page fixed\n" ++ paper.refused_line k

-- both tables: the lines for the words, that for a cut line, and the counts
abbrev pub tables : List ℕ → List ℕ → List ℕ → List ℕ
tables words rest calls =
    paper.ascii "outcome page fixed\n" ++ words ++ paper.cut_line rest
    ++ paper.ascii "function calls\n" ++ paper.table 0 calls

abbrev pub Accepted : List (List ℕ) → List ℕ → List ℕ → Type 0
Accepted lines rest output =
    (values words : List ℕ) × (end : paper.Session) × paper.ThreeValues lines values
    × paper.WordLines (paper.fresh (paper.shape_of values)) (drop 3 lines) words end
    × (output ≡ tables words rest end.calls)

bracket : (a b c d e : List ℕ) → a ++ (b ++ (c ++ (d ++ e))) ≡ a ++ b ++ c ++ d ++ e
bracket a b c d e = simp append_assoc

module _ (rest : List ℕ) (last : paper.Unbroken rest) (output : List ℕ) where
  -- the output ends in what comes of these lines
  abbrev From : Tally → List (List ℕ) → Type 0
  From t lines = output ≡ names_outcome ++ coming t (paper.joined lines rest)

  ends : {old text : List ℕ} → output ≡ names_outcome ++ old → old ≡ text → output ≡ names_outcome ++ text
  ends e h = e ∙ ap (λ (l : List ℕ). names_outcome ++ l) h

  accepted : (first second third : List ℕ) (lines : List (List ℕ)) (xs : List ℕ) → Each lines
      → paper.ThreeValues (first ∷ second ∷ third ∷ lines) xs
      → From (record { phase = Words; session = fresh_of (shape_in xs) }) lines
      → Accepted (first ∷ second ∷ third ∷ lines) rest output
  unfolding fresh_of
  accepted first second third lines xs each three e =
      let σ : Session = fresh_of (shape_in xs) in
      let words : List ℕ = answer_lines (answers_to σ lines) in
      let end : Session = end_of σ lines in (
        xs,
        words,
        plain end,
        three,
        word_lines lines σ (runs.keeps (shape_in xs) [] 0),
        ends e (words_text lines rest σ each last)
            ∙ bracket names_outcome words (paper.cut_line rest) names_calls (paper.table 0 end.calls),
      )

  -- from line 3 on
  abbrev Third : List (List ℕ) → Type 0
  Third lines = (Unnamed lines × Refusing output 10) ⊎ ((¬ Unnamed lines) × Accepted lines rest output)

  from_third : (first second : List ℕ) (lines : List (List ℕ)) (xs : List ℕ) → Each lines
      → paper.ThreeValues (first ∷ second ∷ lines) xs
      → From (record { phase = WordNames; session = fresh_of (shape_in xs) }) lines → Third (first ∷ second ∷ lines)
  from_third first second [] xs each three e =
      let t : Tally = record { phase = WordNames; session = fresh_of (shape_in xs) } in
      inl (λ named. let l = named.0 in omega arith, ends e (missing t rest last (closing_in t rest refl)))
  from_third first second (third ∷ lines) xs each three e =
      let σ : Session = fresh_of (shape_in xs) in
      let t : Tally = record { phase = WordNames; session = σ } in
      let u = each_first each in
      ⊎_elim
      (λ (same : same_bytes third names_word ≡ true).
      inr (
        λ unnamed. unnamed (omega arith, same_equal third names_word same),
        accepted first second third lines xs (each_tail each) three
            (ends e (passed_on t third lines rest u Words σ (third_named σ third same))),
      ))
      (λ (other : same_bytes third names_word ≡ false).
      inl (
        λ named. clash (equal_same named.1) other,
        ends e (faulted t third lines rest u σ _ Refusal.Syntax (word_wrong σ third other)),
      ))
      (either (same_bytes third names_word))

  -- from line 2 on
  abbrev Second : List (List ℕ) → Type 0
  Second lines =
      (Valueless lines × Refusing output 10)
      ⊎ ((¬ Valueless lines) × ((Outside lines × Refusing output 1) ⊎ ((¬ Outside lines) × Third lines)))

  module _ (first : List ℕ) (σ : Session) where
    abbrev t₂ : Tally
    t₂ = record { phase = ShapeValues; session = σ }

    shaped : (second : List ℕ) (lines : List (List ℕ)) (x : Values second) → eqb (length x.values) 3 ≡ true
        → Each (second ∷ lines) → From t₂ (second ∷ lines) → Second (first ∷ second ∷ lines)
    shaped second lines x n each e =
        let xs : List ℕ = x.values in
        let σ₃ : Session = fresh_of (shape_in xs) in
        let u = each_first each in
        let three : paper.ThreeValues (first ∷ second ∷ lines) xs = (omega arith, x.has, eqb-true (length xs) 3 n) in
        inr (
          λ nothing. nothing xs three,
          ⊎_elim
              (λ (law : lawful (shape_in xs) ≡ true).
              inr (
                λ out.
                    let (values, there, wrong) = out in
                    inside (shape_in xs) law
                    (subst (λ (ys : List ℕ). ¬ paper.InLists (paper.shape_of ys)) (line_once there.1 x.has) wrong),
                from_third first second lines xs (each_tail each) three
                    (ends e (passed_on t₂ second lines rest u WordNames σ₃ (second_shape σ second xs x.read n law))),
              ))
              (λ (out : lawful (shape_in xs) ≡ false).
              inl (
                (xs, three, outside _ _ _ out),
                ends e (faulted t₂ second lines rest u σ _ Refusal.Shape (second_outside σ second xs x.read n out)),
              ))
              (either (lawful (shape_in xs))),
        )

    from_second : (lines : List (List ℕ)) → Each lines → From t₂ lines → Second (first ∷ lines)
    from_second [] each e =
        inl (λ values there. let l = there.0 in omega arith, ends e (missing t₂ rest last (closing_in t₂ rest refl)))
    from_second (second ∷ lines) each e =
        let u = each_first each in
        ⊎_elim
        (λ (x : Values second).
        ⊎_elim (λ (n : eqb (length x.values) 3 ≡ true). shaped second lines x n each e)
        (λ (n : eqb (length x.values) 3 ≡ false).
        inl (
          λ values there. eqb-false (length x.values) 3 n (ap length (line_once x.has there.1) ∙ there.2),
          ends e (faulted t₂ second lines rest u σ _ Refusal.Syntax (second_other σ second x.values x.read n)),
        ))
        (either (eqb (length x.values) 3)))
        (λ (x : NoValues second).
        inl (
          λ values there. x.none values there.1,
          ends e (faulted t₂ second lines rest u σ _ Refusal.Syntax (second_none σ second x.read)),
        ))
        (reads second)

  from_first : (lines : List (List ℕ)) → Each lines → From start lines
      → paper.Judged (paper.head_tests lines) (Refusing output) (Accepted lines rest output)
  unfolding start
  from_first [] each e =
      inl (λ named. let l = named.0 in omega arith, ends e (missing start rest last (closing_in start rest refl)))
  from_first (first ∷ lines) each e =
      let σ = start.session in
      let u = each_first each in
      ⊎_elim
      (λ (same : same_bytes first names_shape ≡ true).
      inr (
        λ unnamed. unnamed (omega arith, same_equal first names_shape same),
        from_second first σ lines (each_tail each)
            (ends e (passed_on start first lines rest u ShapeValues σ (first_named first same))),
      ))
      (λ (other : same_bytes first names_shape ≡ false).
      inl (
        λ named. clash (equal_same named.1) other,
        ends e (faulted start first lines rest u σ _ Refusal.Syntax (names_wrong first other)),
      ))
      (either (same_bytes first names_shape))

-- what the program writes is what the paper asks
pub printing : (input : List ℕ) → paper.Prints input (output_of input)
unfolding output_of
printing input =
    let c = cut (take (2 ^ 32 - 1) input) in
    record {
      lines = c.lines;
      rest = c.rest;
      input = record { read = c.read; each = c.each.line; unended = c.unended };
      printed =
          from_first c.rest c.unended (output_of input) c.lines c.each
          (ap (λ (bytes : List ℕ). names_outcome ++ coming start bytes) c.read);
    }
